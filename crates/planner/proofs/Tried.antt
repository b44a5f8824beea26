-- A list that passed the tests passes them with other limits on one line.
use Rattle.std.proofs.Common.{◌≡◌, ℕ, zero, suc, Bool, true, false, ◌||◌, ltb, leb, List, [], ◌∷◌, length, get_or, set, Some, None, Ok, Err, Option, Result, refl, ap, ◌∙◌, arith}
use Rattle.std.proofs.lemmas.List.{length-set}
use Rattle.plant.specs.declared.aim.Aim.{Aim}
use Rattle.plant.specs.declared.decline.Decline.{Decline}
use Rattle.plant.specs.declared.decline.Decline.TheVariants.{AimNumber, JunctionCount, LineCount, LineEnds, LineDirection, LineLimits, LineNumber}
use Rattle.plant.specs.declared.line.Line.{Line}
use Rattle.plant.specs.Plants as plants
use Rattle.plant.specs.Plants.{no_line}
use Rattle.plant.specs.Tests.{aim_numbered, bad_direction, bad_ends, bad_limits, pass, test, test_limits, test_lines, test_list, test_trial, tested, unless}
use Rattle.planner.specs.Limits.{limited}

no_some : {d : Decline} {X : Type 0} → Some d ≡ None → X
no_some {d} e = absurd (let z : ◌≡◌ {A = ℕ} 0 1 = cc in omega arith)

pub test_off : (d : Decline) (a : Bool) (on : Option Decline) → test d a on ≡ None → (a ≡ false) × (on ≡ None)
test_off d true on e = no_some e
test_off d false on e = (refl, e)

off_test : (d : Decline) (a : Bool) (on : Option Decline) → a ≡ false → on ≡ None → test d a on ≡ None
off_test d a on e f = rw e f

lines_limited : (n low high : ℕ) (ls : List Line) (k : ℕ) → bad_limits low high ≡ false → test_lines n ls None ≡ None →
    test_lines n (set ls k (plants.limited (get_or ls k no_line) low high)) None ≡ None
lines_limited n low high [] k b e = e
lines_limited n low high (l ∷ ls) zero b e =
    let x = test_off LineEnds (bad_ends n l) _ e in
    let y = test_off LineDirection (bad_direction l) _ x.1 in
    let z = test_off LineLimits (bad_limits l.low l.high) (test_lines n ls None) y.1 in
    off_test LineEnds (bad_ends n l) _ x.0 (off_test LineDirection (bad_direction l) _ y.0 (off_test LineLimits (bad_limits low high) (test_lines n ls None) b z.1))
lines_limited n low high (l ∷ ls) (suc k) b e =
    let on = test_lines n (set ls k (plants.limited (get_or ls k no_line) low high)) None in
    let x = test_off LineEnds (bad_ends n l) _ e in
    let y = test_off LineDirection (bad_direction l) _ x.1 in
    let z = test_off LineLimits (bad_limits l.low l.high) (test_lines n ls None) y.1 in
    off_test LineEnds (bad_ends n l) _ x.0
    (off_test LineDirection (bad_direction l) _ y.0 (off_test LineLimits (bad_limits l.low l.high) on z.0 (lines_limited n low high ls k b z.1)))

list_limited : (n low high : ℕ) (ls : List Line) (k : ℕ) → bad_limits low high ≡ false → test_list n ls None ≡ None → test_list n (limited ls k low high) None ≡ None
unfolding limited
list_limited n low high ls k b e =
    let ms = set ls k (plants.limited (get_or ls k no_line) low high) in
    let x = test_off JunctionCount (ltb n 2 || ltb 250 n) _ e in
    let y = test_off LineCount (ltb 1000 (length ls)) (test_lines n ls None) x.1 in
    let m : ltb 1000 (length ms) ≡ false = ap (ltb 1000) (length-set ls k (plants.limited (get_or ls k no_line) low high)) ∙ y.0 in
    off_test JunctionCount (ltb n 2 || ltb 250 n) _ x.0 (off_test LineCount (ltb 1000 (length ms)) (test_lines n ms None) m (lines_limited n low high ls k b y.1))

by_aim : (o : Option Aim) (t t' : Option Decline) (aim : Aim) → (t ≡ None → t' ≡ None) →
    ◌≡◌ {A = Result Aim Decline} (elim o [ Some x ↦ unless t x | None ↦ Err AimNumber ]) (Ok aim) → ◌≡◌ {A = Result Aim Decline} (elim o [ Some x ↦ unless t' x | None ↦ Err AimNumber ]) (Ok aim)
by_aim (Some x) None t' aim f e = rw (f refl) e
by_aim (Some x) (Some d) t' aim f e = absurd (let z : ◌≡◌ {A = ℕ} 0 1 = cc in omega arith)
by_aim None t t' aim f e = absurd (let z : ◌≡◌ {A = ℕ} 0 1 = cc in omega arith)

pub limited_tested : (n a k low high : ℕ) (ls : List Line) (aim : Aim) → tested n ls a ≡ Ok aim → test_trial (length ls) k low high ≡ None → tested n (limited ls k low high) a ≡ Ok aim
limited_tested n a k low high ls aim e t =
    let x = test_off LineNumber (leb (length ls) k) (test_limits low high None) t in
    let y = test_off LineLimits (bad_limits low high) None x.1 in
    by_aim (aim_numbered a) (test_list n ls None) (test_list n (limited ls k low high) None) aim (list_limited n low high ls k y.0) e

-- what a passed or failed test says
pub passed_none : (o : Option Decline) → pass o ≡ Ok tt → o ≡ None
passed_none None e = refl
passed_none (Some d) e = absurd (let z : ◌≡◌ {A = ℕ} 0 1 = cc in omega arith)

pub failed_some : (o : Option Decline) (d : Decline) → pass o ≡ Err d → o ≡ Some d
failed_some None d e = absurd (let z : ◌≡◌ {A = ℕ} 0 1 = cc in omega arith)
failed_some (Some x) d e = cc

pub not_both : {X : Type 0} (r : Result Aim Decline) (aim : Aim) (d : Decline) → r ≡ Ok aim → r ≡ Err d → X
not_both r aim d e f = absurd (let z : ◌≡◌ {A = ℕ} 0 1 = cc in omega arith)

pub same_aim : (r : Result Aim Decline) (x y : Aim) → r ≡ Ok x → r ≡ Ok y → x ≡ y
same_aim r x y e f = cc
