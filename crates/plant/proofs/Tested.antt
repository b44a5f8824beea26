-- A list that passes the tests, line by line.
use Rattle.std.proofs.Common.{◌≡◌, ℕ, zero, suc, ◌<◌, ◌≤◌, Bool, true, false, ◌||◌, eqb, ltb, leb, List, [], ◌∷◌, length, get_or, take, Some, None, Ok, Err, Option, Result, sym, refl, ap, ◌∙◌, subst, arith, length-take, ltb-false, leb-false}
use borrow.Author.Tests.{eqb-false}
use Rattle.plant.specs.Fine.{Fine, Outward}
use Rattle.plant.specs.Held.{plant_of}
use Rattle.plant.specs.Plants.{no_line}
use Rattle.plant.specs.Tests.{test_lines, test_list, tested, unless, aim_numbered}
use Rattle.plant.specs.declared.aim.Aim.{Aim}
use Rattle.plant.specs.declared.decline.Decline.TheVariants.{JunctionCount, LineCount, AimNumber}
use Rattle.std.proofs.lemmas.List.{get_or-take}
use Rattle.plant.specs.declared.decline.Decline.{Decline}
use Rattle.plant.specs.declared.decline.Decline.TheVariants.{LineEnds, LineDirection, LineLimits}
use Rattle.plant.specs.declared.held_plant.HeldPlant.{HeldPlant}
use Rattle.plant.specs.declared.line.Line.{Line}
use Rattle.plant.specs.Tests.{test, test_line, bad_ends, bad_direction, bad_limits, pass}

-- what a test answers alone, and with more tests after it
pub record Alone (on : Option Decline) (some more : Option Decline) : Type 0 where
  pub passes : pass some ≡ Ok tt → more ≡ on
  pub fails : (d : Decline) → pass some ≡ Err d → more ≡ Some d

three_tests : (a b c : Decline) (x y z : Bool) (on : Option Decline) → Alone on (test a x (test b y (test c z None))) (test a x (test b y (test c z on)))
three_tests a b c true y z on = record { passes = λ e. absurd (let z : ◌≡◌ {A = ℕ} 0 1 = cc in omega arith); fails = λ d e. cc }
three_tests a b c false true z on = record { passes = λ e. absurd (let z : ◌≡◌ {A = ℕ} 0 1 = cc in omega arith); fails = λ d e. cc }
three_tests a b c false false true on = record { passes = λ e. absurd (let z : ◌≡◌ {A = ℕ} 0 1 = cc in omega arith); fails = λ d e. cc }
three_tests a b c false false false on = record { passes = λ e. refl; fails = λ d e. absurd (let z : ◌≡◌ {A = ℕ} 0 1 = cc in omega arith) }

-- one line's tests
pub line_alone : (n : ℕ) (l : Line) (on : Option Decline) → Alone on (test_line n l None) (test_line n l on)
line_alone n l on = three_tests LineEnds LineDirection LineLimits (bad_ends n l) (bad_direction l) (bad_limits l.low l.high) on

-- a line that passes, and the tests after it
split_test : (a b c : Decline) (x y z : Bool) (on : Option Decline) → test a x (test b y (test c z on)) ≡ None → (x ≡ false) × (y ≡ false) × (z ≡ false) × (on ≡ None)
split_test a b c true y z on e = absurd (let z : ◌≡◌ {A = ℕ} 0 1 = cc in omega arith)
split_test a b c false true z on e = absurd (let z : ◌≡◌ {A = ℕ} 0 1 = cc in omega arith)
split_test a b c false false true on e = absurd (let z : ◌≡◌ {A = ℕ} 0 1 = cc in omega arith)
split_test a b c false false false on e = (refl, refl, refl, e)

line_splits : (n : ℕ) (l : Line) (on : Option Decline) → test_line n l on ≡ None → (bad_ends n l ≡ false) × (bad_direction l ≡ false) × (bad_limits l.low l.high ≡ false) × (on ≡ None)
line_splits n l on e = split_test LineEnds LineDirection LineLimits (bad_ends n l) (bad_direction l) (bad_limits l.low l.high) on e

neither : (x y : Bool) → (x || y) ≡ false → (x ≡ false) × (y ≡ false)
neither true y e = absurd (let z : ◌≡◌ {A = ℕ} 0 1 = cc in omega arith)
neither false y e = (refl, e)

fine_line : (n : ℕ) (l : Line) → bad_ends n l ≡ false → bad_limits l.low l.high ≡ false → Fine n l
fine_line n l e h =
    let a = neither (leb n l.from) (leb n l.to || eqb l.from l.to) e in
    let b = neither (leb n l.to) (eqb l.from l.to) a.1 in
    let d = neither (ltb l.high l.low) (ltb 1000000 l.high) h in
    (leb-false n l.from a.0, leb-false n l.to b.0, eqb-false l.from l.to b.1, ltb-false l.high l.low d.0, ltb-false 1000000 l.high d.1)

-- each line of a list that passes is fine
pub fine_lines : (n : ℕ) (ls : List Line) → test_lines n ls None ≡ None → (k : ℕ) → k < length ls → Fine n (get_or ls k no_line)
fine_lines n [] e k h = absurd (omega arith)
fine_lines n (l ∷ ls) e zero h = let s = line_splits n l (test_lines n ls None) e in fine_line n l s.0 s.2
fine_lines n (l ∷ ls) e (suc k) h = fine_lines n ls (line_splits n l (test_lines n ls None) e).3 k (omega arith)

-- and none ends at the header
pub outward_lines : (n : ℕ) (ls : List Line) → test_lines n ls None ≡ None → (k : ℕ) → k < length ls → Outward (get_or ls k no_line)
outward_lines n [] e k h = absurd (omega arith)
outward_lines n (l ∷ ls) e zero h = eqb-false l.to 0 (neither (eqb l.to 0) (eqb l.from 1) (line_splits n l (test_lines n ls None) e).1).0
outward_lines n (l ∷ ls) e (suc k) h = outward_lines n ls (line_splits n l (test_lines n ls None) e).3 k (omega arith)

unless_none : (o : Option Decline) (x a : Aim) → Ok x ≡ unless o a → o ≡ None
unless_none None x a e = refl
unless_none (Some d) x a e = absurd (let z : ◌≡◌ {A = ℕ} 0 1 = cc in omega arith)

aim_none : (o : Option Aim) (t : Option Decline) (x : Aim) → ◌≡◌ {A = Result Aim Decline} (Ok x) (elim o [ Some aim ↦ unless t aim | None ↦ Err AimNumber ]) → t ≡ None
aim_none (Some a) t x e = unless_none t x a e
aim_none None t x e = absurd (let z : ◌≡◌ {A = ℕ} 0 1 = cc in omega arith)

two_tests : (a b : Decline) (x y : Bool) (on : Option Decline) → test a x (test b y on) ≡ None → (x ≡ false) × (y ≡ false) × (on ≡ None)
two_tests a b true y on e = absurd (let z : ◌≡◌ {A = ℕ} 0 1 = cc in omega arith)
two_tests a b false true on e = absurd (let z : ◌≡◌ {A = ℕ} 0 1 = cc in omega arith)
two_tests a b false false on e = (refl, refl, e)

-- what holds of a list that passes
pub record Passed (n : ℕ) (ls : List Line) : Type 0 where
  pub few : length ls ≤ 1000
  pub least : 2 ≤ n
  pub most : n ≤ 250
  pub fine : (k : ℕ) → k < length ls → Fine n (get_or ls k no_line)
  pub outward : (k : ℕ) → k < length ls → Outward (get_or ls k no_line)

pub passed : (n a : ℕ) (ls : List Line) (x : Aim) → Ok x ≡ tested n ls a → Passed n ls
passed n a ls x e =
    let t = two_tests JunctionCount LineCount (ltb n 2 || ltb 250 n) (ltb 1000 (length ls)) (test_lines n ls None) (aim_none (aim_numbered a) (test_list n ls None) x e) in
    let s = neither (ltb n 2) (ltb 250 n) t.0 in
    record { few = ltb-false 1000 (length ls) t.1; least = ltb-false n 2 s.0; most = ltb-false 250 n s.1; fine = fine_lines n ls t.2; outward = outward_lines n ls t.2 }

-- and of a copy of it in a longer block
pub held_fine : (n a : ℕ) (ls xs : List Line) (x : Aim) → Ok x ≡ tested n ls a → take (length ls) xs ≡ ls →
    (length ls ≤ 1000) × (((2 ≤ n) × (n ≤ 250)) × (((k : ℕ) → k < length ls → Fine n (get_or xs k no_line)) × (((k : ℕ) → k < length ls → Outward (get_or xs k no_line)) × Unit {0})))
held_fine n a ls xs x e h =
    let p = passed n a ls x e in
    (p.few, ((p.least, p.most), ((λ k j. subst (λ (l : Line). Fine n l) (sym (at k j)) (p.fine k j)), ((λ k j. subst (λ (l : Line). Outward l) (sym (at k j)) (p.outward k j)), tt))))
  where
    at : (k : ℕ) → k < length ls → get_or xs k no_line ≡ get_or ls k no_line
    at k j = sym (get_or-take (length ls) xs k no_line j) ∙ ap (λ (ys : List Line). get_or ys k no_line) h

-- an aim, and a list that fails
pub fails_after_aim : (o : Option Aim) (t : Option Decline) (a : Aim) (d : Decline) → ◌≡◌ {A = Result Aim Decline} (Ok a) (elim o [ Some aim ↦ Ok aim | None ↦ Err AimNumber ]) → Err d ≡ pass t →
    ◌≡◌ {A = Result Aim Decline} (Err d) (elim o [ Some aim ↦ unless t aim | None ↦ Err AimNumber ])
fails_after_aim (Some b) (Some x) a d e f = cc
fails_after_aim (Some b) None a d e f = absurd (let z : ◌≡◌ {A = ℕ} 0 1 = cc in omega arith)
fails_after_aim None t a d e f = absurd (let z : ◌≡◌ {A = ℕ} 0 1 = cc in omega arith)

-- the front of a block of fine lines
pub record Front (n : ℕ) (ys : List Line) : Type 0 where
  pub few : length ys ≤ 1000
  pub fine : (k : ℕ) → k < length ys → Fine n (get_or ys k no_line)

pub front_fine : (n count : ℕ) (xs ys : List Line) → ys ≡ take count xs → count ≤ 1000 → ((k : ℕ) → k < count → Fine n (get_or xs k no_line)) → Front n ys
front_fine n count xs ys e few fine = subst (λ (zs : List Line). Front n zs) (sym e) (record { few = omega (arith, short); fine = at })
  where
    short : length (take count xs) ≤ count
    short = omega (arith, length-take count xs)

    at : (k : ℕ) → k < length (take count xs) → Fine n (get_or (take count xs) k no_line)
    at k j = subst (λ (l : Line). Fine n l) (sym (get_or-take count xs k no_line (omega (arith, short)))) (fine k (omega (arith, short)))

-- and the lines that are held are such a front
pub held_front : (h : HeldPlant) → Front h.n (plant_of h).lines
held_front h = front_fine h.n h.count h.lines (plant_of h).lines refl h.few h.fine
