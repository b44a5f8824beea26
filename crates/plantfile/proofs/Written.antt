-- What passes the tests fits its bytes.
use Rattle.std.proofs.Common.{◌≡◌, ℕ, ◌≤◌, Bool, true, false, ◌||◌, ltb, leb, List, [], ◌∷◌, length, Some, None, Ok, Err, Option, Result, sym, refl, ap, ◌∙◌, arith, ltb-false, leb-false}
use Rattle.std.proofs.ByRecursion.{All-from_get_or}
use Rattle.std.specs.List.{AllByRecursion}
use Rattle.plant.proofs.Tested.{passed}
use Rattle.plant.specs.Fine.{Fine}
use Rattle.plant.specs.Plants.{no_line}
use Rattle.plant.specs.Tests.{aim_numbered, pass, test, test_list, test_trial, tested, unless}
use Rattle.plant.specs.declared.aim.Aim.{Aim}
use Rattle.plant.specs.declared.decline.Decline.{Decline}
use Rattle.plant.specs.declared.decline.Decline.TheVariants.{AimNumber, LineLimits, LineNumber}
use Rattle.plant.specs.declared.line.Line.{Line}
use Rattle.plant.specs.declared.line.Trial.{Trial}
use Rattle.plantfile.specs.Format.{parse}
use Rattle.plantfile.specs.Round.{FitsLine, FitsTrial, WrittenReadsBack}
use Rattle.plantfile.specs.Writing.{test_each, test_trials, then_test}
use Rattle.plantfile.proofs.Laying.{few_each, few_tested, file_of, rest_of}
use Rattle.plantfile.proofs.Round.{reads_back}

fits_line : (n : ℕ) (l : Line) → n ≤ 250 → Fine n l → FitsLine l
fits_line n l most f =
    let a = f.0 in
    let b = f.1 in
    let c = f.3 in
    let d = f.4 in
    (omega arith, omega arith, omega arith, omega arith)

neither : (x y : Bool) → (x || y) ≡ false → (x ≡ false) × (y ≡ false)
neither true y e = absurd (let z : ◌≡◌ {A = ℕ} 0 1 = cc in omega arith)
neither false y e = (refl, e)

two_pass : (x y : Bool) → test LineNumber x (test LineLimits y None) ≡ None → (x ≡ false) × (y ≡ false)
two_pass true y e = absurd (let z : ◌≡◌ {A = ℕ} 0 1 = cc in omega arith)
two_pass false true e = absurd (let z : ◌≡◌ {A = ℕ} 0 1 = cc in omega arith)
two_pass false false e = (refl, refl)

fits_trial : (m : ℕ) (t : Trial) → m ≤ 1000 → test_trial m t.line t.low t.high ≡ None → FitsTrial t
fits_trial m t few e =
    let p = two_pass (leb m t.line) (ltb t.high t.low || ltb 1000000 t.high) e in
    let q = neither (ltb t.high t.low) (ltb 1000000 t.high) p.1 in
    let a = leb-false m t.line p.0 in
    let b = ltb-false t.high t.low q.0 in
    let d = ltb-false 1000000 t.high q.1 in
    (omega arith, omega arith, omega arith)

pub both_pass : (o on : Option Decline) → then_test o on ≡ None → (o ≡ None) × (on ≡ None)
both_pass None on e = (refl, e)
both_pass (Some d) on e = absurd (let z : ◌≡◌ {A = ℕ} 0 1 = cc in omega arith)

fit_trials : (m : ℕ) (ts : List Trial) → m ≤ 1000 → test_each m ts ≡ None → AllByRecursion FitsTrial ts
fit_trials m [] few e = tt
fit_trials m (t ∷ ts) few e =
    let p = both_pass (test_trial m t.line t.low t.high) (test_each m ts) e in
    (fits_trial m t few p.0, fit_trials m ts few p.1)

aim_is : (o : Option Aim) (t : Option Decline) (x : Aim) → ◌≡◌ {A = Result Aim Decline} (Ok x) (elim o [ Some aim ↦ unless t aim | None ↦ Err AimNumber ]) → o ≡ Some x
aim_is (Some a) None x e = cc
aim_is (Some a) (Some d) x e = absurd (let z : ◌≡◌ {A = ℕ} 0 1 = cc in omega arith)
aim_is None t x e = absurd (let z : ◌≡◌ {A = ℕ} 0 1 = cc in omega arith)

unless_is : (o : Option Decline) (bs text : List ℕ) → unless o bs ≡ Ok text → (o ≡ None) × (bs ≡ text)
unless_is None bs text e = (refl, cc)
unless_is (Some d) bs text e = absurd (let z : ◌≡◌ {A = ℕ} 0 1 = cc in omega arith)

module _ (n : ℕ) (ls : List Line) (ts : List Trial) (a : ℕ) (text : List ℕ) where
  abbrev Back : Type 0
  Back = (aim : Aim) × (aim_numbered a ≡ Some aim) × (parse text ≡ Ok (record { junctions = n; lines = ls; trials = ts; aim = aim }))

  back : (r : Result Aim Decline) → r ≡ tested n ls a → rest_of n ls ts a r ≡ Ok text → Back
  back (Err d) e h = absurd (let z : ◌≡◌ {A = ℕ} 0 1 = cc in omega arith)
  back (Ok aim) e h =
      let u = unless_is (test_trials (length ls) ts) (file_of n ls ts a aim) text h in
      let p = passed n a ls aim e in
      let few = few_tested (length ls) ts (sym (ap pass u.0)) in
      let each = sym (few_each (length ls) ts few) ∙ u.0 in
      let most = p.most in (
        aim,
        aim_is (aim_numbered a) (test_list n ls None) aim e,
        ap parse (sym u.1) ∙ reads_back (record { junctions = n; lines = ls; trials = ts; aim = aim }) (record {
          junctions = omega arith;
          lines = All-from_get_or FitsLine ls no_line (λ i lt. fits_line n _ most (p.fine i lt));
          trials = fit_trials (length ls) ts p.few each;
          few = few;
        }),
      )

pub written_reads_back : WrittenReadsBack
written_reads_back n ls ts a text h = back n ls ts a text (tested n ls a) refl h
