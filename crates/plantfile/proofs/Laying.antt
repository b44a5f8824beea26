-- The tests before a file is written, and the file in its buffer.
use Rattle.std.proofs.Common.{◌≡◌, ℕ, ◌+◌, ◌*◌, ◌<◌, ◌≤◌, Bool, true, false, ltb, List, [], ◌∷◌, ◌++◌, length, Some, None, Ok, Err, Option, Result, sym, refl, ap, ◌∙◌, arith, length-append, ltb-false, le-ltb, le-leb}
use borrow.Author.Tests.{lt-leb}
use Rattle.std.specs.List.{flat_map}
use Rattle.plant.specs.Tests.{pass, test, tested, unless}
use Rattle.plant.specs.declared.aim.Aim.{Aim}
use Rattle.plant.specs.declared.decline.Decline.{Decline}
use Rattle.plant.specs.declared.decline.Decline.TheVariants.{BufferLength, TrialCount}
use Rattle.plant.specs.declared.line.Line.{Line}
use Rattle.plant.specs.declared.line.Trial.{Trial}
use Rattle.plantfile.specs.Writing.{Laid, aim_byte, encoded, line_bytes, test_each, test_trials, then_test, trial_bytes, written}
use Rattle.plantfile.proofs.Commands.{length_pieces}
use Rattle.text.specs.Pieces.{Puts}
use Rattle.text.proofs.Paste.{pasted_start}

-- a test, and those after it
pub then_passes : (o on : Option Decline) → Ok tt ≡ pass o → then_test o on ≡ on
then_passes None on e = refl
then_passes (Some d) on e = absurd (let z : ◌≡◌ {A = ℕ} 0 1 = cc in omega arith)

pub then_fails : (o on : Option Decline) (d : Decline) → Err d ≡ pass o → then_test o on ≡ Some d
then_fails (Some x) on d e = cc
then_fails None on d e = absurd (let z : ◌≡◌ {A = ℕ} 0 1 = cc in omega arith)

-- few enough trials, so each counts
pub few_each : (m : ℕ) (ts : List Trial) → length ts ≤ 64 → test_trials m ts ≡ test_each m ts
few_each m ts h = rw (le-ltb 64 (length ts) h) refl

pub few_tested : (m : ℕ) (ts : List Trial) → Ok tt ≡ pass (test_trials m ts) → length ts ≤ 64
few_tested m ts e = ltb-false 64 (length ts) (go (ltb 64 (length ts)) e)
  where
    go : (b : Bool) → Ok tt ≡ pass (test TrialCount b (test_each m ts)) → b ≡ false
    go false e = refl
    go true e = absurd (let z : ◌≡◌ {A = ℕ} 0 1 = cc in omega arith)

module _ {A : Type 0} (a : A) where
  unless_passed : (o : Option Decline) → Ok tt ≡ pass o → unless o a ≡ Ok a
  unless_passed None e = refl
  unless_passed (Some d) e = absurd (let z : ◌≡◌ {A = ℕ} 0 1 = cc in omega arith)

  unless_failed : (o : Option Decline) (d : Decline) → Err d ≡ pass o → unless o a ≡ Err d
  unless_failed (Some x) d e = cc
  unless_failed None d e = absurd (let z : ◌≡◌ {A = ℕ} 0 1 = cc in omega arith)

module _ (n : ℕ) (ls : List Line) (ts : List Trial) (a : ℕ) where
  -- what is then written
  abbrev pub file_of : Aim → List ℕ
  file_of aim = encoded (record { junctions = n; lines = ls; trials = ts; aim = aim })

  -- what follows the tests of the plant
  abbrev pub rest_of : Result Aim Decline → Result (List ℕ) Decline
  rest_of r = elim r [
    | Ok aim ↦ unless (test_trials (length ls) ts) (file_of aim)
    | Err d ↦ Err d
  ]

  pub length_file : (aim : Aim) → length (file_of aim) ≡ 3 + 11 * (length ls + length ts)
  length_file aim =
      let l = flat_map line_bytes ls in
      let t = flat_map trial_bytes ts in
      let p = length_pieces line_bytes (λ _. refl) ls in
      let q = length_pieces trial_bytes (λ _. refl) ts in
      let d = length-append l (t ++ aim_byte aim ∷ []) in
      let e = length-append t (aim_byte aim ∷ []) in
      omega arith

  pub plant_fails : (buf : List ℕ) (d : Decline) → Err d ≡ tested n ls a → Laid (written n ls ts a) buf (Err d) buf
  plant_fails buf d e = let w : written n ls ts a ≡ Err d = ap rest_of (sym e) in rw w (refl, refl)

  module _ (aim : Aim) (plant-passes : Ok aim ≡ tested n ls a) where
    pub trials_fail : (buf : List ℕ) (d : Decline) → Err d ≡ pass (test_trials (length ls) ts) → Laid (written n ls ts a) buf (Err d) buf
    trials_fail buf d e =
        let w : written n ls ts a ≡ Err d = ap rest_of (sym plant-passes) ∙ unless_failed (file_of aim) (test_trials (length ls) ts) d e in
        rw w (refl, refl)

    module _ (trials-pass : Ok tt ≡ pass (test_trials (length ls) ts)) where
      is_written : written n ls ts a ≡ Ok (file_of aim)
      is_written = ap rest_of (sym plant-passes) ∙ unless_passed (file_of aim) (test_trials (length ls) ts) trials-pass

      pub no_room : (buf : List ℕ) → length buf < 3 + 11 * (length ls + length ts) → Laid (written n ls ts a) buf (Err BufferLength) buf
      no_room buf short =
          let l = length_file aim in
          rw is_written (rw (lt-leb (length (file_of aim)) (length buf) (omega arith)) (refl, refl))

      pub all_laid : (buf after : List ℕ) (r : ℕ) → 3 + 11 * (length ls + length ts) ≤ length buf → Puts (file_of aim) buf 0 r after → Laid (written n ls ts a) buf (Ok r) after
      all_laid buf after r room p =
          let l = length_file aim in
          let e = p.end in
          let is : r ≡ length (file_of aim) = omega arith in
          rw is_written (rw (le-leb (length (file_of aim)) (length buf) (omega arith)) (ap Ok is, p.is ∙ pasted_start buf (file_of aim)))
