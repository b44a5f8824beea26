-- A trial settles.
use Rattle.std.proofs.Common.{◌≡◌, ℕ, ◌<◌, Bool, List, length, Ok, Err, Option, Result, sym, refl, ap, ◌∙◌, subst, arith}
use Rattle.plant.specs.declared.aim.Aim.{Aim}
use Rattle.plant.specs.declared.decline.Decline.{Decline}
use Rattle.plant.specs.declared.held_plant.HeldPlant.{HeldPlant}
use Rattle.plant.specs.declared.line.Line.{Line}
use Rattle.plant.specs.Held.{plant_of}
use Rattle.plant.specs.Tests.{pass, test_trial, tested}
use Rattle.planner.specs.declared.answer.Outcome.{Outcome}
use Rattle.planner.specs.declared.answer.Outcome.TheVariants.{InWork, Flow, Impossible}
use Rattle.planner.specs.declared.machine.Planner.{Planner}
use Rattle.planner.specs.Calls.{Settles, Started, TrialDone, Trials, limits_fail}
use Rattle.planner.specs.Limits.{limited}
use Rattle.planner.specs.Standing.{Sound}
use Rattle.planner.specs.Works.{Reached, Runs}
use Rattle.planner.proofs.Laws.{run_short}
use Rattle.planner.proofs.Tried.{failed_some, limited_tested, not_both, passed_none, same_aim}

settles_by : {C : Type 0} (oc : Outcome) (m : ℕ) (p : Planner C) → m < 800000000 → Reached 4294967295 oc m p → Settles oc p.state
settles_by InWork m p k r = omega (arith, r.0)
settles_by Flow m p k r = r
settles_by Impossible m p k r = r

module _ {C : Type 0} (has : C → ℕ → Bool) (clears : C → C → Type 0) (puts : C → ℕ → ℕ → C → Type 0) (takes : C → Option ℕ → C → Type 0)
    (n a k low high : ℕ) (ls ms : List Line) (aim : Aim) (et : Ok aim ≡ tested n ls a) where
  pub trial_done : (p q p' : Planner C) (m : ℕ) (oc : Outcome) → Ok tt ≡ pass (test_trial (length ls) k low high) → ms ≡ limited ls k low high → Sound has p' →
      Started has clears puts takes n ms a p q → Runs has clears puts takes q 4294967295 oc m p' → TrialDone has clears puts takes n ls a k low high p oc p'
  trial_done p q p' m oc el em s b r =
      let none = passed_none (test_trial (length ls) k low high) (sym el) in
      let b' : Started has clears puts takes n (limited ls k low high) a p q = subst (λ (x : List Line). Started has clears puts takes n x a p q) em b in
      let ea = same_aim (tested n (limited ls k low high) a) aim q.plant.aim (limited_tested n a k low high ls aim (sym et) none) b'.tests in
      record {
        started = q;
        made = m;
        tests = sym et ∙ ap (λ (x : Aim). Ok x) (ea ∙ ap (λ (x : HeldPlant). x.aim) (sym r.plant));
        trial_tests = none;
        starts = b';
        runs = r;
        plant = ap plant_of r.plant ∙ b'.plant;
        settles = settles_by oc m p' (run_short has clears puts takes q p' 4294967295 m s r.ways) r.ends;
      }

  -- the start within a trial is not declined
  pub never_fails : {X : Type 0} (d : Decline) → Ok tt ≡ pass (test_trial (length ls) k low high) → ms ≡ limited ls k low high → tested n ms a ≡ Err d → X
  never_fails d el em e =
      let none = passed_none (test_trial (length ls) k low high) (sym el) in
      let e' : tested n (limited ls k low high) a ≡ Err d = subst (λ (x : List Line). tested n x a ≡ Err d) em e in
      not_both (tested n (limited ls k low high) a) aim d (limited_tested n a k low high ls aim (sym et) none) e'

  -- limits that fail their tests
  pub trial_fails : (p : Planner C) (r : Result Outcome Decline) (d : Decline) → Err d ≡ pass (test_trial (length ls) k low high) → r ≡ Err d → Trials has clears puts takes n ls a k low high p r p
  trial_fails p r d e er =
      subst (λ (x : Result Outcome Decline). Trials has clears puts takes n ls a k low high p x p) (sym er) (limits_fail aim (sym et) (failed_some (test_trial (length ls) k low high) d (sym e)), refl)
