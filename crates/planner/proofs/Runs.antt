-- Runs over both stages.
use Rattle.std.proofs.Common.{◌≡◌, ℕ, ◌+◌, ◌-◌, ◌≤◌, Bool, true, Option, refl, ◌∙◌, arith}
use Rattle.stage.specs.First.{filled}
use Rattle.planner.specs.declared.answer.Outcome.{Outcome}
use Rattle.planner.specs.declared.answer.Outcome.TheVariants.{InWork, Flow, Impossible}
use Rattle.planner.specs.declared.machine.Planner.{Planner}
use Rattle.planner.specs.declared.machine.State.TheVariants.{StageOne}
use Rattle.planner.specs.Standing.{Quiet, arcs_in, stage_in}
use Rattle.planner.specs.Works.{InOne, InTwo, OpenedTwo, Reached, Runs, through}

reached_later : {C : Type 0} (oc : Outcome) (most m k : ℕ) (p : Planner C) → m ≤ most → Reached (most - m) oc k p → Reached most oc (m + k) p
reached_later InWork most m k p h r = (omega (arith, r.0), r.1)
reached_later Flow most m k p h r = r
reached_later Impossible most m k p h r = r

module _ {C : Type 0} (has : C → ℕ → Bool) (clears : C → C → Type 0) (puts : C → ℕ → ℕ → C → Type 0) (takes : C → Option ℕ → C → Type 0) where
  -- stage one, and then stage two
  pub runs_through : (p e o p' : Planner C) (most m k : ℕ) (oc : Outcome) → p.state ≡ StageOne → InOne has clears puts takes p most m e →
      Quiet e.plant.n (e.plant.n + 1) (stage_in e).rows → filled e.plant.n (arcs_in e) ≡ true → OpenedTwo has clears puts takes e o →
      InTwo has clears puts takes o (most - m) k p' → Runs has clears puts takes o (most - m) oc k p' → Runs has clears puts takes p most oc (m + k) p'
  runs_through p e o p' most m k oc es one quiet full opens two r =
      record {
        ways = through es (record { ended = e; opened = o; before = m; after = k; first = one; quiet = quiet; full = full; opens = opens; second = two; sum = refl });
        ends = reached_later oc most m k p' one.few r.ends;
        few = omega (arith, one.few, r.few);
        plant = r.plant ∙ opens.plant ∙ one.plant;
      }
