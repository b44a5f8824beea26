-- Trials, one after another.
use Rattle.std.proofs.Common.{◌≡◌, ℕ, ◌<◌, leb, ◌⊎◌, List, [], ◌∷◌, ◌++◌, length, get_or, pos, Some, None, Option, sym, refl, ap, ◌∙◌, subst, ⊎_elim, arith, length-append}
use Rattle.std.proofs.lemmas.List.{get_or_append_left, get_or_at}
use Rattle.std.proofs.lemmas.Bool.{leb-false}
use Rattle.chooser.specs.declared.fifo.Fifo.{Fifo}
use Rattle.chooser.specs.FifoCalls.{holds}
use Rattle.plant.specs.declared.aim.Aim.{Aim}
use Rattle.plant.specs.declared.decline.Decline.{Decline}
use Rattle.plant.specs.declared.decline.Decline.TheVariants.{LineNumber}
use Rattle.plant.specs.declared.line.Line.{Line}
use Rattle.plant.specs.Held.{flows_of}
use Rattle.plant.specs.Plants as plants
use Rattle.plant.specs.Plants.{Best, Feasible, Flow, Plant, with_limits}
use Rattle.plant.specs.Tests.{aim_numbered, test_limits, test_list, test_trial, tested}
use Rattle.plant.proofs.Tested.{passed}
use Rattle.planner.specs.Calls.{Settles, TrialDone, TrialFails, limits_fail, plant_fails}
use Rattle.planner.specs.declared.answer.Outcome.{Outcome}
use Rattle.planner.specs.declared.answer.Outcome.TheVariants as outcomes
use Rattle.planner.specs.declared.machine.Planner.{Planner}
use Rattle.planner.specs.declared.machine.State.TheVariants.{SettledImpossible}
use Rattle.planner.specs.Limits.{limited}
use Rattle.planner.specs.Standing.{Sound, arcs_in, plant_in}
use Rattle.planner.proofs.Laws.{flow_best, stuck_none}
use Rattle.planner.proofs.Tried.{not_both, same_aim, test_off}
use Rattle.plant.specs.declared.line.Trial.{Trial}
use Rattle.plantfile.specs.Writing.{test_each}
use Rattle.plantfile.proofs.Written.{both_pass}
use Rattle.sheet_text.specs.Sheets.{BestTotal, TriedAll, TriedOne, no_trial}
use Rattle.sheet_text.proofs.Kept.{each_more}
use Rattle.sheet_text.proofs.Testing.{list_tested}
use Rattle.text.specs.declared.sheets.Tried.{Tried}
use Rattle.text.specs.Text.{nothing}

-- the plant of a trial
limits_are : (n k low high : ℕ) (ls : List Line) → ◌≡◌ {A = Plant} (record { junctions = n; lines = limited ls k low high }) (with_limits (record { junctions = n; lines = ls }) k low high)
unfolding limited
limits_are n k low high ls = refl

settled_none : (o : Outcome) {m : _} → (o ≡ outcomes.InWork) ⊎ (o ≡ outcomes.Impossible) → Settles o m → m ≡ SettledImpossible
settled_none outcomes.InWork h s = absurd s
settled_none outcomes.Flow h s = ⊎_elim (λ e. absurd (let z : ◌≡◌ {A = ℕ} 0 1 = cc in omega arith)) (λ e. absurd (let z : ◌≡◌ {A = ℕ} 0 1 = cc in omega arith)) h
settled_none outcomes.Impossible h s = s

module _ (n a k low high : ℕ) (ls : List Line) (aim : Aim) (number : aim_numbered a ≡ Some aim) (list : test_list n ls None ≡ None) (limits : test_trial (length ls) k low high ≡ None) where
  -- a trial that passes its tests is not declined
  pub trial_never : (d : Decline) → TrialFails n ls a k low high d → ⊥
  trial_never d (plant_fails e) = not_both (tested n ls a) aim d (list_tested n a ls aim number list) e
  trial_never d (limits_fail x t e) = absurd (let z : ◌≡◌ {A = ℕ} 0 1 = cc in omega arith)

  pub line_small : k < 1000
  line_small =
      let off = test_off LineNumber (leb (length ls) k) (test_limits low high None) limits in
      omega (arith, leb-false (length ls) k off.0, (passed n a ls aim (sym (list_tested n a ls aim number list))).few)

  module _ (clears : Fifo → Fifo → Type 0) (puts : Fifo → ℕ → ℕ → Fifo → Type 0) (takes : Fifo → Option ℕ → Fifo → Type 0) (p p' : Planner Fifo) (o : Outcome)
      (sound : Sound holds p') (done : TrialDone holds clears puts takes n ls a k low high p o p') where
    same_plant : plant_in p' ≡ with_limits (record { junctions = n; lines = ls }) k low high
    same_plant = done.plant ∙ limits_are n k low high ls

    own_aim : p'.plant.aim ≡ aim
    own_aim = same_aim (tested n ls a) p'.plant.aim aim done.tests (list_tested n a ls aim number list)

    -- its total is the best
    pub flow_tried : o ≡ outcomes.Flow → (x : ℕ) → plants.total (plant_in p') (flows_of (arcs_in p')) ≡ pos x → BestTotal aim (with_limits (record { junctions = n; lines = ls }) k low high) (Some x)
    flow_tried e x t =
        let f = flows_of (arcs_in p') in
        let b = flow_best holds p' sound (subst (λ (z : Outcome). Settles z p'.state) e done.settles) in
        let b₁ = subst (λ (z : Aim). Best z (plant_in p') f) own_aim b in
        (f, subst (λ (P : Plant). Best aim P f) same_plant b₁, ap (λ (P : Plant). plants.total P f) (sym same_plant) ∙ t)

    -- or no flow is feasible
    pub none_tried : (o ≡ outcomes.InWork) ⊎ (o ≡ outcomes.Impossible) → BestTotal aim (with_limits (record { junctions = n; lines = ls }) k low high) None
    none_tried h = subst (λ (P : Plant). (f : Flow) → Feasible P f → ⊥) same_plant (stuck_none holds p' sound (settled_none o h done.settles))

-- each trial of a list that passes its tests passes them
pub one_passes : (m : ℕ) (xs : List Trial) (t : Trial) (rest : List Trial) → test_each m (xs ++ t ∷ rest) ≡ None → test_trial m t.line t.low t.high ≡ None
one_passes m [] t rest e = (both_pass (test_trial m t.line t.low t.high) (test_each m rest) e).0
one_passes m (x ∷ xs) t rest e = one_passes m xs t rest (both_pass (test_trial m x.line x.low x.high) (test_each m (xs ++ t ∷ rest)) e).1

-- one trial more that was tried
pub tried_more : (aim : Aim) (P : Plant) (ts : List Trial) (rs : List Tried) (t : Trial) (r : Tried) → TriedAll aim P ts rs → TriedOne aim P t r → TriedAll aim P (ts ++ t ∷ []) (rs ++ r ∷ [])
tried_more aim P ts rs t r all one =
    let n = length-append ts (t ∷ []) in
    let m = length-append rs (r ∷ []) in
    record {
      count = omega (arith, all.count);
      each = λ i l. each_more (λ k y. TriedOne aim P (get_or (ts ++ t ∷ []) k no_trial) y) rs nothing r
          (λ k h. subst (λ x. TriedOne aim P x (get_or rs k nothing)) (sym (get_or_append_left ts (t ∷ []) no_trial k (omega (arith, all.count)))) (all.each k (omega (arith, all.count))))
          (subst (λ x. TriedOne aim P x r) (sym (get_or_at ts t [] no_trial (length rs) (sym all.count))) one)
          i (omega (arith, all.count));
    }
