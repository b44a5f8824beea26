-- What a sound planner shows: best flows, the extreme cuts, the worst hurdle.
use Rattle.std.proofs.Common.{◌≡◌, ℕ, ◌+◌, Bool, None, refl, arith}
use Rattle.plant.specs.Held.{flows_of}
use Rattle.plant.specs.Plants.{Junctions}
use Rattle.cuts.proofs.Bests.{far_largest, near_smallest}
use Rattle.planner.specs.declared.answer.Side.{Side}
use Rattle.planner.specs.declared.answer.Side.TheVariants.{Near, Far}
use Rattle.planner.specs.declared.machine.Planner.{Planner}
use Rattle.planner.specs.declared.machine.State.{State}
use Rattle.planner.specs.declared.machine.State.TheVariants.{Idle, StageOne, StageTwo, SettledFlow, SettledImpossible}
use Rattle.planner.specs.Cuts.{CutSet, HurdleSet}
use Rattle.planner.specs.Readings.{CutShown, Facts, HurdleShown, test_flow, test_hurdle}
use Rattle.planner.specs.Standing.{Sound, arcs_in, plant_in}
use Rattle.planner.specs.Views.{view}
use Rattle.planner.proofs.Cuts.{far_unreaching, held_both, held_ends, near_reached}
use Rattle.planner.proofs.Laws.{flow_best, flow_lines, stuck_blocked, stuck_ended, stuck_none}
use Rattle.planner.proofs.Questions.{sound_plant}
use Rattle.planner.proofs.Steps.{hurdle_reach, sound_ends}

-- a state in which a flow, or a hurdle, may be read
pub with_flow : (m : State) → test_flow m ≡ None → m ≡ SettledFlow
with_flow Idle e = absurd (let z : ◌≡◌ {A = ℕ} 0 1 = cc in omega arith)
with_flow StageOne e = absurd (let z : ◌≡◌ {A = ℕ} 0 1 = cc in omega arith)
with_flow StageTwo e = absurd (let z : ◌≡◌ {A = ℕ} 0 1 = cc in omega arith)
with_flow SettledFlow e = refl
with_flow SettledImpossible e = absurd (let z : ◌≡◌ {A = ℕ} 0 1 = cc in omega arith)

pub with_hurdle : (m : State) → test_hurdle m ≡ None → m ≡ SettledImpossible
with_hurdle Idle e = absurd (let z : ◌≡◌ {A = ℕ} 0 1 = cc in omega arith)
with_hurdle StageOne e = absurd (let z : ◌≡◌ {A = ℕ} 0 1 = cc in omega arith)
with_hurdle StageTwo e = absurd (let z : ◌≡◌ {A = ℕ} 0 1 = cc in omega arith)
with_hurdle SettledFlow e = absurd (let z : ◌≡◌ {A = ℕ} 0 1 = cc in omega arith)
with_hurdle SettledImpossible e = refl

module _ {C : Type 0} (has : C → ℕ → Bool) where
  facts_by : (p : Planner C) → Sound has p → (m : State) → p.state ≡ m → Facts m (view p)
  facts_by p s Idle e = tt
  facts_by p s StageOne e = tt
  facts_by p s StageTwo e = tt
  facts_by p s SettledFlow e = (flow_lines has p s e, flow_best has p s e)
  facts_by p s SettledImpossible e = stuck_none has p s e

  -- a sound planner that is settled has a best flow, or a plant with none
  pub facts : (p : Planner C) → Sound has p → Facts p.state (view p)
  facts p s = facts_by p s p.state refl

  -- what residuals tell of a settled flow are its near and its far cut
  pub cut_shown : (p : Planner C) (side : Side) (S : Junctions) → Sound has p → test_flow p.state ≡ None
      → CutSet side p.plant.aim (plant_in p).junctions (arcs_in p) S → CutShown (view p) side S
  cut_shown p Near S s t c =
      let e = with_flow p.state t in
      let r = near_reached p.plant.aim (plant_in p) (arcs_in p) S (flow_lines has p s e) (held_ends p.plant) (held_both p.plant) c in
      record { residuals = c; extreme = (near_smallest p.plant.aim (plant_in p) (flows_of (arcs_in p)) S (sound_plant p.plant) (flow_best has p s e) r).0 }
  cut_shown p Far S s t c =
      let e = with_flow p.state t in
      let r = far_unreaching p.plant.aim (plant_in p) (arcs_in p) S (flow_lines has p s e) (held_ends p.plant) (held_both p.plant) c in
      record { residuals = c; extreme = (far_largest p.plant.aim (plant_in p) (flows_of (arcs_in p)) S (sound_plant p.plant) (flow_best has p s e) r).0 }

  -- and of an impossible plant, its worst hurdle
  pub hurdle_shown : (p : Planner C) (S : Junctions) → Sound has p → test_hurdle p.state ≡ None
      → HurdleSet (plant_in p).junctions (arcs_in p) S → HurdleShown (view p) S
  hurdle_shown p S s t c =
      let e = with_hurdle p.state t in
      let b = stuck_ended has p s e in
      let r = hurdle_reach (plant_in p).junctions (arcs_in p) S (sound_ends (p.plant.n + 2) (arcs_in p) b.ended.holds.standing.lines) c in
      record { residuals = c; worst = (stuck_blocked has p s e).worst S (record { below = λ v z. ((r v).0 z).0; inside = λ v z. ((r v).0 z).1; outside = λ v l f. (r v).1 l f }) }
