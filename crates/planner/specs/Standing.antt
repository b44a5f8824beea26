-- How a planner stands between two calls.
use Rattle.std.specs.Prelude.{◌≡◌, ℕ, ◌+◌, ◌*◌, ◌<◌, Bool, true, false, List, length}
use Rattle.plant.specs.declared.aim.Aim.{Aim}
use Rattle.plant.specs.declared.aim.Aim.TheVariants.{Greatest, Least}
use Rattle.plant.specs.Held.{Arc, plant_of}
use Rattle.plant.specs.Plants.{Plant}
use Rattle.stage.specs.declared.Row.{Row}
use Rattle.stage.specs.First.{filled, first_arcs, first_lines, second_arcs}
use Rattle.stage.specs.Model.{State, active, begun}
use Rattle.stage.specs.Runs.{Run, Tied, ran, relabels}
use Rattle.preflow.specs.Networks.{state_in}
use Rattle.planner.specs.declared.answer.Tally.{Tally}
use Rattle.planner.specs.Tallies.{no_tally}
use Rattle.planner.specs.declared.machine.Planner.{Planner}
use Rattle.planner.specs.declared.machine.State as mode
use Rattle.planner.specs.declared.machine.State.TheVariants.{Idle, StageOne, StageTwo, SettledFlow, SettledImpossible}

-- where stage two starts, and where it leads
abbrev pub start_of : Aim → ℕ
start_of Greatest = 0
start_of Least = 1

abbrev pub goal_of : Aim → ℕ
goal_of Greatest = 1
goal_of Least = 0

-- few relabels and few discharges, of n junctions and m lines
pub record Few (n m : ℕ) (tally : Tally) : Type 0 where
  pub relabels_few : tally.relabels < 2 * (n * n)
  pub discharges_few : tally.discharges < 4 * (n * n) * (m + 1)

-- the tallies of both stages are within their limits
pub record WithinLimits (P : Plant) (one two : Tally) : Type 0 where
  pub first : Few (P.junctions + 2) (length (first_lines P)) one
  pub second : Few P.junctions (length P.lines) two

-- how each stage begins
abbrev pub first_state : Plant → State
first_state P = begun (P.junctions + 2) P.junctions (first_arcs P)

abbrev pub second_state : Aim → Plant → List Arc → State
second_state aim P found = begun P.junctions (start_of aim) (second_arcs P.lines found)

-- nothing is active
abbrev pub Quiet : ℕ → ℕ → List Row → Type 0
Quiet s t rs = (v : ℕ) → active s t rs v ≡ false

-- discharges of active junctions lead from the beginning to st, and the tally counts them
pub record Done (n s t : ℕ) (began st : State) (tally : Tally) : Type 0 where
  pub taken : List ℕ
  pub run : Run n s t taken began
  pub is : st ≡ ran n taken began
  pub discharged : tally.discharges ≡ length taken
  pub relabelled : tally.relabels ≡ relabels n taken began

-- within stage one
pub record One (P : Plant) (st : State) (one two : Tally) : Type 0 where
  pub done : Done (P.junctions + 2) P.junctions (P.junctions + 1) (first_state P) st one
  pub none : two ≡ no_tally

-- within stage two: stage one ended with the state found, and every line from n was full
pub record Two (aim : Aim) (P : Plant) (st : State) (one two : Tally) : Type 0 where
  pub found : State
  pub first : Done (P.junctions + 2) P.junctions (P.junctions + 1) (first_state P) found one
  pub quiet : Quiet P.junctions (P.junctions + 1) found.rows
  pub full : filled P.junctions found.arcs ≡ true
  pub done : Done P.junctions (start_of aim) (goal_of aim) (second_state aim P found.arcs) st two

-- settled with a flow
pub record Settled (aim : Aim) (P : Plant) (st : State) (one two : Tally) : Type 0 where
  pub two_done : Two aim P st one two
  pub quiet : Quiet (start_of aim) (goal_of aim) st.rows

-- settled as impossible
pub record Stuck (P : Plant) (st : State) (one two : Tally) : Type 0 where
  pub one_done : One P st one two
  pub quiet : Quiet P.junctions (P.junctions + 1) st.rows
  pub unfilled : filled P.junctions st.arcs ≡ false

abbrev pub Stand : mode.State → Aim → Plant → State → Tally → Tally → Type 0
Stand Idle aim P st one two = (one ≡ no_tally) × (two ≡ no_tally)
Stand StageOne aim P st one two = One P st one two
Stand StageTwo aim P st one two = Two aim P st one two
Stand SettledFlow aim P st one two = Settled aim P st one two
Stand SettledImpossible aim P st one two = Stuck P st one two

-- the plant of a planner, the state of the stage, and its lines with their flows
abbrev pub plant_in : {C : Type 0} → Planner C → Plant
plant_in p = plant_of p.plant

abbrev pub stage_in : {C : Type 0} → Planner C → State
stage_in p = state_in p.network

abbrev pub arcs_in : {C : Type 0} → Planner C → List Arc
arcs_in p = (stage_in p).arcs

module _ {C : Type 0} (has : C → ℕ → Bool) where
  -- while a stage is open, the chooser holds just the active junctions
  abbrev pub Ties : mode.State → Aim → Plant → List Row → C → Type 0
  Ties Idle aim P rs c = Unit {0}
  Ties StageOne aim P rs c = Tied has P.junctions (P.junctions + 1) rs c
  Ties StageTwo aim P rs c = Tied has (start_of aim) (goal_of aim) rs c
  Ties SettledFlow aim P rs c = Unit {0}
  Ties SettledImpossible aim P rs c = Unit {0}

  pub record Sound (p : Planner C) : Type 0 where
    pub stand : Stand p.state p.plant.aim (plant_in p) (stage_in p) p.one p.two
    pub ties : Ties p.state p.plant.aim (plant_in p) (stage_in p).rows p.network.chooser
