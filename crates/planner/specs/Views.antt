-- What a reading sees of a planner.
use Rattle.std.specs.Prelude.{List}
use Rattle.plant.specs.declared.aim.Aim.{Aim}
use Rattle.plant.specs.Held.{Arc, plant_of}
use Rattle.plant.specs.Plants.{Plant}
use Rattle.planner.specs.declared.answer.Tally.{Tally}
use Rattle.planner.specs.declared.machine.Planner.{Planner}
use Rattle.planner.specs.declared.machine.State.{State}
use Rattle.planner.specs.Standing.{arcs_in}

-- where the planner stands, its question, the lines of its stage with their flows, and its tallies
pub record View : Type 0 where
  pub state : State
  pub plant : Plant
  pub aim : Aim
  pub arcs : List Arc
  pub one : Tally
  pub two : Tally

-- the view of a planner
abbrev pub view : {C : Type 0} → Planner C → View
view p = record {
  state = p.state;
  plant = plant_of p.plant;
  aim = p.plant.aim;
  arcs = arcs_in p;
  one = p.one;
  two = p.two;
}
