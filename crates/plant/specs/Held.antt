-- What the planner holds: lines with their flows, and a plant that passed the tests.
use Rattle.std.specs.Prelude.{ℕ, ◌+◌, ◌-◌, Bool, false, cond, List, map, take, ◌==◌, slice_index_or}
use Rattle.plant.specs.declared.held.HeldLine.{HeldLine}
use Rattle.plant.specs.declared.held_plant.HeldPlant.{HeldPlant}
use Rattle.plant.specs.declared.line.Line.{Line}
use Rattle.plant.specs.Plants.{Flow, Junctions, Plant, high_of, low_of}

-- a line with the flow that it carries
pub record Arc : Type 0 where
  pub line : Line
  pub flow : ℕ

abbrev pub arc : HeldLine → Arc
arc h = record { line = h.line; flow = h.flow }

-- held lines as arcs; the lines and the flows of arcs
abbrev pub arcs : List HeldLine → List Arc
arcs hs = map arc hs

abbrev pub line_of : Arc → Line
line_of a = a.line

abbrev pub flow_of : Arc → ℕ
flow_of a = a.flow

abbrev pub lines_of : List Arc → List Line
lines_of as' = map line_of as'

abbrev pub flows_of : List Arc → Flow
flows_of as' = map flow_of as'

-- the set that marks stand for
abbrev pub marked : List Bool → Junctions
marked bs v = slice_index_or bs v false

-- how much more can go from v by an arc: up to its high if it leaves v, back to its low if it ends there
abbrev pub residual : ℕ → Arc → ℕ
residual v a = cond (a.line.from == v) (high_of a.line - a.flow) (cond (a.line.to == v) (a.flow - low_of a.line) 0)

-- the end that is not v
abbrev pub other : ℕ → Arc → ℕ
other v a = cond (a.line.from == v) a.line.to a.line.from

-- the arc after d is sent from v by it
abbrev pub shift : ℕ → ℕ → Arc → Arc
shift v d a = record { line = a.line; flow = cond (a.line.from == v) (a.flow + d) (a.flow - d) }

-- the plant that is held
abbrev pub plant_of : HeldPlant → Plant
plant_of p = record { junctions = p.n; lines = take p.count p.lines }
