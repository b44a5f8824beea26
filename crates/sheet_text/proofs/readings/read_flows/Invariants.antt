use Rattle.std.proofs.Common.{◌≡◌, take}
use Rattle.plant.specs.Held.{flows_of}
use Rattle.planner.specs.Standing.{arcs_in}
use Rattle.sheet_text.proofs.readings.read_flows.Given as goal

abbrev pub invariant-loop-line : goal.invariant-loop-line
invariant-loop-line l = l.flows.items ≡ take l.line (flows_of (arcs_in l.planner))
