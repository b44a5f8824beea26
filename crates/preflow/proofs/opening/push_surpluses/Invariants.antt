use Rattle.std.proofs.Common.{◌≡◌, ◌+◌, ◌≤◌, ◌++◌, length, map}
use Rattle.plant.specs.Held.{arcs, plant_of}
use Rattle.stage.specs.First.{empty_arc, surplus_lines}
use Rattle.preflow.proofs.opening.push_surpluses.Given as goal

abbrev pub invariant-loop-v : goal.invariant-loop-v
invariant-loop-v l =
    (length l.held.items ≤ length l.initial.held.items + l.v)
    × (arcs l.held.items ≡ arcs l.initial.held.items ++ map empty_arc (surplus_lines l.n (plant_of l.plant).lines l.v))
