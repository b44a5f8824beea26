use Rattle.std.proofs.Common.{◌≡◌, ◌++◌, map, take}
use Rattle.plant.specs.Held.{arcs}
use Rattle.stage.specs.First.{empty_arc, shifted}
use Rattle.preflow.proofs.opening.push_shifted.Given as goal

abbrev pub invariant-loop-line : goal.invariant-loop-line
invariant-loop-line l = arcs l.held.items ≡ arcs l.initial.held.items ++ map empty_arc (map shifted (take l.line-index l.line-items))
