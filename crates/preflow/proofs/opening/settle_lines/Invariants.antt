use Rattle.std.proofs.Common.{◌≡◌, take, drop}
use Rattle.plant.specs.Held.{arcs}
use Rattle.stage.specs.First.{second_arcs}
use Rattle.preflow.proofs.opening.settle_lines.Given as goal

abbrev pub invariant-loop-k : goal.invariant-loop-k
invariant-loop-k l = (drop l.k l.held ≡ drop l.k l.initial.held) × (arcs (take l.k l.held) ≡ second_arcs (take l.k l.line-items) (arcs (take l.k l.initial.held)))
