use Rattle.std.proofs.Common.{◌≡◌, ◌+◌, ◌≤◌, length}
use Rattle.ring.specs.Held.{items, room}
use Rattle.reach.proofs.Going.{Going, free}
use Rattle.reach.proofs.walk.mark_from.Given as goal

abbrev pub invariant-loop-w : goal.invariant-loop-w
invariant-loop-w g l =
    Going (g.G.Graph.edge l.graph) l.n l.from l.marks (items l.queue) l.v l.w
    × (l.n ≤ room l.queue)
    × (length (items l.queue) + free l.n l.marks ≡ length (items l.initial.queue) + free l.n l.initial.marks)

abbrev pub invariant-loop-v : goal.invariant-loop-v
invariant-loop-v g l =
    Going (g.G.Graph.edge l.graph) l.n l.from l.marks (items l.queue) l.from l.n
    × (l.n ≤ room l.queue)

abbrev pub decreases-loop-v : goal.decreases-loop-v
decreases-loop-v g l = length (items l.queue) + free l.n l.marks
