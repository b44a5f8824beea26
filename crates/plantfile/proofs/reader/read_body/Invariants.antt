use Rattle.std.proofs.Common.{◌≡◌, ◌+◌, [], length}
use Rattle.ring.specs.Held.{items, room}
use Rattle.plantfile.specs.Format.{after}
use Rattle.plantfile.proofs.Places.{Sofar}
use Rattle.plantfile.proofs.reader.read_body.Given as goal

abbrev pub invariant-loop-line : goal.invariant-loop-line
invariant-loop-line l =
    (room l.waiting ≡ room l.initial.waiting)
    × Sofar l.n l.initial.lines l.lines l.drawn (room l.initial.waiting) (items l.initial.waiting) (items l.waiting) l.tried l.rest (length l.initial.rest) (after (length l.initial.rest + 1) l.n [] [] l.initial.rest)

abbrev pub decreases-loop-line : goal.decreases-loop-line
decreases-loop-line l = length l.rest
