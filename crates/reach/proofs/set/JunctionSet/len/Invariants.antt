use Rattle.std.proofs.Common.{◌≡◌, ◌*◌, ◌≤◌}
use Rattle.reach.specs.Sets.{member, size}
use Rattle.reach.proofs.set.JunctionSet.len.Given as goal

abbrev pub invariant-loop-byte : goal.invariant-loop-byte
invariant-loop-byte l = (l.size ≡ size (member l.self.bytes) (l.byte-index * 8)) × (l.size ≤ 8 * l.byte-index)
