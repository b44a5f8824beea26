use Rattle.reach.specs.Sets.{member}
use Rattle.reach.proofs.Bytes.{Listed}
use Rattle.reach.proofs.set.JunctionSet.members.Given as goal

abbrev pub invariant-loop-v : goal.invariant-loop-v
invariant-loop-v l = Listed (member l.self.bytes) l.v l.count l.out l.initial.out
