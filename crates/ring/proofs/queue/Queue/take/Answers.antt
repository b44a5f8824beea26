use Rattle.std.proofs.Common.{refl, arith}
use Rattle.ring.proofs.Turns.{held_none, take_here, take_first}
use Rattle.ring.proofs.queue.Queue.take.Goals as goal
use Rattle.ring.proofs.queue.Queue.take.Goals.{then-head-self, else-head-self}

pub returns-then-len-eq0-clause-took : goal.returns-then-len-eq0-clause-took
returns-then-len-eq0-clause-took g c = (held_none _ _ _ (omega arith), refl)

pub returns-clause-took : goal.returns-clause-took
returns-clause-took g c =
    elim c.if-head-self.branch [
      | then-head-self w ↦ take_first _ _ _ _ _ w.if-head-self.true w.at-is (omega arith) (omega arith)
      | else-head-self w ↦ take_here _ _ _ _ _ w.at-is (omega arith) (omega arith) (omega arith)
    ]
