use Rattle.std.proofs.Common.{refl}
use Rattle.ring.proofs.Turns.{held_none}
use Rattle.ring.proofs.queue.Queue.new.Goals as goal

pub returns-clause-empty : goal.returns-clause-empty
returns-clause-empty g c = held_none _ 0 0 refl
