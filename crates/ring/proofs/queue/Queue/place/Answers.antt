use Rattle.std.proofs.Common.{arith}
use Rattle.ring.proofs.Turns.{at_before, at_after}
use Rattle.ring.proofs.queue.Queue.place.Goals as goal

pub returns-then-i-gap : goal.returns-then-i-gap
returns-then-i-gap g c h = at_before c.args.self.now.places.now _ c.args.i (omega arith)

pub returns-else-i-gap : goal.returns-else-i-gap
returns-else-i-gap g c = at_after c.args.self.now.places.now _ c.args.i (omega arith) (omega arith)
