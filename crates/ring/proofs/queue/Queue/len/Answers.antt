use Rattle.std.proofs.Common.{sym}
use Rattle.ring.proofs.Turns.{items_counted}
use Rattle.ring.proofs.queue.Queue.len.Goals as goal

pub returns : goal.returns
returns g c = sym (items_counted c.args.self.now)
