use Rattle.std.proofs.Common.{◌∙◌, arith}
use Rattle.ring.proofs.Turns.{items_counted, held_nth}
use Rattle.ring.proofs.queue.Queue.nth.Goals as goal

pub returns-then-i-self : goal.returns-then-i-self
returns-then-i-self g c = omega (arith, items_counted c.args.self.now)

pub returns : goal.returns
returns g c =
    let s = c.args.self.now in
    let i = c.args.i in
    (omega (arith, items_counted s), c.index-places-at.is ∙ held_nth s.places.now s.head s.len i c.place-at.result c.index-places-at.result (omega arith) (c.place-at.ensures (omega arith)))
