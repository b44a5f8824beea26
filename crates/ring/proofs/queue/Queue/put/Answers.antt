use Rattle.std.proofs.Common.{refl, arith}
use Rattle.ring.proofs.Turns.{items_counted, held_put}
use Rattle.ring.proofs.queue.Queue.put.Goals as goal

pub returns-then-len-self-clause-kept : goal.returns-then-len-self-clause-kept
returns-then-len-self-clause-kept g c h = absurd (omega (arith, items_counted c.args.self.now))

pub returns-clause-full : goal.returns-clause-full
returns-clause-full g c h = absurd (omega (arith, items_counted c.args.self.now))

pub returns-clause-kept : goal.returns-clause-kept
returns-clause-kept g c h =
    let s = c.args.self.now in
    (refl, held_put s.places.now s.head s.len _ _ s.sound.0 (omega arith) (c.place-at.ensures (omega arith)))
