use Rattle.std.proofs.Common.{ap}
use Rattle.ring.specs.Held.{items, room}
use Rattle.ring.proofs.Turns.{items_fit}
use Rattle.plantfile.proofs.Places.{put_queued}
use Rattle.plantfile.proofs.reader.keep_trial.Goals as goal

pub returns : goal.returns
returns c =
    let q = c.args.waiting.now in
    record {
      room = c.put.ensures.room;
      kept = put_queued (room q) (items q) _ c.args.trial (λ h. (c.put.ensures.kept h).1) (λ h. ap items (c.put.ensures.full h).1) (items_fit q);
    }
