use Rattle.std.proofs.Common.{length}
use Rattle.stage.specs.States.{SoundArc}
use Rattle.preflow.proofs.Scans.{item_all, lowest_more, lowest_all}
use Rattle.preflow.proofs.discharge.lowest.Goals as goal

pub lower-best-requires : goal.lower-best-requires
lower-best-requires c =
    item_all c.args.lines.now c.loop-held.held-index c.held-item.result c.loop-held-test.true c.held-item.is (SoundArc (length c.args.rows.now)) c.requires

pub loop-held-preserved : goal.loop-held-preserved
loop-held-preserved c =
    lowest_more c.args.lines.now c.loop-held.held-index c.held-item.result c.loop-held-test.true c.held-item.is
    c.args.v c.args.rows.now c.loop-held.best c.lower-best.result _ c.lower-best.ensures c.loop-held.invariant

pub returns : goal.returns
returns c = lowest_all c.args.lines.now c.loop-held.held-index c.args.v c.args.rows.now c.loop-held.best _ c.loop-held-test.false c.loop-held.invariant
