use Rattle.std.proofs.Common.{arith}
use Rattle.preflow.proofs.Rans.{byte_le, ran_more}
use Rattle.preflow.proofs.running.run.Goals as goal

pub loop-made-preserved : goal.loop-made-preserved
loop-made-preserved g c =
    let h = c.in-Some.ensures in
    let e = c.from-relabels.ensures in
    (ran_more _ _ _ _ _ _ _ _ _ _ _ _ _ _ _ _ e c.loop-made.invariant.0 h.step, h.stands, h.tied, omega (arith, e, byte_le c.in-Some.relabelled, c.loop-made.invariant.3))
