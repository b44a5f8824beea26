use Rattle.std.proofs.Common.{sym, refl, subst}
use Rattle.stage.specs.Model.{active, lab, put_if}
use Rattle.stage.specs.Runs.{PutAll}
use Rattle.preflow.specs.Choosers.{Puts}
use Rattle.preflow.proofs.Scans.{begin_more}
use Rattle.preflow.proofs.Wakes.{put_yes, put_no}
use Rattle.preflow.proofs.begin.put_active.Goals as goal
use Rattle.preflow.proofs.begin.put_active.Goals.{then-is_active, else-is_active}

pub loop-v-preserved : goal.loop-v-preserved
loop-v-preserved g c =
    let has = g.C.Chooser.has in
    let puts = g.C.Chooser.puts in
    let s = c.args.stage.start in
    let t = c.args.stage.goal in
    let rs = c.args.rows.now in
    let v = c.loop-v.v in
    begin_more has puts s t v rs c.args.chooser.now c.loop-v.chooser c.if-is_active.chooser c.loop-v.invariant
    (elim c.if-is_active.branch [
      | then-is_active w ↦
          subst (λ (x : g.row.C.Denot). PutAll (Puts has puts) c.loop-v.chooser (put_if (active s t rs v) v (lab rs v)) x) (sym w.chooser-is)
          (put_yes has puts (active s t rs v) v (lab rs v) v (lab rs v) c.loop-v.chooser w.put.new.self (sym w.if-is_active.ensures) refl refl (w.put.ensures.puts, w.put.ensures.set))
      | else-is_active w ↦
          subst (λ (x : g.row.C.Denot). PutAll (Puts has puts) c.loop-v.chooser (put_if (active s t rs v) v (lab rs v)) x) (sym w.chooser-is)
          (put_no has puts (active s t rs v) v (lab rs v) c.loop-v.chooser (sym w.if-is_active.ensures))
    ])
