use Rattle.stage.specs.Model.{begin_puts}
use Rattle.stage.specs.Runs.{PutAll}
use Rattle.preflow.specs.Choosers.{Puts}
use Rattle.preflow.proofs.begin.put_active.Given as goal

abbrev pub invariant-loop-v : goal.invariant-loop-v
invariant-loop-v g l =
    PutAll (Puts g.C.Chooser.has g.C.Chooser.puts) l.initial.chooser
    (begin_puts l.v l.stage.start l.stage.goal l.rows) l.chooser
