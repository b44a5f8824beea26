use Rattle.plant.specs.Held.{arcs}
use Rattle.preflow.proofs.Scans.{Going}
use Rattle.preflow.proofs.discharge.scan.Given as goal

abbrev pub invariant-loop-held : goal.invariant-loop-held
invariant-loop-held g l =
    Going g.C.Chooser.has g.C.Chooser.puts l.stage.start l.stage.goal l.v l.held-index
    (arcs l.initial.lines) l.initial.rows l.initial.chooser (arcs l.lines) l.rows l.chooser
