use Rattle.plant.specs.Held.{arcs}
use Rattle.stage.specs.Model.{whole}
use Rattle.stage.proofs.Halves.{Half}
use Rattle.preflow.proofs.begin.push_all.Given as goal

abbrev pub invariant-loop-held : goal.invariant-loop-held
invariant-loop-held l = Half l.stage.start (whole l.stage.start) l.held-index (arcs l.initial.lines) l.initial.rows (arcs l.lines) l.rows
