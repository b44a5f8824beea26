use Rattle.std.proofs.Common.{◌≡◌, drop}
use Rattle.plant.specs.Held.{arcs}
use Rattle.stage.specs.Model.{lowest}
use Rattle.preflow.proofs.discharge.lowest.Given as goal

abbrev pub invariant-loop-held : goal.invariant-loop-held
invariant-loop-held l = lowest l.v (drop l.held-index (arcs l.lines)) l.rows l.best ≡ lowest l.v (arcs l.lines) l.rows l.most
