use Rattle.std.proofs.Common.{◌≡◌, replicate}
use Rattle.stage.specs.Model.{row0}
use Rattle.preflow.proofs.rows.lay_blank.Given as goal

abbrev pub invariant-loop : goal.invariant-loop
invariant-loop l = l.rows.items ≡ replicate l.counter row0
