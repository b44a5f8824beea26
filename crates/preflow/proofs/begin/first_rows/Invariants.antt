use Rattle.std.proofs.Common.{◌≡◌, ℕ, [], take}
use Rattle.std.specs.List.{AllByRecursion}
use Rattle.plant.specs.Held.{arcs}
use Rattle.stage.specs.Model.{first_rows}
use Rattle.stage.specs.States.{SoundArc}
use Rattle.preflow.proofs.begin.first_rows.Given as goal

abbrev pub invariant-loop-held : goal.invariant-loop-held
invariant-loop-held l = (n s : ℕ) → AllByRecursion (SoundArc n) (arcs l.lines) → l.initial.rows ≡ first_rows n s [] → l.rows ≡ first_rows n s (take l.held-index (arcs l.lines))
