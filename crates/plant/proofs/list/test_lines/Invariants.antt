use Rattle.std.proofs.Common.{◌≡◌, drop, None}
use Rattle.plant.specs.Tests.{test_lines}
use Rattle.plant.proofs.list.test_lines.Given as goal

abbrev pub invariant-loop-line : goal.invariant-loop-line
invariant-loop-line l = test_lines l.n l.lines None ≡ test_lines l.n (drop l.line-index l.lines) None
