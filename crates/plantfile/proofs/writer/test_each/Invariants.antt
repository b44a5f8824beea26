use Rattle.std.proofs.Common.{◌≡◌, List, ◌++◌}
use Rattle.plant.specs.declared.line.Trial.{Trial}
use Rattle.plantfile.specs.Writing.{test_each}
use Rattle.plantfile.proofs.writer.test_each.Given as goal

abbrev pub invariant-loop-trial : goal.invariant-loop-trial
invariant-loop-trial g l = (more : List Trial) → test_each l.count (l.yielded ++ more) ≡ test_each l.count more
