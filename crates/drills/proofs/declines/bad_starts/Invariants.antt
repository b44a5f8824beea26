use Rattle.planner.specs.Standing.{Sound}
use Rattle.drills.proofs.declines.bad_starts.Given as goal

abbrev pub invariant-loop-n : goal.invariant-loop-n
invariant-loop-n g l = Sound g.C.Chooser.has l.planner
