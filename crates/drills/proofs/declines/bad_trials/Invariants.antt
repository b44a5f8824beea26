use Rattle.planner.specs.Standing.{Sound}
use Rattle.drills.proofs.declines.bad_trials.Given as goal

abbrev pub invariant-loop-line : goal.invariant-loop-line
invariant-loop-line g l = Sound g.C.Chooser.has l.planner
