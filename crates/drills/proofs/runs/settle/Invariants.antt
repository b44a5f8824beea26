use Rattle.planner.specs.Standing.{Sound}
use Rattle.drills.proofs.runs.settle.Given as goal

abbrev pub invariant-loop : goal.invariant-loop
invariant-loop g l = Sound g.C.Chooser.has l.planner
