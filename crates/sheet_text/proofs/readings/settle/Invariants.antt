use Rattle.std.proofs.Common.{◌≡◌, ◌+◌, ◌-◌, true}
use Rattle.chooser.specs.FifoCalls.{holds}
use Rattle.planner.specs.Standing.{Sound}
use Rattle.planner.specs.Works.{in_work}
use Rattle.sheet_text.proofs.readings.settle.Given as goal

abbrev pub invariant-loop-outcome : goal.invariant-loop-outcome
invariant-loop-outcome l = Sound holds l.planner × (in_work l.planner.state ≡ true) × (l.planner.plant ≡ l.initial.planner.plant)

abbrev pub decreases-loop-outcome : goal.decreases-loop-outcome
decreases-loop-outcome l = 800000000 - (l.planner.one.discharges + l.planner.two.discharges)
