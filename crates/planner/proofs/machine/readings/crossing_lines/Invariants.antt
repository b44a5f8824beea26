use Rattle.plant.specs.Held.{marked}
use Rattle.planner.proofs.Numbered.{Numbered}
use Rattle.planner.proofs.machine.readings.crossing_lines.Given as goal

abbrev pub invariant-loop-k : goal.invariant-loop-k
invariant-loop-k l = Numbered (marked l.set) l.lines l.k l.numbers.items
