use Rattle.std.proofs.Common.{◌≡◌, ◌+◌, ◌-◌, ◌≤◌}
use Rattle.plant.specs.Held.{marked}
use Rattle.reach.specs.Sets.{bits_from}
use Rattle.reach.proofs.set.byte_of.Given as goal

abbrev pub invariant-loop-w : goal.invariant-loop-w
invariant-loop-w l = (l.v ≤ l.w) × (l.byte ≡ bits_from (marked l.marks) l.w (l.v + 8 - l.w))
