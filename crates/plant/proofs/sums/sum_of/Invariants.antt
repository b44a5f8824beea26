use Rattle.std.specs.Fn.{FnReturnsAt}
use Rattle.plant.specs.Shares.{Adds}
use Rattle.plant.proofs.sums.sum_of.Given as goal

abbrev pub invariant-loop-item : goal.invariant-loop-item
invariant-loop-item g l = Adds (FnReturnsAt g.F.Fn l.gives) l.items l.item-index l.sum
