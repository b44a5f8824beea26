use Rattle.std.proofs.Common.{ℕ, eqb, ap}
use Rattle.reach.specs.Sets.{bit, member}
use Rattle.std.proofs.lemmas.Nat.{and_mask}
use Rattle.reach.proofs.set.JunctionSet.contains.Goals as goal

pub returns : goal.returns
unfolding bit member
returns c = ap (λ (x : ℕ). eqb x 1) (and_mask _ 1)
