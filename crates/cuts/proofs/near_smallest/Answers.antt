use Rattle.cuts.proofs.Bests.{near_smallest}
use Rattle.cuts.proofs.near_smallest.Goals as goal

pub returns : goal.returns
returns c = near_smallest
