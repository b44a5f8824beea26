use Rattle.cuts.proofs.Bests.{near_far}
use Rattle.cuts.proofs.near_far.Goals as goal

pub returns : goal.returns
returns c = near_far
