use Rattle.cuts.proofs.Bests.{near_same}
use Rattle.cuts.proofs.near_same.Goals as goal

pub returns : goal.returns
returns c = near_same
