use Rattle.cuts.proofs.Bests.{far_same}
use Rattle.cuts.proofs.far_same.Goals as goal

pub returns : goal.returns
returns c = far_same
