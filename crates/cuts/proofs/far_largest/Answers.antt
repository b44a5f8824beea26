use Rattle.cuts.proofs.Bests.{far_largest}
use Rattle.cuts.proofs.far_largest.Goals as goal

pub returns : goal.returns
returns c = far_largest
