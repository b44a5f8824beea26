use Rattle.cuts.proofs.Bests.{between}
use Rattle.cuts.proofs.between.Goals as goal

pub returns : goal.returns
returns c = between
