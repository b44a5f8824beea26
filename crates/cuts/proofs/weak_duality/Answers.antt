use Rattle.cuts.proofs.Duality.{weak_duality}
use Rattle.cuts.proofs.weak_duality.Goals as goal

pub returns : goal.returns
returns c = weak_duality
