use Rattle.cuts.proofs.Bests.{strong_duality}
use Rattle.cuts.proofs.strong_duality.Goals as goal

pub returns : goal.returns
returns c = strong_duality
