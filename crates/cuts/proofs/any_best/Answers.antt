use Rattle.cuts.proofs.Bests.{any_best}
use Rattle.cuts.proofs.any_best.Goals as goal

pub returns : goal.returns
returns c = any_best
