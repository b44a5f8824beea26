use Rattle.cuts.proofs.Bests.{best_exists}
use Rattle.cuts.proofs.best_exists.Goals as goal

pub returns : goal.returns
returns c = best_exists
