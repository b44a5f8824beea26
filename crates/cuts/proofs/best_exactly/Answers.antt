use Rattle.cuts.proofs.Bests.{best_exactly}
use Rattle.cuts.proofs.best_exactly.Goals as goal

pub returns : goal.returns
returns c = best_exactly
