use Rattle.cuts.proofs.Hurdles.{hurdle_exactly}
use Rattle.cuts.proofs.hurdle_exactly.Goals as goal

pub returns : goal.returns
returns c = hurdle_exactly
