use Rattle.cuts.proofs.Hurdles.{hurdle_total_exactly}
use Rattle.cuts.proofs.hurdle_total_exactly.Goals as goal

pub returns : goal.returns
returns c = hurdle_total_exactly
