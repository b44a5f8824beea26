use Rattle.cuts.proofs.Hurdles.{worst_same}
use Rattle.cuts.proofs.worst_same.Goals as goal

pub returns : goal.returns
returns c = worst_same
