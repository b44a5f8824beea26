use Rattle.cuts.proofs.Hurdles.{worst_exists}
use Rattle.cuts.proofs.worst_exists.Goals as goal

pub returns : goal.returns
returns c = worst_exists
