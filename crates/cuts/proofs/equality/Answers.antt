use Rattle.cuts.proofs.Duality.{equality}
use Rattle.cuts.proofs.equality.Goals as goal

pub returns : goal.returns
returns c = equality
