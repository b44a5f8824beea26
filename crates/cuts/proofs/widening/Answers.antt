use Rattle.cuts.proofs.Widenings.{widening}
use Rattle.cuts.proofs.widening.Goals as goal

pub returns : goal.returns
returns c = widening
