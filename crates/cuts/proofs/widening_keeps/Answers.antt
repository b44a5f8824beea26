use Rattle.cuts.proofs.Widenings.{widening_keeps}
use Rattle.cuts.proofs.widening_keeps.Goals as goal

pub returns : goal.returns
returns c = widening_keeps
