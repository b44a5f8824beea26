use Rattle.stage.proofs.Bounds.{excess_bounded}
use Rattle.stage.proofs.excess_bounded.Goals as goal

pub returns : goal.returns
returns c = excess_bounded
