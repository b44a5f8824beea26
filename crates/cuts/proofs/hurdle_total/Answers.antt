use Rattle.cuts.proofs.Hurdles.{hurdle_total}
use Rattle.cuts.proofs.hurdle_total.Goals as goal

pub returns : goal.returns
returns c = hurdle_total
