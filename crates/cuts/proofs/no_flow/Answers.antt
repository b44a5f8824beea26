use Rattle.cuts.proofs.Hurdles.{no_flow}
use Rattle.cuts.proofs.no_flow.Goals as goal

pub returns : goal.returns
returns c = no_flow
