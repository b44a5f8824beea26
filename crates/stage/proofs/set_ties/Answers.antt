use Rattle.stage.proofs.Ties.{set_ties}
use Rattle.stage.proofs.set_ties.Goals as goal

pub returns : goal.returns
returns c = set_ties
