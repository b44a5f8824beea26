use Rattle.stage.proofs.Best.{active_goes_on}
use Rattle.stage.proofs.active_goes_on.Goals as goal

pub returns : goal.returns
returns c = active_goes_on
