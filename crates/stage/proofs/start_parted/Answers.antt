use Rattle.stage.proofs.Levels.{start_parted}
use Rattle.stage.proofs.start_parted.Goals as goal

pub returns : goal.returns
returns c = start_parted
