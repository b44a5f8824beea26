use Rattle.stage.proofs.Keeps.{discharge_keeps}
use Rattle.stage.proofs.discharge_keeps.Goals as goal

pub returns : goal.returns
returns c = discharge_keeps
