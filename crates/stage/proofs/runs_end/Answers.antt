use Rattle.stage.proofs.Counts.{runs_end}
use Rattle.stage.proofs.runs_end.Goals as goal

pub returns : goal.returns
returns c = runs_end
