use Rattle.stage.proofs.Plants.{second_stage_best}
use Rattle.stage.proofs.second_stage_best.Goals as goal

pub returns : goal.returns
returns c = second_stage_best
