use Rattle.stage.proofs.Best.{goal_out_of_reach}
use Rattle.stage.proofs.goal_out_of_reach.Goals as goal

pub returns : goal.returns
returns c = goal_out_of_reach
