use Rattle.stage.proofs.Best.{goal_gets_all}
use Rattle.stage.proofs.goal_gets_all.Goals as goal

pub returns : goal.returns
returns c = goal_gets_all
