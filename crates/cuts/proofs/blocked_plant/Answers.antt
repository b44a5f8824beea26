use Rattle.cuts.proofs.Examples.{blocked_worked}
use Rattle.cuts.proofs.blocked_plant.Goals as goal

pub returns : goal.returns
returns c = blocked_worked
