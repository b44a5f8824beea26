use Rattle.cuts.proofs.Examples.{small_worked}
use Rattle.cuts.proofs.small_plant.Goals as goal

pub returns : goal.returns
returns c = small_worked
