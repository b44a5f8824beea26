use Rattle.plant.proofs.Small.{small_worked}
use Rattle.plant.proofs.worked.worked_plant.Goals as goal

pub returns : goal.returns
returns c = small_worked
