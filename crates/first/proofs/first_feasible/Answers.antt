use Rattle.first.proofs.Found.{first_feasible}
use Rattle.first.proofs.first_feasible.Goals as goal

pub returns : goal.returns
returns c = first_feasible
