use Rattle.plantfile.proofs.Again.{writes_again}
use Rattle.plantfile.proofs.laws.writes_again.Goals as goal

pub returns : goal.returns
returns c = writes_again
