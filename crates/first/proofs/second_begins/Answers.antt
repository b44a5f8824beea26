use Rattle.first.proofs.Found.{second_begins}
use Rattle.first.proofs.second_begins.Goals as goal

pub returns : goal.returns
returns c = second_begins
