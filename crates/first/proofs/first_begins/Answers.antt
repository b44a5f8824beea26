use Rattle.first.proofs.Network.{first_begins}
use Rattle.first.proofs.first_begins.Goals as goal

pub returns : goal.returns
returns c = first_begins
