use Rattle.first.proofs.Network.{first_count}
use Rattle.first.proofs.first_count.Goals as goal

pub returns : goal.returns
returns c = first_count
