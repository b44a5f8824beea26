use Rattle.first.proofs.Blocked.{first_blocked}
use Rattle.first.proofs.first_blocked.Goals as goal

pub returns : goal.returns
returns c = first_blocked
