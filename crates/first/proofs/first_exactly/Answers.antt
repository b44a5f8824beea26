use Rattle.first.proofs.Blocked.{first_exactly}
use Rattle.first.proofs.first_exactly.Goals as goal

pub returns : goal.returns
returns c = first_exactly
