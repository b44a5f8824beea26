use Rattle.law.proofs.Read.{declines_exactly}
use Rattle.law.proofs.theorems.declines_exactly.Goals as goal

pub returns : goal.returns
returns c = declines_exactly
