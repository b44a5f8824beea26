use Rattle.law.proofs.Kept.{works_answered}
use Rattle.law.proofs.theorems.works_answered.Goals as goal

pub returns : goal.returns
returns c = works_answered
