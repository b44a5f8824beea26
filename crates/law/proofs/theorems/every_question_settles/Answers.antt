use Rattle.law.proofs.Settled.{every_settled}
use Rattle.law.proofs.theorems.every_question_settles.Goals as goal

pub returns : goal.returns
returns c = every_settled
