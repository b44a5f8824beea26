use Rattle.law.proofs.Promised.{law_promises}
use Rattle.law.proofs.theorems.law_promises.Goals as goal

pub returns : goal.returns
returns c = law_promises
