use Rattle.law.proofs.Settled.{limits_same}
use Rattle.law.proofs.theorems.limits_same.Goals as goal

pub returns : goal.returns
returns c = limits_same
