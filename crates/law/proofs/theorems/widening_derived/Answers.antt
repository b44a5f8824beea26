use Rattle.law.proofs.Settled.{widening_derived}
use Rattle.law.proofs.theorems.widening_derived.Goals as goal

pub returns : goal.returns
returns c = widening_derived
