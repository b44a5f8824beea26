use Rattle.law.proofs.Settled.{readings_fixed}
use Rattle.law.proofs.theorems.readings_fixed.Goals as goal

pub returns : goal.returns
returns c = readings_fixed
