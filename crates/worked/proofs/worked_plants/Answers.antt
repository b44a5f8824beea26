use Rattle.std.proofs.Common.{refl}
use Rattle.worked.proofs.Rows.{table_right}
use Rattle.worked.proofs.worked_plants.Goals as goal

pub returns : goal.returns
returns c = (table_right, refl)
