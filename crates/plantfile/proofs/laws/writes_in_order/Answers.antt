use Rattle.plantfile.proofs.Again.{writes_in_order}
use Rattle.plantfile.proofs.laws.writes_in_order.Goals as goal

pub returns : goal.returns
returns c = writes_in_order
