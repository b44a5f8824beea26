use Rattle.reach.proofs.Tables.{tabled_none}
use Rattle.reach.proofs.adjacency.Adjacency.new.Goals as goal

pub returns : goal.returns
returns c = tabled_none 256 256
