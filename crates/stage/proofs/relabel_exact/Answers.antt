use Rattle.stage.proofs.Best.{relabel_exact}
use Rattle.stage.proofs.relabel_exact.Goals as goal

pub returns : goal.returns
returns c = relabel_exact
