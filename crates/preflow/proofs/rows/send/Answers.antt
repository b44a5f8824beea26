use Rattle.std.proofs.Common.{rules}
use Rattle.stage.specs.Model.{sent}
use Rattle.preflow.proofs.rows.send.Goals as goal

pub returns : goal.returns
unfolding sent
returns c = search rules
