use Rattle.worked.proofs.Rows.{checks_tell}
use Rattle.worked.proofs.checks_tell.Goals as goal

pub returns : goal.returns
returns c = checks_tell
