use Rattle.plantfile.proofs.Round.{reads_back}
use Rattle.plantfile.proofs.laws.reads_back.Goals as goal

pub returns : goal.returns
returns c = reads_back
