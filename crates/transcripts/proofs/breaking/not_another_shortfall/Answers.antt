use Rattle.transcripts.proofs.Broken.{not_another_shortfall}
use Rattle.transcripts.proofs.breaking.not_another_shortfall.Goals as goal

pub returns : goal.returns
returns c = not_another_shortfall
