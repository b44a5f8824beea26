use Rattle.transcripts.proofs.Broken.{not_for_ever}
use Rattle.transcripts.proofs.breaking.not_for_ever.Goals as goal

pub returns : goal.returns
returns c = not_for_ever
