use Rattle.transcripts.proofs.Broken.{not_all_impossible}
use Rattle.transcripts.proofs.breaking.not_all_impossible.Goals as goal

pub returns : goal.returns
returns c = not_all_impossible
