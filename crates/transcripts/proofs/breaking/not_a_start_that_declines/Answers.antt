use Rattle.transcripts.proofs.Broken.{not_a_start_that_declines}
use Rattle.transcripts.proofs.breaking.not_a_start_that_declines.Goals as goal

pub returns : goal.returns
returns c = not_a_start_that_declines
