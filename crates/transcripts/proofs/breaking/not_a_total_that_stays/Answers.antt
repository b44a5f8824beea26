use Rattle.transcripts.proofs.Broken.{not_a_total_that_stays}
use Rattle.transcripts.proofs.breaking.not_a_total_that_stays.Goals as goal

pub returns : goal.returns
returns c = not_a_total_that_stays
