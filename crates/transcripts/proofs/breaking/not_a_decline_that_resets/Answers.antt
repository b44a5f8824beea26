use Rattle.transcripts.proofs.Broken.{not_a_decline_that_resets}
use Rattle.transcripts.proofs.breaking.not_a_decline_that_resets.Goals as goal

pub returns : goal.returns
returns c = not_a_decline_that_resets
