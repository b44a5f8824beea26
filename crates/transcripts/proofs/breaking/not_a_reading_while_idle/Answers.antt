use Rattle.transcripts.proofs.Broken.{not_a_reading_while_idle}
use Rattle.transcripts.proofs.breaking.not_a_reading_while_idle.Goals as goal

pub returns : goal.returns
returns c = not_a_reading_while_idle
