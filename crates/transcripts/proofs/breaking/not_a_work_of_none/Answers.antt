use Rattle.transcripts.proofs.Broken.{not_a_work_of_none}
use Rattle.transcripts.proofs.breaking.not_a_work_of_none.Goals as goal

pub returns : goal.returns
returns c = not_a_work_of_none
