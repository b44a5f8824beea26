use Rattle.transcripts.proofs.Broken.{not_one_cut_twice}
use Rattle.transcripts.proofs.breaking.not_one_cut_twice.Goals as goal

pub returns : goal.returns
returns c = not_one_cut_twice
