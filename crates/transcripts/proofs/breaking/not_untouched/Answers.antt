use Rattle.transcripts.proofs.Broken.{not_untouched}
use Rattle.transcripts.proofs.breaking.not_untouched.Goals as goal

pub returns : goal.returns
returns c = not_untouched
