use Rattle.transcripts.proofs.Broken.{not_the_lows}
use Rattle.transcripts.proofs.breaking.not_the_lows.Goals as goal

pub returns : goal.returns
returns c = not_the_lows
