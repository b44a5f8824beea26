use Rattle.transcripts.proofs.Broken.{tallies_made}
use Rattle.transcripts.proofs.breaking.tallies_made.Goals as goal

pub returns : goal.returns
returns c = tallies_made
