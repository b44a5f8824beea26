use Rattle.transcripts.proofs.Obeyed.{b_obeys}
use Rattle.transcripts.proofs.obeying.b_obeys.Goals as goal

pub returns : goal.returns
returns c = b_obeys
