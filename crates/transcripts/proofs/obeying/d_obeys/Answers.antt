use Rattle.transcripts.proofs.Obeyed.{d_obeys}
use Rattle.transcripts.proofs.obeying.d_obeys.Goals as goal

pub returns : goal.returns
returns c = d_obeys
