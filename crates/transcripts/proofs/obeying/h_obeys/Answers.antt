use Rattle.transcripts.proofs.Obeyed.{h_obeys}
use Rattle.transcripts.proofs.obeying.h_obeys.Goals as goal

pub returns : goal.returns
returns c = h_obeys
