use Rattle.plantfile.proofs.Written.{written_reads_back}
use Rattle.plantfile.proofs.laws.written_reads_back.Goals as goal

pub returns : goal.returns
returns c = written_reads_back
