use Rattle.cuts.proofs.Hurdles.{no_circuit}
use Rattle.cuts.proofs.no_circuit.Goals as goal

pub returns : goal.returns
returns c = no_circuit
