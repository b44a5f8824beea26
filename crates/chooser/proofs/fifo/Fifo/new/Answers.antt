use Rattle.std.proofs.Common.{sym, refl, arith}
use Rattle.chooser.specs.Flags.{ones_unset, unset}
use Rattle.chooser.proofs.Listed.{listed_none}
use Rattle.chooser.proofs.fifo.Fifo.new.Goals as goal

pub invariant_of-result : goal.invariant_of-result
invariant_of-result c = record { wide = (refl, refl); inside = omega arith; counted = sym (ones_unset 252); listed = listed_none 252 }

pub returns : goal.returns
returns c = record { empty = unset 252; none = refl }
