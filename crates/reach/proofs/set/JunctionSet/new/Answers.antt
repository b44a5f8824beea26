use Rattle.std.proofs.Common.{refl}
use Rattle.reach.proofs.Digits.{member_none}
use Rattle.reach.proofs.set.JunctionSet.new.Goals as goal

pub returns : goal.returns
returns c = record { none = member_none 32; bytes = refl }
