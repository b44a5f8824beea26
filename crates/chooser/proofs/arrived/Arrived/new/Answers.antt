use Rattle.std.proofs.Common.{sym, refl, ap, ◌∙◌, length, subst, List, ℕ, replicate, false}
use Rattle.chooser.specs.Flags.{ones_unset, unset}
use Rattle.chooser.proofs.Listed.{Listed, listed_none}
use Rattle.chooser.proofs.arrived.Arrived.new.Goals as goal

pub invariant_of-result : goal.invariant_of-result
invariant_of-result c =
    record { wide = refl; counted = ap length c.new.ensures ∙ sym (ones_unset 252); listed = subst (λ (xs : List ℕ). Listed xs (replicate 252 false)) (sym c.new.ensures) (listed_none 252) }

pub returns-clause-empty : goal.returns-clause-empty
returns-clause-empty c = unset 252
