use Rattle.std.proofs.Common.{◌∙◌, rules}
use Rattle.plant.specs.Shares.{at_junction}
use Rattle.plant.proofs.Adding.{surplus_added}
use Rattle.plant.proofs.sums.surplus_at.Goals as goal

pub returns : goal.returns
returns c = let e = c.sum_of.ensures (at_junction c.args.v) (λ x z e. search rules) ∙ surplus_added c.args.v c.args.lines.now in search rules
