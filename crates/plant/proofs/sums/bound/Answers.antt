use Rattle.std.proofs.Common.{◌∙◌, rules}
use Rattle.plant.specs.Held.{marked}
use Rattle.plant.specs.Shares.{share}
use Rattle.plant.proofs.Adding.{bound_added}
use Rattle.plant.proofs.sums.bound.Goals as goal

pub returns : goal.returns
returns c = let e = c.sum_of.ensures (share c.args.aim (marked c.args.set.now)) (λ x z e. search rules) ∙ bound_added c.args.aim (marked c.args.set.now) c.args.lines.now in search rules
