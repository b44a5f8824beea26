use Rattle.std.proofs.Common.{◌∙◌, rules}
use Rattle.plant.proofs.Adding.{held_share, total_added}
use Rattle.plant.proofs.sums.total_of.Goals as goal

pub returns : goal.returns
returns c = let e = c.sum_of.ensures held_share (λ x z e. search rules) ∙ total_added c.args.lines.now in search rules
