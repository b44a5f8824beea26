use Rattle.std.proofs.Common.{◌≡◌, ◌∙◌, rules, sum_by}
use Rattle.plant.specs.Plants.{high_of}
use Rattle.plant.proofs.Adding.{highs_added}
use Rattle.plant.proofs.sums.sum_of_highs.Goals as goal

pub returns : goal.returns
returns c = let e : c.sum.result ≡ sum_by high_of c.args.lines.now = search rules in e ∙ highs_added c.args.lines.now
