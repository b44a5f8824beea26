use Rattle.std.proofs.Common.{sym, ◌∙◌}
use Rattle.plant.specs.Held.{arc}
use Rattle.reach.specs.Drawn.{opens}
use Rattle.reach.proofs.Tables.{any_all, any_map}
use Rattle.reach.proofs.adjacency.Adjacency.residuals.Goals as goal

pub returns : goal.returns
returns c v w =
    any_all (λ h. opens (arc h) v w) c.args.lines.now c.loop-held.held-index _ _ c.loop-held-test.false (c.loop-held.invariant v w)
    ∙ sym (any_map (λ a. opens a v w) arc c.args.lines.now)
