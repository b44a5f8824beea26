use Rattle.std.proofs.Common.{◌+◌, sym, ap, ◌∙◌, arith}
use Rattle.std.proofs.lemmas.Int.{ints}
use Rattle.plant.specs.Held.{arc}
use Rattle.stage.specs.Model.{lab}
use Rattle.stage.proofs.Ends.{pushed}
use Rattle.preflow.proofs.push.due.Goals as goal

pub returns-then-rows-v : goal.returns-then-rows-v
returns-then-rows-v c =
    let p = pushed c.args.v (arc c.args.held.now) c.args.rows.now in
    let e = p.most (c.if-rows-v.true ∙ ap (λ x. lab c.args.rows.now x + 1) c.other_end-w.ensures) in
    omega (arith, ints, e)

pub returns-else-rows-v : goal.returns-else-rows-v
returns-else-rows-v c =
    let p = pushed c.args.v (arc c.args.held.now) c.args.rows.now in
    sym (p.none (λ q. c.if-rows-v.false (q ∙ ap (λ x. lab c.args.rows.now x + 1) (sym c.other_end-w.ensures))))

pub returns-then-residual-eq0 : goal.returns-then-residual-eq0
returns-then-residual-eq0 c =
    let p = pushed c.args.v (arc c.args.held.now) c.args.rows.now in
    omega (arith, p.in_room, c.if-residual-eq0.true, c.residual-residual.ensures)
