use Rattle.std.proofs.Common.{◌≡◌, List, ◌++◌, map, subst, arith}
use Rattle.std.proofs.lemmas.List.{length-map}
use Rattle.plant.specs.Held.{arc, arcs}
use Rattle.plant.specs.declared.line.Line.{Line}
use Rattle.plant.specs.Plants.{no_line}
use Rattle.stage.specs.First.{empty_arc, shifted}
use Rattle.preflow.proofs.Opens.{fine_here, shift_more, shift_all, shift_count}
use Rattle.preflow.proofs.opening.push_shifted.Goals as goal

pub shifted-requires : goal.shifted-requires
shifted-requires c = fine_here _ _ c.args.plant.now.sized.1 (c.lines-line-items.ensures.fine c.loop-line.line-index c.loop-line-test.true)

pub push-requires : goal.push-requires
push-requires c =
    let n = shift_count c.loop-line.held.items c.lines-line-items.result.now c.loop-line.line-index (arcs c.args.held.now.items) c.loop-line.auto.line-index-end c.loop-line.invariant in
    (omega arith, omega (arith, n, length-map c.args.held.now.items arc, c.loop-line-test.true, c.lines-line-items.ensures.few, c.requires))

pub loop-line-preserved : goal.loop-line-preserved
loop-line-preserved c =
    shift_more c.loop-line.held.items c.push.new.self.items c.lines-line-items.result.now c.loop-line.line-index no_line c.shifted.result (arcs c.args.held.now.items) c.loop-line-test.true c.shifted.ensures c.push.ensures.items c.loop-line.invariant

pub returns : goal.returns
returns c =
    subst (λ (ls : List Line). arcs c.loop-line.held.items ≡ arcs c.args.held.now.items ++ map empty_arc (map shifted ls)) c.lines-line-items.ensures.value
    (shift_all c.loop-line.held.items c.lines-line-items.result.now c.loop-line.line-index (arcs c.args.held.now.items) c.loop-line-test.false c.loop-line.invariant)
