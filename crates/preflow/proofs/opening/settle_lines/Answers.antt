use Rattle.std.proofs.Common.{◌≡◌, ◌+◌, List, map, ap, ◌∙◌, arith}
use Rattle.std.proofs.lemmas.List.{drop-set-lt}
use Rattle.plant.specs.declared.line.Line.{Line}
use Rattle.plant.specs.Held.{arcs, lines_of}
use Rattle.stage.specs.First.{second_arcs, shifted}
use Rattle.preflow.proofs.Opens.{drop_next, fine_here, settle_all, settle_count, settle_fits, settle_more}
use Rattle.preflow.proofs.opening.settle_lines.Goals as goal

pub settled-requires : goal.settled-requires
settled-requires c =
    let h : lines_of (arcs c.args.held.now) ≡ map shifted c.lines-line-items.result.now = rw c.lines-line-items.ensures.value c.requires in
    let n = settle_count c.args.held.now c.lines-line-items.result.now h in (
      fine_here _ _ c.args.plant.now.sized.1 (c.lines-line-items.ensures.fine c.loop-k.k c.loop-k-test.true),
      settle_fits c.args.held.now c.loop-k.held c.lines-line-items.result.now c.loop-k.k c.index-held-k.result (omega (arith, n, c.loop-k.auto.held, c.loop-k-test.true)) c.loop-k-test.true n c.loop-k.invariant.0 h,
    )

pub loop-k-preserved : goal.loop-k-preserved
loop-k-preserved c =
    let hs = c.loop-k.held in
    let k = c.loop-k.k in
    let y = c.settled.result in
    let h : lines_of (arcs c.args.held.now) ≡ map shifted c.lines-line-items.result.now = rw c.lines-line-items.ensures.value c.requires in
    let n = settle_count c.args.held.now c.lines-line-items.result.now h in (
      drop-set-lt (k + 1) hs k y (omega arith) ∙ drop_next c.args.held.now hs k y (omega (arith, n, c.loop-k.auto.held)) (omega (arith, n)) c.loop-k.invariant.0,
      settle_more c.args.held.now hs c.lines-line-items.result.now k c.index-held-k.result y (omega (arith, n, c.loop-k.auto.held)) (omega (arith, n)) c.loop-k-test.true c.loop-k.invariant.0 c.settled.ensures c.loop-k.invariant.1,
    )

pub returns : goal.returns
returns c =
    let ls = c.lines-line-items.result.now in
    let h : lines_of (arcs c.args.held.now) ≡ map shifted ls = rw c.lines-line-items.ensures.value c.requires in
    let n = settle_count c.args.held.now ls h in
    settle_all c.args.held.now c.loop-k.held ls c.loop-k.k c.loop-k-test.false (omega (arith, n, c.loop-k.auto.held)) n c.loop-k.invariant.1
    ∙ ap (λ (l : List Line). second_arcs l (arcs c.args.held.now)) c.lines-line-items.ensures.value
