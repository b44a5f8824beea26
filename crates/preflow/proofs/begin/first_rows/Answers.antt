use Rattle.std.proofs.Common.{◌≡◌, length, take, ap, ◌∙◌, arith}
use Rattle.plant.specs.Held.{arcs}
use Rattle.stage.proofs.Begins.{first}
use Rattle.stage.specs.Model.{labelled}
use Rattle.stage.specs.States.{SoundArc}
use Rattle.preflow.proofs.Firsts.{first_none, first_step, first_all, first_small}
use Rattle.preflow.proofs.Scans.{item_all}
use Rattle.preflow.proofs.begin.first_rows.Goals as goal

pub send-requires : goal.send-requires
send-requires c =
    let n = c.args.stage.junctions in
    let s = c.args.stage.start in
    let e = c.relabel.ensures ∙ ap (λ d. labelled s d c.args.rows.now) c.from.ensures ∙ first_none n s _ c.args.stage.inside.0 c.requires.blank in
    let q = c.loop-held.invariant n s c.requires.sound e in
    let a = item_all c.args.lines.now c.loop-held.held-index c.held-item.result c.loop-held-test.true c.held-item.is (SoundArc n) c.requires.sound in
    let size : length c.loop-held.rows ≡ n = ap length q ∙ (first n s (take c.loop-held.held-index (arcs c.args.lines.now))).size in
    record { from = omega (arith, a.sound.from_in, size); to = omega (arith, a.sound.to_in, size); apart = a.sound.apart; bounded = first_small c.args.lines.now c.loop-held.held-index n s c.loop-held.rows c.requires.sound c.requires.light q }

pub loop-held-preserved : goal.loop-held-preserved
loop-held-preserved c n s all e =
    first_step c.args.lines.now c.loop-held.held-index c.held-item.result c.loop-held-test.true c.held-item.is n s c.loop-held.rows c.send.new.rows all
    (c.loop-held.invariant n s all e) c.send.ensures

pub returns : goal.returns
returns c =
    let n = c.args.stage.junctions in
    let s = c.args.stage.start in
    let e = c.relabel.ensures ∙ ap (λ d. labelled s d c.args.rows.now) c.from.ensures ∙ first_none n s _ c.args.stage.inside.0 c.requires.blank in
    first_all c.args.lines.now c.loop-held.held-index n s c.loop-held.rows c.loop-held-test.false (c.loop-held.invariant n s c.requires.sound e)
