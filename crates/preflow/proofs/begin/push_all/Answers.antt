use Rattle.std.proofs.Common.{◌≡◌, ◌≤◌, length, get_or, ap, ◌∙◌, arith}
use Rattle.std.proofs.lemmas.List.{length-map}
use Rattle.plant.specs.Held.{Arc, arc, arcs, other, shift}
use Rattle.stage.specs.Model.{sent, whole}
use Rattle.stage.proofs.Begins.{first}
use Rattle.stage.proofs.Halves.{half_all, half_none}
use Rattle.preflow.proofs.Scans.{sweep_here, sweep_more}
use Rattle.preflow.proofs.Standing.{begin_bounded}
use Rattle.preflow.proofs.begin.push_all.Goals as goal

pub loop-held-init : goal.loop-held-init
loop-held-init c =
    let st = c.args.stage in
    let ls = arcs c.args.lines.now in
    let e : length c.args.rows.now ≡ st.junctions = ap length c.requires.first ∙ (first st.junctions st.start ls).size in
    half_none st.start (whole st.start) ls c.args.rows.now (rw e c.requires.balanced.lines)

pub push-requires : goal.push-requires
push-requires c =
    let st = c.args.stage in
    let s = st.start in
    let ls = arcs c.args.lines.now in
    let e : length c.args.rows.now ≡ st.junctions = ap length c.requires.first ∙ (first st.junctions s ls).size in
    let h = c.loop-held.invariant in
    record {
      line = sweep_here s (whole s) c.loop-held.held-index ls c.args.rows.now c.loop-held.lines c.loop-held.rows c.held-item.result (omega arith) h;
      junction = omega (arith, h.rows_size, st.inside.0);
      bounded = begin_bounded st.junctions s st.goal c.loop-held.held-index ls c.args.rows.now (arcs c.loop-held.lines) c.loop-held.rows st.few st.inside.0 st.inside.1 st.apart c.requires.balanced c.requires.light c.requires.first h;
      given = omega (arith, c.residual-whole.ensures);
    }

pub loop-held-preserved : goal.loop-held-preserved
loop-held-preserved c =
    let st = c.args.stage in
    let s = st.start in
    let ls = arcs c.args.lines.now in
    let e : length c.args.rows.now ≡ st.junctions = ap length c.requires.first ∙ (first st.junctions s ls).size in
    let x : Arc = arc (get_or c.loop-held.lines c.loop-held.held-index c.held-item.result) in
    sweep_more s (whole s) c.loop-held.held-index ls c.args.rows.now c.loop-held.lines c.loop-held.rows c.held-item.result (omega arith) c.loop-held.invariant
    c.push.new.held c.push.new.rows (omega (arith, st.inside.0))
    (c.push.ensures.line ∙ ap (λ d. shift s d x) c.residual-whole.ensures)
    (c.push.ensures.rows ∙ ap (λ d. sent s (other s x) d c.loop-held.rows) c.residual-whole.ensures)

pub returns : goal.returns
returns c =
    let s = c.args.stage.start in
    let j : length (arcs c.loop-held.lines) ≤ c.loop-held.held-index = rw (length-map c.loop-held.lines arc) (omega arith) in
    let r = half_all s (whole s) c.loop-held.held-index (arcs c.args.lines.now) c.args.rows.now (arcs c.loop-held.lines) c.loop-held.rows j c.loop-held.invariant in
    record { lines = r.0; rows = r.1 }
