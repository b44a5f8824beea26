use Rattle.std.proofs.Common.{◌≡◌, ◌≤◌, length, slice_index_or, sym, refl, ◌∙◌, arith}
use Rattle.std.proofs.Math.Seq.{map-set_same}
use borrow.Author.Differences.{up}
use Rattle.std.proofs.lemmas.List.{length-map}
use Rattle.std.proofs.lemmas.Int.{ints}
use Rattle.plant.specs.Held.{arc, arcs}
use Rattle.stage.specs.Model.{amount, exc}
use Rattle.stage.proofs.Actives.{active_true}
use Rattle.stage.proofs.Rows.{one_sided}
use Rattle.stage.proofs.Scan.{amount_fits}
use Rattle.stage.proofs.Stops.{still}
use Rattle.preflow.proofs.Scans.{going_none, going_more, going_all, going_stops, sweep_here}
use Rattle.preflow.proofs.Standing.{scan_roomy}
use Rattle.preflow.proofs.discharge.scan.Goals as goal

pub loop-held-init : goal.loop-held-init
loop-held-init g c =
    let st = c.args.stage in
    let h = c.requires.stands.holds in
    going_none g.C.Chooser.has g.C.Chooser.puts st.start st.goal c.args.v (arcs c.args.lines.now) c.args.rows.now c.args.chooser.now (rw h.standing.size h.standing.lines)

pub bounds-rows-v : goal.bounds-rows-v
bounds-rows-v g c =
    let st = c.args.stage in
    let h = c.requires.stands.holds in
    let w = active_true st.junctions st.start st.goal c.args.rows.now c.args.v h.standing.size c.requires.active in
    omega (arith, w.inside, h.standing.size, c.loop-held.invariant.half.rows_size)

pub push_and_put-requires : goal.push_and_put-requires
push_and_put-requires g c =
    let st = c.args.stage in
    let v = c.args.v in
    let h = c.requires.stands.holds in
    let w = active_true st.junctions st.start st.goal c.args.rows.now v h.standing.size c.requires.active in
    let i = c.loop-held.invariant.half in
    record {
      line = sweep_here v (amount v) c.loop-held.held-index (arcs c.args.lines.now) c.args.rows.now c.loop-held.lines c.loop-held.rows c.held-item.result (omega arith) i;
      junction = omega (arith, w.inside, h.standing.size, i.rows_size);
      roomy = scan_roomy st.junctions st.start st.goal v c.loop-held.held-index c.requires.stands.flow (arcs c.args.lines.now) c.args.rows.now (arcs c.loop-held.lines) c.loop-held.rows st.few h c.requires.stands.light c.requires.active i;
    }

pub loop-held-preserved : goal.loop-held-preserved
loop-held-preserved g c =
    let st = c.args.stage in
    let v = c.args.v in
    let h = c.requires.stands.holds in
    let w = active_true st.junctions st.start st.goal c.args.rows.now v h.standing.size c.requires.active in
    going_more g.C.Chooser.has g.C.Chooser.puts st.start st.goal v c.loop-held.held-index (arcs c.args.lines.now) c.args.rows.now c.args.chooser.now
    c.loop-held.lines c.loop-held.rows c.loop-held.chooser c.held-item.result c.push_and_put.new.held c.push_and_put.new.rows c.push_and_put.new.chooser
    (omega (arith, w.inside, h.standing.size)) (omega arith) c.push_and_put.ensures.line c.push_and_put.ensures.rows c.push_and_put.ensures.puts c.loop-held.invariant

pub loop-held-preserved-then-residual-eq0 : goal.loop-held-preserved-then-residual-eq0
loop-held-preserved-then-residual-eq0 g c =
    let st = c.args.stage in
    let v = c.args.v in
    let h = c.requires.stands.holds in
    let w = active_true st.junctions st.start st.goal c.args.rows.now v h.standing.size c.requires.active in
    let x = slice_index_or c.loop-held.lines c.loop-held.held-index c.held-item.result in
    let none : amount v (arc x) c.loop-held.rows ≡ 0 = omega (arith, c.residual.ensures, c.if-residual-eq0.true, amount_fits v (arc x) c.loop-held.rows) in
    let m = still st.start st.goal v (arc x) c.loop-held.rows none in
    going_more g.C.Chooser.has g.C.Chooser.puts st.start st.goal v c.loop-held.held-index (arcs c.args.lines.now) c.args.rows.now c.args.chooser.now
    c.loop-held.lines c.loop-held.rows c.loop-held.chooser c.held-item.result x c.loop-held.rows c.loop-held.chooser
    (omega (arith, w.inside, h.standing.size)) (omega arith) (sym m.arc) (sym m.rows) (rw m.none refl) c.loop-held.invariant

pub returns-after-loop-held : goal.returns-after-loop-held
returns-after-loop-held g c =
    let st = c.args.stage in
    let j : length (arcs c.loop-held.lines) ≤ c.loop-held.held-index = rw (length-map c.loop-held.lines arc) (omega arith) in
    let r = going_all g.C.Chooser.has g.C.Chooser.puts st.start st.goal c.args.v c.loop-held.held-index (arcs c.args.lines.now) c.args.rows.now c.args.chooser.now
    (arcs c.loop-held.lines) c.loop-held.rows c.loop-held.chooser j c.loop-held.invariant in
    record { lines = r.arcs_are; rows = r.rows_are; puts = r.put }

pub returns-then-rows-v-le0 : goal.returns-then-rows-v-le0
returns-then-rows-v-le0 g c =
    let st = c.args.stage in
    let z : up (exc c.loop-held.rows c.args.v) ≡ 0 = omega (arith, ints, one_sided (exc c.loop-held.rows c.args.v)) in
    let r = going_stops g.C.Chooser.has g.C.Chooser.puts st.start st.goal c.args.v c.loop-held.held-index (arcs c.args.lines.now) c.args.rows.now c.args.chooser.now
    (arcs c.loop-held.lines) c.loop-held.rows c.loop-held.chooser z c.loop-held.invariant in
    record { lines = map-set_same arc c.loop-held.lines c.loop-held.held-index _ c.held-item.result refl ∙ r.arcs_are; rows = r.rows_are; puts = r.put }
