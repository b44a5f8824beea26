use Rattle.std.proofs.Common.{◌≡◌, ◌+◌, ◌*◌, ◌<◌, ◌≤◌, length, ap, ◌∙◌, arith}
use borrow.Author.Differences.{up}
use Rattle.std.proofs.lemmas.Int.{ints}
use Rattle.plant.specs.Held.{arcs}
use Rattle.stage.specs.Model.{exc, lowest, scan_arcs}
use Rattle.stage.proofs.Actives.{active_true}
use Rattle.stage.proofs.Keeps.{lowest_start, scan_holds}
use Rattle.stage.proofs.Rows.{one_sided}
use Rattle.preflow.proofs.Discharges.{spent, left}
use Rattle.preflow.proofs.Standing.{sound_like}
use Rattle.preflow.proofs.discharge.discharge_junction.Goals as goal

pub bounds-rows-v : goal.bounds-rows-v
bounds-rows-v g c =
    let st = c.args.stage in
    let h = c.requires.stands.holds in
    let w = active_true st.junctions st.start st.goal c.args.rows.now c.args.v h.standing.size c.requires.active in
    omega (arith, w.inside, h.standing.size)

pub relabel-requires : goal.relabel-requires
relabel-requires g c =
    let st = c.args.stage in
    let h = c.requires.stands.holds in
    let w = active_true st.junctions st.start st.goal c.args.rows.now c.args.v h.standing.size c.requires.active in
    omega (arith, w.inside, h.standing.size)

pub lowest-label-requires : goal.lowest-label-requires
lowest-label-requires g c =
    let st = c.args.stage in
    let h = c.requires.stands.holds in
    let w = active_true st.junctions st.start st.goal c.args.rows.now c.args.v h.standing.size c.requires.active in
    let h₁ = scan_holds st.junctions st.start st.goal c.requires.stands.flow (arcs c.args.lines.now) c.args.rows.now c.args.v h w in
    let n : length c.scan.new.rows ≡ st.junctions = omega (arith, h.standing.size) in
    sound_like (length c.scan.new.rows) st.junctions (arcs c.scan.new.lines) (scan_arcs c.args.v (arcs c.args.lines.now) c.args.rows.now) n c.scan.ensures.lines h₁.standing.lines

pub overflow_add-label : goal.overflow_add-label
overflow_add-label g c = let f = lowest_start c.args.v (2 * c.from.result) (arcs c.scan.new.lines) c.scan.new.rows in omega (arith, f, c.lowest-label.ensures, c.from.ensures, c.args.stage.few)

pub returns-then-rows-v-le0 : goal.returns-then-rows-v-le0
returns-then-rows-v-le0 g c =
    let st = c.args.stage in
    let z : up (exc c.scan.new.rows c.args.v) ≤ 0 = omega (arith, ints, one_sided (exc c.scan.new.rows c.args.v)) in
    let r = spent g.C.Chooser.has g.C.Chooser.puts st.junctions st.start st.goal c.args.v (arcs c.args.lines.now) c.args.rows.now
    c.args.chooser.now c.scan.new.chooser c.scan.new.rows c.scan.ensures.rows z c.scan.ensures.puts in
    record { lines = c.scan.ensures.lines; rows = r.rows_are; answer = r.answer; puts = r.put }

pub returns : goal.returns
returns g c =
    let st = c.args.stage in
    let h = c.requires.stands.holds in
    let w = active_true st.junctions st.start st.goal c.args.rows.now c.args.v h.standing.size c.requires.active in
    let z : 0 < up (exc c.scan.new.rows c.args.v) = omega (arith, ints, one_sided (exc c.scan.new.rows c.args.v)) in
    let r = left g.C.Chooser.has g.C.Chooser.puts st.junctions st.start st.goal c.args.v (arcs c.args.lines.now) c.args.rows.now
    c.args.chooser.now c.scan.new.chooser c.put.new.self (arcs c.scan.new.lines) c.scan.new.rows c.relabel.new.rows _
    c.scan.ensures.lines c.scan.ensures.rows (omega (arith, w.inside, h.standing.size)) z (ap (λ m. m + 1) (c.lowest-label.ensures ∙ ap (λ m. lowest c.args.v (arcs c.scan.new.lines) c.scan.new.rows (2 * m)) c.from.ensures)) c.relabel.ensures c.scan.ensures.puts (c.put.ensures.puts, c.put.ensures.set) in
    record { lines = c.scan.ensures.lines; rows = r.rows_are; answer = r.answer; puts = r.put }
