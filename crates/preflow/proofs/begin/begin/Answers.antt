use Rattle.std.proofs.Common.{length, ap, ◌∙◌}
use Rattle.plant.specs.Held.{arcs}
use Rattle.stage.specs.Model.{first_rows, whole}
use Rattle.stage.proofs.Begins.{first}
use Rattle.stage.proofs.Sweeps.{swept_length}
use Rattle.preflow.specs.Stages.{state_of}
use Rattle.preflow.proofs.Steps.{begin_done}
use Rattle.preflow.proofs.begin.begin.Goals as goal

pub put_active-requires : goal.put_active-requires
put_active-requires g c =
    let st = c.args.stage in
    let ls = arcs c.args.lines.now in
    ap length c.begin_rows.ensures.rows ∙ swept_length st.start (whole st.start) ls (first_rows st.junctions st.start ls) ∙ (first st.junctions st.start ls).size

pub returns : goal.returns
returns g c =
    let st = c.args.stage in
    let b = c.begin_rows in
    let r = begin_done g.C.Chooser.has g.C.Chooser.clears g.C.Chooser.puts g.C.Chooser.takes st.junctions st.start st.goal (arcs c.args.lines.now)
    c.args.chooser.now c.clear.new.self c.put_active.new.chooser (state_of b.new.lines b.new.rows)
    st.few st.inside.0 st.inside.1 st.apart c.requires.balanced c.requires.light b.ensures.lines b.ensures.rows
    c.clear.ensures.clears c.clear.ensures.empty c.put_active.ensures in
    record { state = r.state; puts = r.puts_are; stands = r.stands; tied = r.tied }
