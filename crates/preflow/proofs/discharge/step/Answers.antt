use Rattle.preflow.specs.Stages.{state_of}
use Rattle.preflow.proofs.Steps.{step_done}
use Rattle.preflow.proofs.discharge.step.Goals as goal

pub returns : goal.returns
returns g c =
    let st = c.args.stage in
    let d = c.discharge_junction in
    let r = step_done g.C.Chooser.has g.C.Chooser.clears g.C.Chooser.puts g.C.Chooser.takes st.junctions st.start st.goal c.in_ok-v.v
    (state_of c.args.lines.now c.args.rows.now) (state_of d.new.lines d.new.rows) c.args.chooser.now c.take.new.self d.new.chooser d.result st.few c.requires.stands c.requires.tied
    (c.in_ok-v.ensures.takes, c.in_ok-v.ensures.set) d.ensures.lines d.ensures.rows d.ensures.answer d.ensures.puts in
    record { step = r.step; stands = r.stands; tied = r.tied }
