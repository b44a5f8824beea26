use Rattle.std.proofs.Common.{◌≤◌, arith, to_z-of_z, w64, SFits, to_z, of_z, rules}
use Rattle.plant.specs.Held.{marked}
use Rattle.planner.specs.Readings.{test_flow}
use Rattle.planner.specs.Views.{view}
use Rattle.planner.proofs.Answering.{cut_answered, passed, put}
use Rattle.planner.proofs.Seen.{cut_seen}
use Rattle.planner.proofs.machine.Planner.cut.Goals as goal

pub returns : goal.returns
returns g c =
    let p = view c.args.self.now in
    let bytes = c.from-set.result.bytes in
    let few : p.plant.junctions ≤ 250 = c.args.self.now.plant.sized.1 in
    let fits : SFits w64 c.bound.result = search rules in
    let read = cut_answered p c.args.side c.args.out.now c.put_set.new.out bytes (marked c.cut_of-marks.result) c.len.result
    (to_z w64 (of_z w64 c.bound.result)) c.bound.result c.aim.result c.lines.result.now
    (passed (test_flow p.state) c.in_ok-expect_flow.ensures)
    (put bytes c.args.out.now c.put_set.new.out c.in_ok-put_set.ensures) (omega arith)
    c.cut_of-marks.ensures.residuals c.from-set.ensures.members c.from-set.ensures.gives c.len.ensures
    (to_z-of_z fits) c.bound.ensures c.aim.ensures c.lines.ensures.value in
    record { read = read; seen = cut_seen g.C.Chooser.has c.args.self.now c.args.side _ read }
