use Rattle.std.proofs.Common.{◌≤◌, arith}
use Rattle.plant.specs.Held.{marked}
use Rattle.planner.specs.Readings.{test_hurdle}
use Rattle.planner.specs.Views.{view}
use Rattle.planner.proofs.Answering.{hurdle_answered, passed, put}
use Rattle.planner.proofs.Seen.{hurdle_seen}
use Rattle.planner.proofs.Shown.{facts}
use Rattle.planner.proofs.machine.Planner.hurdle.Goals as goal

pub returns : goal.returns
returns g c =
    let p = view c.args.self.now in
    let bytes = c.from-set.result.bytes in
    let few : p.plant.junctions ≤ 250 = c.args.self.now.plant.sized.1 in
    let read = hurdle_answered p c.args.out.now c.put_set.new.out bytes (marked c.hurdle_of-marks.result) c.len.result
    c.shortfall.result c.lines.result.now
    (passed (test_hurdle p.state) c.in_ok-expect_hurdle.ensures)
    (put bytes c.args.out.now c.put_set.new.out c.in_ok-put_set.ensures) (omega arith)
    c.hurdle_of-marks.ensures.residuals c.from-set.ensures.members c.from-set.ensures.gives c.len.ensures
    c.shortfall.ensures c.lines.ensures.value in
    record { read = read; seen = hurdle_seen g.C.Chooser.has c.args.self.now _ read; facts = facts g.C.Chooser.has c.args.self.now }

pub returns-in_err-expect_hurdle-clause-facts : goal.returns-in_err-expect_hurdle-clause-facts
returns-in_err-expect_hurdle-clause-facts g c = facts g.C.Chooser.has c.args.self.now

pub returns-in_err-put_set-clause-facts : goal.returns-in_err-put_set-clause-facts
returns-in_err-put_set-clause-facts g c = facts g.C.Chooser.has c.args.self.now
