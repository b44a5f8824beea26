use Rattle.std.proofs.Common.{ℕ, Ok, Result, sym, ap, ◌∙◌}
use Rattle.plant.specs.declared.decline.Decline.{Decline}
use Rattle.plant.specs.declared.held.HeldLine.{HeldLine}
use Rattle.plant.specs.Held.{arcs}
use Rattle.planner.specs.Readings.{test_flow}
use Rattle.planner.specs.Views.{view}
use Rattle.planner.proofs.Answering.{flow_answered, flow_declined, passed}
use Rattle.planner.proofs.Shown.{facts}
use Rattle.planner.proofs.machine.Planner.flow.Goals as goal

pub returns-in_err-expect_flow-clause-facts : goal.returns-in_err-expect_flow-clause-facts
returns-in_err-expect_flow-clause-facts g c = facts g.C.Chooser.has c.args.self.now

pub returns-in-Some-clause-answer : goal.returns-in-Some-clause-answer
returns-in-Some-clause-answer g c =
    let s = c.args.self.now in
    let h = c.in-Some.held.now in
    let l = c.in-Some.ensures.lookup in
    ap answered l.1 ∙ flow_answered (view s) c.lines.result.now c.args.line h (passed (test_flow s.state) c.in_ok-expect_flow.ensures) (ap arcs (sym c.lines.ensures.value)) l.3.0
  where
    answered : HeldLine → Result ℕ Decline
    answered x = Ok x.flow

pub returns-in-None-clause-answer : goal.returns-in-None-clause-answer
returns-in-None-clause-answer g c =
    let s = c.args.self.now in
    flow_declined (view s) c.lines.result.now c.args.line (passed (test_flow s.state) c.in_ok-expect_flow.ensures) (ap arcs (sym c.lines.ensures.value)) c.in-None.ensures.lookup.3

pub returns-in-Some-clause-facts : goal.returns-in-Some-clause-facts
returns-in-Some-clause-facts g c = facts g.C.Chooser.has c.args.self.now

pub returns-in-None-clause-facts : goal.returns-in-None-clause-facts
returns-in-None-clause-facts g c = facts g.C.Chooser.has c.args.self.now
