use Rattle.planner.proofs.Shown.{facts}
use Rattle.planner.proofs.machine.Planner.total.Goals as goal

pub returns-in_err-expect_flow-clause-facts : goal.returns-in_err-expect_flow-clause-facts
returns-in_err-expect_flow-clause-facts g c = facts g.C.Chooser.has c.args.self.now

pub returns-clause-facts : goal.returns-clause-facts
returns-clause-facts g c = facts g.C.Chooser.has c.args.self.now
