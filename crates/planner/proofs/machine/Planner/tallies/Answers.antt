use Rattle.planner.proofs.Laws.{limits}
use Rattle.planner.proofs.machine.Planner.tallies.Goals as goal

pub returns-clause-limits : goal.returns-clause-limits
returns-clause-limits g c = limits g.C.Chooser.has c.args.self.now
