use Rattle.std.proofs.Common.{ap}
use Rattle.planner.specs.Limits.{limited}
use Rattle.planner.proofs.machine.trials.put_limits.Goals as goal

pub returns : goal.returns
unfolding limited
returns c = ap (λ k. limited c.args.lines.now k c.args.trial.low c.args.trial.high) c.from-at.ensures
