use Rattle.std.proofs.Common.{◌≡◌, ◌<◌, length, Err, ◌∙◌, rules}
use Rattle.planner.proofs.Restored.{restored}
use Rattle.planner.proofs.Trying.{never_fails, trial_done, trial_fails}
use Rattle.planner.proofs.machine.Planner.trial.Goals as goal

pub returns-in_err-test_trial : goal.returns-in_err-test_trial
returns-in_err-test_trial g c =
    let a = c.args in
    let er : c.from_residual-in_err-test_trial.result ≡ Err c.in_err-test_trial.field-0.0 = search rules in
    record {
      trials = trial_fails g.C.Chooser.has g.C.Chooser.clears g.C.Chooser.puts g.C.Chooser.takes a.n a.aim a.trial.line a.trial.low a.trial.high a.lines.now a.lines.now _ c.in_ok-test_plant.ensures
          a.self.now c.from_residual-in_err-test_trial.result c.in_err-test_trial.field-0.0 c.in_err-test_trial.ensures er;
      sound = search rules;
      back = search rules;
    }

pub returns-in_err-start : goal.returns-in_err-start
returns-in_err-start g c =
    let h : c.args.trial.line < length c.args.lines.now = search rules in
    let a = c.args in
    record {
      trials = never_fails g.C.Chooser.has g.C.Chooser.clears g.C.Chooser.puts g.C.Chooser.takes a.n a.aim a.trial.line a.trial.low a.trial.high a.lines.now c.put_limits.new.lines _ c.in_ok-test_plant.ensures
          _ c.in_ok-test_trial.ensures c.put_limits.ensures c.in_err-start.ensures.starts.0;
      sound = search rules;
      back = c.drop-guard.ensures ∙ restored _ _ _ _ _ _ c.from.ensures h c.put_limits.ensures;
    }

pub returns : goal.returns
returns g c =
    let h : c.args.trial.line < length c.args.lines.now = search rules in
    let a = c.args in
    record {
      trials = trial_done g.C.Chooser.has g.C.Chooser.clears g.C.Chooser.puts g.C.Chooser.takes a.n a.aim a.trial.line a.trial.low a.trial.high a.lines.now c.put_limits.new.lines _ c.in_ok-test_plant.ensures
          a.self.now c.start.new.planner c.run_from_one-outcome.new.self c.run_from_one-outcome.result.1 c.run_from_one-outcome.result.0 c.in_ok-test_trial.ensures c.put_limits.ensures c.run_from_one-outcome.ensures.sound
          c.in_ok-start.ensures.starts c.run_from_one-outcome.ensures.runs;
      sound = search rules;
      back = c.drop-guard-2.ensures ∙ restored _ _ _ _ _ _ c.from.ensures h c.put_limits.ensures;
    }
