use Rattle.std.proofs.Common.{[], ◌∷◌, ◌+◌, length, drop, sym, ap, ◌∙◌, rules, append-nil}
use Rattle.std.proofs.lemmas.Iterator.Consumers.{YieldsList-at}
use Rattle.std.proofs.lemmas.Result.{err_from_is_err_and}
use Rattle.plant.specs.Tests.{pass, test_trial}
use Rattle.plantfile.specs.Writing.{test_each}
use Rattle.plantfile.proofs.Laying.{then_fails}
use Rattle.plantfile.proofs.Turns.{at_end, at_turn}
use Rattle.plantfile.proofs.writer.test_each.Goals as goal

pub returns-in_err-test_trial : goal.returns-in_err-test_trial
returns-in_err-test_trial g c = λ all gives.
    let p = err_from_is_err_and c.from_residual.result c.from_residual.ensures.1 in
    let x = c.in-Some.trial in
    let rest = drop (length c.loop-trial.yielded + 1) all in
    let whole = at_turn {steps = g.I.Iterator.next_gives} {s = c.into_iter-trial-iterator.result} all c.loop-trial.yielded c.loop-trial.trial-iterator c.loop-trial.yielded_by c.next.result c.next.new.self x c.in-Some.is c.next.ensures.steps (YieldsList-at (search rules) (record { runs = gives })) in
    rw (p.1, p.2) (sym (ap pass (ap (test_each c.args.count) whole ∙ c.loop-trial.invariant (x ∷ rest) ∙ then_fails (test_trial c.args.count x.line x.low x.high) (test_each c.args.count rest) _ c.in_err-test_trial.ensures)))

pub returns : goal.returns
returns g c = λ all gives.
    let whole = at_end {steps = g.I.Iterator.next_gives} {s = c.into_iter-trial-iterator.result} all c.loop-trial.yielded c.loop-trial.trial-iterator c.loop-trial.yielded_by c.next.result c.next.new.self c.in-None.is c.next.ensures.steps (YieldsList-at (search rules) (record { runs = gives })) in
    sym (ap pass (ap (test_each c.args.count) (sym whole ∙ sym (append-nil c.loop-trial.yielded)) ∙ c.loop-trial.invariant []))
