use Rattle.std.proofs.Common.{◌≡◌, drop, ap, ◌∙◌, rules}
use Rattle.plantfile.specs.Format.{line_of, trial_of}
use Rattle.plantfile.proofs.Steps.{tail_is}
use Rattle.plantfile.proofs.reader.first_command.Goals as goal

pub returns-in-84-2 : goal.returns-in-84-2
returns-in-84-2 c =
    let e : c.read_trial.result ≡ trial_of (drop 1 c.args.rest.now) = c.read_trial.ensures ∙ ap trial_of (tail_is c.args.rest.now 1) in
    search rules

pub returns-in-76 : goal.returns-in-76
returns-in-76 c =
    let e : c.read_line.result ≡ line_of (drop 1 c.args.rest.now) = c.read_line.ensures ∙ ap line_of (tail_is c.args.rest.now 1) in
    search rules
