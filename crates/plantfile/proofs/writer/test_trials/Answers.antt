use Rattle.std.proofs.Common.{sym, ap, ◌∙◌}
use Rattle.std.proofs.lemmas.Iterator.{YieldsList-from_slice}
use Rattle.std.proofs.lemmas.Iterator.Consumers.{YieldsList-from_copied}
use Rattle.plant.specs.Tests.{pass}
use Rattle.plantfile.proofs.Laying.{few_each}
use Rattle.plantfile.proofs.writer.test_trials.Goals as goal

pub returns : goal.returns
returns c =
    let ts = c.args.trials.now in
    c.test_each.ensures ts (YieldsList-from_copied (YieldsList-from_slice ts (cc))).runs ∙ sym (ap pass (few_each c.args.count ts c.if-trials-gt-MAX_TRIALS.false))
