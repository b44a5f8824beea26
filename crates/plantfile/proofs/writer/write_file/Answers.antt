use Rattle.std.proofs.Common.{arith, rules}
use Rattle.plantfile.proofs.Laying.{all_laid, length_file, no_room}
use Rattle.text.proofs.Paste.{begin_fits}
use Rattle.plantfile.proofs.writer.write_file.Goals as goal

pub returns-then-out-len : goal.returns-then-out-len
returns-then-out-len c = no_room c.args.n c.args.lines.now c.args.trials.now c.args.aim _ c.in_ok-aim.ensures c.in_ok-test_trials.ensures c.args.out.now c.if-out-len.true

pub put_file-requires : goal.put_file-requires
put_file-requires c = begin_fits c.new-page.ensures.begins c.if-out-len.false (omega (arith, length_file c.args.n c.args.lines.now c.args.trials.now c.args.aim c.in_ok-aim.aim))

pub returns : goal.returns
returns c = all_laid c.args.n c.args.lines.now c.args.trials.now c.args.aim _ c.in_ok-aim.ensures c.in_ok-test_trials.ensures c.args.out.now _ _ c.if-out-len.false (search rules)
