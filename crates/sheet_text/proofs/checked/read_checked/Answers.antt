use Rattle.std.proofs.Common.{◌≡◌, length, rules}
use Rattle.std.proofs.lemmas.Iterator.Consumers.{YieldsList-from_first}
use Rattle.ring.specs.Held.{items}
use Rattle.ring.specs.Rest.{rest}
use Rattle.std.proofs.lemmas.Result.{err_from_is_err_and}
use Rattle.sheet_text.proofs.Testing.{told_all, told_count, told_junctions, told_list, told_trials}
use Rattle.sheet_text.proofs.checked.read_checked.Goals as goal

pub returns-in_err-test_list : goal.returns-in_err-test_list
returns-in_err-test_list c =
    let p = err_from_is_err_and c.from_residual-in_err-test_list.result c.from_residual-in_err-test_list.ensures.1 in
    let k = c.in_ok-heading.ensures.told in
    let wide : length c.args.lines.now ≡ 1000 = search rules in
    rw (p.1, p.2) (record { told = told_junctions c.args.file.now k.0 k.1 c.in_ok-heading.heading _ _ _ _ _ k.2 wide c.requires.1 c.requires.0 _ c.in_err-test_list.ensures; ready = tt })

pub returns-then-count-gt-MAX_LINES : goal.returns-then-count-gt-MAX_LINES
returns-then-count-gt-MAX_LINES c =
    let k = c.in_ok-heading.ensures.told in
    let wide : length c.args.lines.now ≡ 1000 = search rules in
    record { told = told_count c.args.file.now k.0 k.1 c.in_ok-heading.heading _ _ _ _ _ k.2 wide c.requires.1 c.requires.0 c.in_ok-test_list.ensures c.if-count-gt-MAX_LINES.true; ready = tt }

pub returns-in_err-test_list-2 : goal.returns-in_err-test_list-2
returns-in_err-test_list-2 c =
    let p = err_from_is_err_and c.from_residual-in_err-test_list-2.result c.from_residual-in_err-test_list-2.ensures.1 in
    let k = c.in_ok-heading.ensures.told in
    let wide : length c.args.lines.now ≡ 1000 = search rules in
    rw (p.1, p.2) (record { told = told_list c.args.file.now k.0 k.1 c.in_ok-heading.heading _ _ _ _ _ k.2 wide c.requires.1 c.requires.0 c.if-count-gt-MAX_LINES.false _ c.in_err-test_list-2.ensures; ready = tt })

pub returns-in_err-test_each : goal.returns-in_err-test_each
returns-in_err-test_each c =
    let p = err_from_is_err_and c.from_residual-in_err-test_each.result c.from_residual-in_err-test_each.ensures.1 in
    let k = c.in_ok-heading.ensures.told in
    let wide : length c.args.lines.now ≡ 1000 = search rules in
    rw (p.1, p.2) (record { told = told_trials c.args.file.now k.0 k.1 c.in_ok-heading.heading _ _ _ _ _ k.2 wide c.requires.1 c.requires.0 c.if-count-gt-MAX_LINES.false c.in_ok-test_list-2.ensures _ (c.in_err-test_each.ensures (items c.read_file.new.waiting) (YieldsList-from_first (λ t. t) rest (items c.read_file.new.waiting) c.iter.ensures).runs); ready = tt })

pub returns : goal.returns
returns c =
    let k = c.in_ok-heading.ensures.told in
    let wide : length c.args.lines.now ≡ 1000 = search rules in
    let all = told_all c.args.file.now k.0 k.1 c.in_ok-heading.heading _ _ _ _ _ k.2 wide c.requires.1 c.requires.0 c.if-count-gt-MAX_LINES.false c.in_ok-test_list-2.ensures (c.in_ok-test_each.ensures (items c.read_file.new.waiting) (YieldsList-from_first (λ t. t) rest (items c.read_file.new.waiting) c.iter.ensures).runs) in
    record { told = all.0; ready = (c.if-count-gt-MAX_LINES.false, all.1) }
