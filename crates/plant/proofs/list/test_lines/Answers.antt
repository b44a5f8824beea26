use Rattle.std.proofs.Common.{◌≡◌, ℕ, ◌+◌, ◌<◌, List, length, get_or, drop, None, sym, ap, ◌∙◌}
use Rattle.std.proofs.lemmas.List.{at_drop_more, at_drop_all}
use Rattle.std.proofs.lemmas.Result.{err_from_is_err_and}
use Rattle.plant.specs.declared.line.Line.{Line}
use Rattle.plant.specs.Plants.{no_line}
use Rattle.plant.specs.Tests.{test_lines, test_line, pass}
use Rattle.plant.proofs.Tested.{line_alone}
use Rattle.plant.proofs.list.test_lines.Goals as goal

step : (n : ℕ) (ls : List Line) (k : ℕ) → k < length ls → test_lines n (drop k ls) None ≡ test_line n (get_or ls k no_line) (test_lines n (drop (k + 1) ls) None)
step n ls k h = at_drop_more (λ (xs : List Line). test_lines n xs None) ls k no_line h

pub returns-in_err-test_line : goal.returns-in_err-test_line
returns-in_err-test_line c =
    let p = err_from_is_err_and c.from_residual.result c.from_residual.ensures.1 in
    let n = c.args.n in
    let ls = c.args.lines.now in
    let k = c.loop-line.line-index in
    let more = test_lines n (drop (k + 1) ls) None in
    rw (p.1, p.2) (sym (ap pass (c.loop-line.invariant ∙ step n ls k c.loop-line-test.true ∙ (line_alone n (get_or ls k no_line) more).fails _ (sym c.in_err-test_line.ensures))))

pub loop-line-preserved : goal.loop-line-preserved
loop-line-preserved c =
    let n = c.args.n in
    let ls = c.args.lines.now in
    let k = c.loop-line.line-index in
    let more = test_lines n (drop (k + 1) ls) None in
    c.loop-line.invariant ∙ step n ls k c.loop-line-test.true ∙ (line_alone n (get_or ls k no_line) more).passes (sym c.in_ok-test_line.ensures)

pub returns : goal.returns
returns c =
    let n = c.args.n in
    sym (ap pass (c.loop-line.invariant ∙ at_drop_all (λ (xs : List Line). test_lines n xs None) c.args.lines.now c.loop-line.line-index c.loop-line-test.false))
