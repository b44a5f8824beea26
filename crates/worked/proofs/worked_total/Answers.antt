use Rattle.std.proofs.Common.{◌≡◌, slice_get, subst, sym, ap, ◌∙◌, rules}
use Rattle.std.specs.Option.{option_copied, option_flatten}
use Rattle.worked.specs.declared.TheConstants.{TOTALS}
use Rattle.worked.specs.Rows.{TotalAt}
use Rattle.worked.specs.Table.{table}
use Rattle.worked.proofs.Rows.{table_right, total_right}
use Rattle.worked.proofs.worked_total.Goals as goal

pub returns : goal.returns
returns c =
    let found : option_copied c.get.result ≡ slice_get TOTALS c.args.row = search rules in
    subst (TotalAt table c.args.row) (sym (c.flatten.ensures ∙ ap option_flatten (c.copied.ensures ∙ found))) (total_right table table_right c.args.row)
