use Rattle.std.proofs.Common.{◌++◌, false}
use Rattle.text.specs.Text.{marked, members, newline}
use Rattle.text.proofs.Paste.{first_fits, next_fits, rows_fit, then_adds}
use Rattle.text.proofs.page.Page.put_cut.Goals as goal

pub put_rows-requires : goal.put_rows-requires
put_rows-requires c =
    let set = c.args.set.now in
    rows_fit (λ v is_in. marked is_in v) set false (first_fits (members set) newline (next_fits (members set ++ newline) c.requires c.put.ensures))

pub put-requires-2 : goal.put-requires-2
put-requires-2 c =
    let set = c.args.set.now in
    next_fits newline (next_fits (members set ++ newline) c.requires c.put.ensures) (c.put_rows.ensures false)

pub returns : goal.returns
returns c = then_adds c.put.ensures (then_adds (c.put_rows.ensures false) c.put-2.ensures)
