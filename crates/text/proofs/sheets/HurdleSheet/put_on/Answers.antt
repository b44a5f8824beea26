use Rattle.std.proofs.Common.{◌++◌, codes}
use Rattle.text.specs.Text.{cut_row, nothing, trial_row, trial_rows}
use Rattle.text.proofs.Paste.{next_fits, rows_fit, then_adds}
use Rattle.text.proofs.sheets.HurdleSheet.put_on.Goals as goal

pub put_rows-requires : goal.put_rows-requires
put_rows-requires c =
    let s = c.args.self.now in
    let cut = cut_row (codes "HURDLE") s.hurdle.now in
    let first = then_adds c.put.ensures (then_adds c.put_number.ensures c.put-2.ensures) in
    rows_fit (λ _ t. trial_row t) s.trials.now nothing (next_fits (trial_rows s.trials.now) (next_fits (cut ++ trial_rows s.trials.now) c.requires first) c.put_cut.ensures)

pub returns : goal.returns
returns c = then_adds (then_adds c.put.ensures (then_adds c.put_number.ensures c.put-2.ensures)) (then_adds c.put_cut.ensures (c.put_rows.ensures nothing))
