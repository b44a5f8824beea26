use Rattle.std.proofs.Common.{◌++◌, codes}
use Rattle.text.specs.Text.{cut_row, flow_row, flow_rows, nothing, trial_row, trial_rows}
use Rattle.text.proofs.Paste.{first_fits, next_fits, rows_fit, then_adds}
use Rattle.text.proofs.sheets.FlowSheet.put_on.Goals as goal

pub put_rows-requires : goal.put_rows-requires
put_rows-requires c =
    let s = c.args.self.now in
    let rest = cut_row (codes "NEAR") s.near.now ++ (cut_row (codes "FAR") s.far.now ++ trial_rows s.trials.now) in
    rows_fit flow_row s.flows.now 0 (first_fits (flow_rows s.flows.now) rest (next_fits (flow_rows s.flows.now ++ rest) c.requires c.put_head.ensures))

pub put_cut-requires : goal.put_cut-requires
put_cut-requires c =
    let s = c.args.self.now in
    let near = cut_row (codes "NEAR") s.near.now in
    let rest = cut_row (codes "FAR") s.far.now ++ trial_rows s.trials.now in
    first_fits near rest (next_fits (near ++ rest) (next_fits (flow_rows s.flows.now ++ (near ++ rest)) c.requires c.put_head.ensures) (c.put_rows.ensures 0))

pub put_cut-requires-2 : goal.put_cut-requires-2
put_cut-requires-2 c =
    let s = c.args.self.now in
    let near = cut_row (codes "NEAR") s.near.now in
    let far = cut_row (codes "FAR") s.far.now in
    let rest = trial_rows s.trials.now in
    first_fits far rest (next_fits (far ++ rest) (next_fits (near ++ (far ++ rest)) (next_fits (flow_rows s.flows.now ++ (near ++ (far ++ rest))) c.requires c.put_head.ensures) (c.put_rows.ensures 0)) c.put_cut.ensures)

pub put_rows-requires-2 : goal.put_rows-requires-2
put_rows-requires-2 c =
    let s = c.args.self.now in
    let near = cut_row (codes "NEAR") s.near.now in
    let far = cut_row (codes "FAR") s.far.now in
    let rest = trial_rows s.trials.now in
    rows_fit (λ _ t. trial_row t) s.trials.now nothing (next_fits rest (next_fits (far ++ rest) (next_fits (near ++ (far ++ rest)) (next_fits (flow_rows s.flows.now ++ (near ++ (far ++ rest))) c.requires c.put_head.ensures) (c.put_rows.ensures 0)) c.put_cut.ensures) c.put_cut-2.ensures)

pub returns : goal.returns
returns c = then_adds c.put_head.ensures (then_adds (c.put_rows.ensures 0) (then_adds c.put_cut.ensures (then_adds c.put_cut-2.ensures (c.put_rows-2.ensures nothing))))
