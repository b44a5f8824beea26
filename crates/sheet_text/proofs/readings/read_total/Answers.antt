use Rattle.std.proofs.Common.{◌≡◌, pos, nat_abs, sym, ap, ◌∙◌, arith, to_z-of_z, w64, SFits, rules}
use Rattle.sheet_text.proofs.Reading.{ok_same, out, out_small, total_shown, total_told}
use Rattle.sheet_text.proofs.readings.read_total.Goals as goal

pub returns : goal.returns
returns c =
    let p = c.args.planner.now in
    let z = c.in_ok-total.total in
    let fits : SFits w64 z = search rules in
    let e : z ≡ pos (out p c.requires.0 c.requires.1) = ok_same z _ (c.in_ok-total.ensures.answer ∙ total_told p c.requires.0 c.requires.1) in
    let is : c.unsigned_abs.result ≡ out p c.requires.0 c.requires.1 = c.unsigned_abs.ensures.value ∙ ap nat_abs (to_z-of_z fits ∙ e) in
    (total_shown p c.requires.0 c.requires.1 ∙ ap pos (sym is), omega (arith, is, out_small p c.requires.0 c.requires.1))
