use Rattle.std.proofs.lemmas.Result.{err_from_is_err_and}
use Rattle.sheet_text.specs.Sheets.{checked}
use Rattle.sheet_text.proofs.Showing.{err_texted, ok_texted, short_texted}
use Rattle.sheet_text.proofs.listing.write_text.Goals as goal

pub returns-in_err-expect_room : goal.returns-in_err-expect_room
returns-in_err-expect_room c =
    let p = err_from_is_err_and c.from_residual.result c.from_residual.ensures.1 in
    let e = c.in_err-expect_room.ensures in
    rw (p.1, p.2) (record { text = short_texted c.args.out.now (checked c.args.file.now) _ e.0 e.1; short = tt })

pub returns-in-Ok : goal.returns-in-Ok
returns-in-Ok c =
    let t = ok_texted c.args.out.now c.write_listing.new.out (checked c.args.file.now) c.in-Ok.len c.in_ok-expect_room.ensures c.in-Ok.ensures.listed in
    record { text = t.0; short = (t.1, t.2) }

pub returns-in-Err : goal.returns-in-Err
returns-in-Err c =
    let t = err_texted c.args.out.now c.put_declined.new.out (checked c.args.file.now) c.in-Err.decline c.write_listing.new.out c.put_declined.result c.in_ok-expect_room.ensures c.in-Err.ensures.listed
    c.put_declined.ensures.short c.put_declined.ensures.text in
    record { text = t.0; short = (t.1, t.2) }
