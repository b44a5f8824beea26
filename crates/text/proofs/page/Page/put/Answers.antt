use Rattle.std.proofs.Common.{length, refl, ap, arith}
use Rattle.text.proofs.Paste.{length_pasted, pasted_mid}
use Rattle.text.proofs.page.Page.put.Goals as goal

pub returns : goal.returns
returns c =
    let p = c.args.self.now in
    let bs = c.args.bytes.now in
    let is = pasted_mid p.out.now bs _ p.at _ refl c.copy_from_slice.ensures.after in
    record {
      same_reference = refl;
      left = omega (arith, ap length is, length_pasted p.out.now bs p.at (omega (arith, p.within)));
      puts = record { end = refl; is = is };
    }
