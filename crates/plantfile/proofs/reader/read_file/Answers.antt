use Rattle.std.proofs.Common.{sym, refl, subst, rules}
use Rattle.ring.specs.Held.{items, room}
use Rattle.plantfile.specs.Format.{Told}
use Rattle.plantfile.proofs.Steps.{tail_is, n_first}
use Rattle.plantfile.proofs.reader.read_file.Goals as goal

pub returns-in-78 : goal.returns-in-78
returns-in-78 c =
    let e = n_first c.args.file.now _ _ (search rules) (search rules) refl (tail_is c.args.file.now 2) in
    let q = c.args.waiting.now in
    record {
      room = c.read_body.ensures.room;
      told = subst (λ o. Told o c.read_body.result c.args.lines.now c.read_body.new.lines (room q) (items q) (items c.read_body.new.waiting)) (sym e) c.read_body.ensures.told;
    }
