use Rattle.text.proofs.Paste.{then_adds}
use Rattle.text.proofs.sheets.TriedRow.put.Goals as goal

pub returns : goal.returns
returns c = then_adds c.put.ensures (then_adds c.put_number.ensures (then_adds c.put-2.ensures (then_adds c.put_total.ensures c.put-3.ensures)))
