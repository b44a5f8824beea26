use Rattle.text.proofs.Paste.{then_adds}
use Rattle.text.proofs.sheets.U32Row.put.Goals as goal

pub returns : goal.returns
returns c = then_adds c.put_number.ensures (then_adds c.put.ensures (then_adds c.put_number-2.ensures c.put-2.ensures))
