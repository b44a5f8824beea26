use Rattle.text.proofs.Paste.{then_adds}
use Rattle.text.proofs.page.Page.put_head.Goals as goal

pub returns : goal.returns
returns c = then_adds c.put_aim.ensures (then_adds c.put_number.ensures c.put.ensures)
