use Rattle.text.proofs.Paste.{adds_nothing, then_adds}
use Rattle.text.proofs.sheets.BoolRow.put.Goals as goal

pub returns-then-self : goal.returns-then-self
returns-then-self c = rw c.if-self.true (then_adds c.put.ensures c.put_number.ensures)

pub returns-else-self : goal.returns-else-self
returns-else-self c = rw c.if-self.false (adds_nothing c.args.page.now)
