use Rattle.std.proofs.Common.{sym}
use Rattle.std.proofs.lemmas.List.{set_past}
use Rattle.plantfile.proofs.reader.keep_line.Goals as goal

pub returns-else-at-lines : goal.returns-else-at-lines
returns-else-at-lines c = sym (set_past c.args.lines.now c.args.at c.args.line c.if-at-lines.false)
