use Rattle.std.proofs.Common.{get_or}
use Rattle.text.specs.Pieces.{Adds}
use Rattle.text.specs.Text.{each_below}
use Rattle.text.proofs.page.Page.put_rows.Given as goal

abbrev pub invariant-loop-place : goal.invariant-loop-place
invariant-loop-place g l = (d : _) → Adds (each_below l.place (λ i. g.R.Row.text i (get_or l.rows i d))) l.initial.self l.self
