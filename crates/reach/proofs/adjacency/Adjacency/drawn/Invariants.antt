use Rattle.std.proofs.Common.{◌≡◌, ℕ, ◌||◌, drop}
use Rattle.reach.specs.Drawn.{drawn, tabled}
use Rattle.reach.proofs.adjacency.Adjacency.drawn.Given as goal

abbrev pub invariant-loop-line : goal.invariant-loop-line
invariant-loop-line l = (v w : ℕ) → (tabled l.graph.rows v w || drawn (drop l.line-index l.lines) v w) ≡ drawn l.lines v w
