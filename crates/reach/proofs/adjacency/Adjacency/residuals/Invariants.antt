use Rattle.std.proofs.Common.{◌≡◌, ℕ, ◌||◌, drop}
use Rattle.plant.specs.Held.{arc}
use Rattle.reach.specs.Drawn.{any, opens, tabled}
use Rattle.reach.proofs.adjacency.Adjacency.residuals.Given as goal

abbrev pub invariant-loop-held : goal.invariant-loop-held
invariant-loop-held l =
    (v w : ℕ) → (tabled l.graph.rows v w || any (λ h. opens (arc h) v w) (drop l.held-index l.lines)) ≡ any (λ h. opens (arc h) v w) l.lines
