use Rattle.std.proofs.Common.{◌≡◌, ℕ, ◌<◌, ◌≤◌, false, get_or, length}
use Rattle.reach.proofs.marks.select.Given as goal

abbrev pub invariant-loop-v : goal.invariant-loop-v
invariant-loop-v g l =
    ((k : ℕ) → k < l.v → goal.F-post g l.accepts (get_or l.marks k false) (get_or l.selected k false))
    × ((k : ℕ) → l.v ≤ k → get_or l.selected k false ≡ false)
    × (length l.selected ≡ 256)
