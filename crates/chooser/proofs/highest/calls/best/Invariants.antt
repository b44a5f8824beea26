use Rattle.std.proofs.Common.{ℕ, ◌<◌, ◌≤◌, length, get_or}
use Rattle.chooser.proofs.highest.calls.best.Given as goal

abbrev pub invariant-loop-i : goal.invariant-loop-i
invariant-loop-i l =
    (0 < length l.order → l.at < length l.order)
    × ((k : ℕ) → k < l.i → get_or l.labels (get_or l.order k 0) 0 ≤ get_or l.labels (get_or l.order l.at 0) 0)
    × ((k : ℕ) → k < l.at → get_or l.labels (get_or l.order k 0) 0 < get_or l.labels (get_or l.order l.at 0) 0)
