-- The two ways through a turn of the inner loop, over the queue itself.
use Rattle.std.proofs.Common.{◌≡◌, ℕ, ◌+◌, ◌<◌, ◌≤◌, Bool, true, false, List, [], ◌∷◌, ◌++◌, length, get_or, set, sym, ap, ◌∙◌, arith}
use Rattle.ring.specs.declared.queue.Queue.{Queue}
use Rattle.ring.specs.Held.{items, room}
use Rattle.reach.proofs.Going.{At, Going, free, has_room, step_marked, step_passed}

pub join_marked : (edge : ℕ → ℕ → Bool) (n from : ℕ) (m m' : List Bool) (q p r : Queue ℕ) (v k : ℕ) {s : ℕ}
    → Going edge n from m (items q) v k → n ≤ room q → length (items q) + free n m ≡ s
    → k < n → get_or m k false ≡ false → true ≡ edge v k → m' ≡ set m k true → r ≡ p → room p ≡ room q
    → (length (items q) < room q → items p ≡ items q ++ (k ∷ []))
    → Going edge n from m' (items r) v (k + 1) × (n ≤ room r) × (length (items r) + free n m' ≡ s)
join_marked edge n from m m' q p r v k i wide sum h f d me re e put =
    let less = has_room edge n from m (items q) v k i h f in
    let next = step_marked edge n from m m' (items q) (items r) v k i h f (sym d) me (ap items re ∙ put (omega (arith, less, wide))) in
    (next.0, omega (arith, wide, ap room re, e), next.1 ∙ sum)

pub join_passed : (edge : ℕ → ℕ → Bool) (n from : ℕ) (m m' : List Bool) (q r : Queue ℕ) (v k : ℕ) {s : ℕ}
    → Going edge n from m (items q) v k → n ≤ room q → length (items q) + free n m ≡ s
    → (edge v k ≡ true → At m k) → m' ≡ m → r ≡ q
    → Going edge n from m' (items r) v (k + 1) × (n ≤ room r) × (length (items r) + free n m' ≡ s)
join_passed edge n from m m' q r v k i wide sum past me re =
    let next = step_passed edge n from m m' (items q) (items r) v k i past me (ap items re) in
    (next.0, omega (arith, wide, ap room re), next.1 ∙ sum)
