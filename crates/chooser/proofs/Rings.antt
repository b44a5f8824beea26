-- The numbers of a ring of 252 places from a place on.
use Rattle.std.proofs.Common.{◌≡◌, ℕ, zero, suc, ◌+◌, ◌-◌, ◌%◌, ◌<◌, List, [], ◌∷◌, ◌++◌, length, get_or, set, refl, ap, add-one, sub-one, arith, get_or-set_other, get_or-set_same}
use Rattle.chooser.specs.Lists.{run}

pub length_run : (r : List ℕ) (h n : ℕ) → length (run r h n) ≡ n
length_run r h zero = refl
length_run r h (suc n) = omega (arith, length_run r (h + 1) n)

pub run_none : (r : List ℕ) (h n : ℕ) → n ≡ 0 → run r h n ≡ []
run_none r h n e = rw e

-- only the place counts
run_same : (r : List ℕ) (h k n : ℕ) → h % 252 ≡ k % 252 → run r h n ≡ run r k n
run_same r h k zero e = refl
run_same r h k (suc n) e = rw (e, run_same r (h + 1) (k + 1) n (omega arith))

-- a write behind the last
run_set : (r : List ℕ) (h n p v : ℕ) → length r ≡ 252 → n < 252 → p ≡ (h + n) % 252 → run (set r p v) h (suc n) ≡ run r h n ++ v ∷ []
run_set r h zero p v w l e =
    let same : p ≡ h % 252 = omega arith in
    ap (λ x. x ∷ []) (rw same (get_or-set_same r (h % 252) v 0 (omega arith)))
run_set r h (suc n) p v w l e =
    let here : get_or (set r p v) (h % 252) 0 ≡ get_or r (h % 252) 0 = get_or-set_other r p (h % 252) v 0 (λ q. omega arith) in
    let rest : run (set r p v) (h + 1) (suc n) ≡ run r (h + 1) n ++ v ∷ [] = run_set r (h + 1) n p v w (omega arith) (omega arith) in
    cc

pub run_put : (r : List ℕ) (h n v : ℕ) → length r ≡ 252 → n < 252 → run (set r ((h + n) % 252) v) h (n + 1) ≡ run r h n ++ v ∷ []
run_put r h n v w l = rw add-one (run_set r h n ((h + n) % 252) v w l refl)

-- the first and the rest
pub run_take : (r : List ℕ) (h n : ℕ) → h < 252 → 0 < n → run r h n ≡ get_or r h 0 ∷ run r ((h + 1) % 252) (n - 1)
run_take r h zero i s = absurd (omega arith)
run_take r h (suc n) i s =
    let same : h % 252 ≡ h = omega arith in
    let next : (h + 1) % 252 ≡ ((h + 1) % 252) % 252 = omega arith in
    rw (same, sub-one, run_same r (h + 1) ((h + 1) % 252) n next)
