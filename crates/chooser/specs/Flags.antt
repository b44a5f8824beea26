-- Counting the flags that are set.
use Rattle.std.specs.Prelude.{◌≡◌, ℕ, zero, suc, ◌+◌, ◌<◌, ◌≤◌, Bool, true, false, List, [], ◌∷◌, length, replicate, slice_index_or, slice_set, refl}
use Rattle.std.proofs.Common.{arith, length-set, subst}
use Rattle.chooser.specs.Lists.{ones}

pub ones_le : (bs : List Bool) → ones bs ≤ length bs
ones_le [] = omega arith
ones_le (true ∷ bs) = omega (arith, ones_le bs)
ones_le (false ∷ bs) = omega (arith, ones_le bs)

pub ones_on : (bs : List Bool) (i : ℕ) → i < length bs → slice_index_or bs i false ≡ false → ones (slice_set bs i true) ≡ ones bs + 1
ones_on [] i h e = omega arith
ones_on (true ∷ bs) zero h e = let z : ◌≡◌ {A = ℕ} 0 1 = cc in omega arith
ones_on (false ∷ bs) zero h e = omega arith
ones_on (true ∷ bs) (suc i) h e = omega (arith, ones_on bs i (omega arith) e)
ones_on (false ∷ bs) (suc i) h e = ones_on bs i (omega arith) e

pub ones_off : (bs : List Bool) (i : ℕ) → slice_index_or bs i false ≡ true → ones (slice_set bs i false) + 1 ≡ ones bs
ones_off [] i e = let z : ◌≡◌ {A = ℕ} 0 1 = cc in omega arith
ones_off (true ∷ bs) zero e = omega arith
ones_off (false ∷ bs) zero e = let z : ◌≡◌ {A = ℕ} 0 1 = cc in omega arith
ones_off (true ∷ bs) (suc i) e = omega (arith, ones_off bs i e)
ones_off (false ∷ bs) (suc i) e = ones_off bs i e

-- while a flag is not set, fewer are set than there are
pub ones_room : (bs : List Bool) (i : ℕ) → i < length bs → slice_index_or bs i false ≡ false → ones bs < length bs
ones_room bs i h e = omega (arith, ones_on bs i h e, ones_le (slice_set bs i true), length-set bs i true)

pub ones_none : (bs : List Bool) → ones bs ≡ 0 → (u : ℕ) → slice_index_or bs u false ≡ false
ones_none [] e u = refl
ones_none (true ∷ bs) e u = let z : ◌≡◌ {A = ℕ} 0 1 = omega arith in cc
ones_none (false ∷ bs) e zero = refl
ones_none (false ∷ bs) e (suc u) = ones_none bs e u

pub flag_below : (bs : List Bool) (u : ℕ) → slice_index_or bs u false ≡ true → u < length bs
flag_below [] u e = let z : ◌≡◌ {A = ℕ} 0 1 = cc in omega arith
flag_below (b ∷ bs) zero e = omega arith
flag_below (b ∷ bs) (suc u) e = omega (arith, flag_below bs u e)

-- where there are 252 flags
pub flag_below_252 : (bs : List Bool) (u : ℕ) → length bs ≡ 252 → slice_index_or bs u false ≡ true → u < 252
flag_below_252 bs u e on = subst (λ (n : ℕ). u < n) e (flag_below bs u on)

-- no flag is set at first
pub unset : (n u : ℕ) → slice_index_or (replicate n false) u false ≡ false
unset zero u = refl
unset (suc n) zero = refl
unset (suc n) (suc u) = unset n u

pub ones_unset : (n : ℕ) → ones (replicate n false) ≡ 0
ones_unset zero = refl
ones_unset (suc n) = ones_unset n
