-- A list that holds each number with a set flag once, and no other.
use Rattle.std.proofs.Common.{◌≡◌, ℕ, zero, suc, ◌+◌, ◌<◌, ◌≤◌, Bool, true, false, cond, eqb, List, [], ◌∷◌, ◌++◌, length, get_or, take, drop, set, replicate, remove, sym, refl, ap, ◌∙◌, subst, inl, inr, arith, get_or-set_other, get_or-set_same}
use Rattle.std.proofs.Math.Seq.{drop-cons}
use Rattle.chooser.specs.Flags.{flag_below, unset}
use Rattle.chooser.specs.Lists.{times, flag}
use Rattle.std.proofs.lemmas.List.{get_or-take, length-take-le, take-append-drop}
use Rattle.std.proofs.lemmas.Bool.{cases_eq, cases_Bool, cond-true, cond-false, eq-eqb, ne_eqb}

abbrev pub Listed : List ℕ → List Bool → Type 0
Listed xs m = (v : ℕ) → times v xs ≡ flag m v

hit : (v x : ℕ) → v ≡ x → cond (eqb v x) 1 0 ≡ suc zero
hit v x e = cond-true (eqb v x) 1 0 (eq-eqb v x e)

miss : (v x : ℕ) → (v ≡ x → ⊥) → cond (eqb v x) 1 0 ≡ zero
miss v x n = cond-false (eqb v x) 1 0 (ne_eqb v x n)

flag_on : (m : List Bool) (v : ℕ) → get_or m v false ≡ true → flag m v ≡ 1
flag_on m v e = cond-true (get_or m v false) 1 0 e

flag_off : (m : List Bool) (v : ℕ) → get_or m v false ≡ false → flag m v ≡ 0
flag_off m v e = cond-false (get_or m v false) 1 0 e

pub times_append : (v : ℕ) (xs ys : List ℕ) → times v (xs ++ ys) ≡ times v xs + times v ys
times_append v [] ys = omega arith
times_append v (x ∷ xs) ys = omega (arith, times_append v xs ys)

-- what stands in a list stands at some place of it, and the other way round
pub times_at : (xs : List ℕ) (k : ℕ) → k < length xs → 0 < times (get_or xs k 0) xs
times_at [] k h = absurd (omega arith)
times_at (x ∷ xs) zero h = omega (arith, hit x x refl)
times_at (x ∷ xs) (suc k) h = omega (arith, times_at xs k (omega arith))

pub place_of : (u : ℕ) (xs : List ℕ) → 0 < times u xs → (k : ℕ) × (k < length xs) × (get_or xs k 0 ≡ u)
place_of u [] h = absurd (omega arith)
place_of u (x ∷ xs) h =
    elim (cases_eq u x) [
      | inl e ↦ (0, omega arith, sym e)
      | inr n ↦ let r = place_of u xs (omega (arith, miss u x n)) in (suc r.0, omega (arith, r.1), r.2)
    ]

-- what stands in the list has its flag set
pub listed_at : (xs : List ℕ) (m : List Bool) → Listed xs m → (k : ℕ) → k < length xs → get_or m (get_or xs k 0) false ≡ true
listed_at xs m l k h =
    elim (cases_Bool (get_or m (get_or xs k 0) false)) [
      | inl on ↦ on
      | inr off ↦ absurd (omega (arith, times_at xs k h, l (get_or xs k 0), flag_off m (get_or xs k 0) off))
    ]

-- and what has its flag set stands in the list
pub place_listed : (xs : List ℕ) (m : List Bool) → Listed xs m → (u : ℕ) → get_or m u false ≡ true → (k : ℕ) × (k < length xs) × (get_or xs k 0 ≡ u)
place_listed xs m l u on = place_of u xs (omega (arith, l u, flag_on m u on))

-- one more, at the end
pub listed_put : (xs : List ℕ) (m : List Bool) (v : ℕ) → v < length m → get_or m v false ≡ false → Listed xs m → Listed (xs ++ v ∷ []) (set m v true)
listed_put xs m v small off l u =
    elim (cases_eq u v) [
      | inl e ↦ rw e (omega (arith, times_append v xs (v ∷ []), hit v v refl, l v, flag_off m v off, flag_on (set m v true) v (get_or-set_same m v true false small)))
      | inr n ↦ omega (arith, times_append u xs (v ∷ []), miss u v n, l u, ap (λ (b : Bool). cond b 1 zero) (get_or-set_other m v u true false n))
    ]

-- one less, from within
pub listed_take : (xs ys : List ℕ) (m : List Bool) (v : ℕ) → get_or m v false ≡ true → v < length m → Listed (xs ++ v ∷ ys) m → Listed (xs ++ ys) (set m v false)
listed_take xs ys m v on small l u =
    elim (cases_eq u v) [
      | inl e ↦ rw e (omega (arith, times_append v xs ys, times_append v xs (v ∷ ys), hit v v refl, l v, flag_on m v on, flag_off (set m v false) v (get_or-set_same m v false false small)))
      | inr n ↦ omega (arith, times_append u xs ys, times_append u xs (v ∷ ys), miss u v n, l u, ap (λ (b : Bool). cond b 1 zero) (get_or-set_other m v u false false n))
    ]

-- the first of a list is a member
pub listed_first : (xs ys : List ℕ) (v : ℕ) (m : List Bool) → xs ≡ v ∷ ys → Listed xs m → get_or m v false ≡ true
listed_first xs ys v m e l = listed_at (v ∷ ys) m (subst (λ (zs : List ℕ). Listed zs m) e l) 0 (omega arith)

pub listed_none : (n : ℕ) → Listed [] (replicate n false)
listed_none n v = sym (flag_off (replicate n false) v (unset n v))

-- a list, and one of its places
pub around : (xs : List ℕ) (q : ℕ) → q < length xs → xs ≡ take q xs ++ get_or xs q 0 ∷ drop (suc q) xs
around xs q h = sym (take-append-drop q xs) ∙ ap (λ ys. take q xs ++ ys) (drop-cons xs q 0 h)

-- one less, from a place
pub listed_remove : (xs : List ℕ) (m : List Bool) (q : ℕ) → q < length xs → Listed xs m → Listed (remove xs q) (set m (get_or xs q 0) false)
listed_remove xs m q h l =
    let on = listed_at xs m l q h in
    listed_take (take q xs) (drop (suc q) xs) m (get_or xs q 0) on (flag_below m (get_or xs q 0) on) (subst (λ (ys : List ℕ). Listed ys m) (around xs q h) l)

-- what bounds each place bounds each member
pub highest_of : (xs : List ℕ) (m : List Bool) (ls : List ℕ) (top : ℕ) → Listed xs m
    → ((k : ℕ) → k < length xs → get_or ls (get_or xs k 0) 0 ≤ top) → (u : ℕ) → get_or m u false ≡ true → get_or ls u 0 ≤ top
highest_of xs m ls top l h u on =
    let p = place_listed xs m l u on in
    omega (arith, h p.0 p.1, ap (λ x. get_or ls x 0) p.2)

-- and what bounds the first q of them bounds what stands there
pub first_of : (xs : List ℕ) (q : ℕ) (ls : List ℕ) (top : ℕ) → q ≤ length xs
    → ((k : ℕ) → k < q → get_or ls (get_or xs k 0) 0 < top) → (u : ℕ) → 0 < times u (take q xs) → get_or ls u 0 < top
first_of xs q ls top w h u some =
    let p = place_of u (take q xs) some in
    let small : p.0 < q = omega (arith, p.1, length-take-le q xs w) in
    omega (arith, h p.0 small, ap (λ x. get_or ls x 0) (sym (get_or-take q xs p.0 0 small) ∙ p.2))
