-- A table of marks, and tests that hold of some element.
use Rattle.std.proofs.Common.{◌≡◌, ℕ, zero, suc, ◌<◌, ◌≤◌, Bool, true, false, ◌||◌, List, [], ◌∷◌, map, length, get_or, drop, replicate, sym, refl, ap, ◌∙◌, ⊎_elim, arith}
use lib.ListN.{length-replicate}
use Rattle.reach.specs.Drawn.{any, tabled}
use Rattle.std.proofs.lemmas.List.{at_drop_all, get_or_past, get_or-replicate}
use Rattle.std.proofs.lemmas.Bool.{cases_lt, or_cases, or_left, or_right}

-- a table of no marks
pub tabled_none : (n m v w : ℕ) → tabled (replicate n (replicate m false)) v w ≡ false
tabled_none n m v w =
    ⊎_elim (λ h. ap (λ (row : List Bool). get_or row w false) (get_or-replicate n v (replicate m false) [] h) ∙ row m w)
    (λ h. ap (λ (row : List Bool). get_or row w false) (get_or_past (replicate n (replicate m false)) v [] (omega (arith, length-replicate n (replicate m false)))))
    (cases_lt v n)
  where
    row : (m w : ℕ) → get_or (replicate m false) w false ≡ false
    row m w = ⊎_elim (λ h. get_or-replicate m w false false h) (λ h. get_or_past (replicate m false) w false (omega (arith, length-replicate m false))) (cases_lt w m)

pub or_none : (a : Bool) → (a || false) ≡ a
or_none true = refl
or_none false = refl

-- a loop that has made `b` of a test of each element, and is past the last
pub any_all : {X : Type 0} (f : X → Bool) (xs : List X) (i : ℕ) (b t : Bool) → length xs ≤ i → (b || any f (drop i xs)) ≡ t → b ≡ t
any_all f xs i b t l e = sym (or_none b) ∙ ap (λ (c : Bool). b || c) (sym (at_drop_all (any f) xs i l)) ∙ e

-- a test that holds of some element holds at some place, and back
pub any_at : {X : Type 0} (f : X → Bool) (xs : List X) (d : X) → any f xs ≡ true → (k : ℕ) × (k < length xs) × (f (get_or xs k d) ≡ true)
any_at f [] d e = absurd (let z : ◌≡◌ {A = ℕ} 0 1 = cc in omega arith)
any_at f (x ∷ xs) d e =
    ⊎_elim (λ h. (0, omega arith, h)) (λ h. let r = any_at f xs d h in (suc r.0, omega (arith, r.1), r.2)) (or_cases (f x) (any f xs) e)

pub any_from : {X : Type 0} (f : X → Bool) (xs : List X) (d : X) (k : ℕ) → k < length xs → f (get_or xs k d) ≡ true → any f xs ≡ true
any_from f [] d k l e = absurd (omega arith)
any_from f (x ∷ xs) d zero l e = or_left (f x) (any f xs) e
any_from f (x ∷ xs) d (suc k) l e = or_right (f x) (any f xs) (any_from f xs d k (omega arith) e)

pub any_map : {X Y : Type 0} (f : Y → Bool) (g : X → Y) (xs : List X) → any f (map g xs) ≡ any (λ x. f (g x)) xs
any_map f g [] = refl
any_map f g (x ∷ xs) = ap (λ (b : Bool). f (g x) || b) (any_map f g xs)
