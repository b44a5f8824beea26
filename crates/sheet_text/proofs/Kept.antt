-- One element more at the end of a list whose elements keep a rule.
use Rattle.std.proofs.Common.{◌≡◌, ℕ, ◌<◌, List, [], ◌∷◌, ◌++◌, length, get_or, sym, refl, subst, ⊎_elim, arith, length-append}
use Rattle.std.proofs.lemmas.Bool.{cases_eq}
use Rattle.std.proofs.lemmas.List.{get_or_append_left, get_or_at}

pub each_more : {X : Type 0} (P : ℕ → X → Type 0) (xs : List X) (d x : X) → ((k : ℕ) → k < length xs → P k (get_or xs k d)) → P (length xs) x → (k : ℕ) → k < length (xs ++ x ∷ []) → P k (get_or (xs ++ x ∷ []) k d)
each_more P xs d x old new k l =
    let n = length-append xs (x ∷ []) in
    ⊎_elim (λ (e : k ≡ length xs). rw e (subst (P (length xs)) (sym (get_or_at xs x [] d (length xs) refl)) new))
    (λ (ne : k ≡ length xs → ⊥). let h : k < length xs = omega arith in subst (P k) (sym (get_or_append_left xs (x ∷ []) d k h)) (old k h))
    (cases_eq k (length xs))
