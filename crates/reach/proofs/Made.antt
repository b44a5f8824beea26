-- What `array::from_fn` makes, where no call changes the closure.
use Rattle.std.proofs.Common.{◌≡◌, ℕ, zero, suc, ◌+◌, ◌<◌, ◌≤◌, List, get_or, refl, sym, subst, inl, inr, arith}
use Rattle.std.proofs.lemmas.Bool.{cases_eq}
use Rattle.std.specs.Array.{IsFromFnResult, IsFromFnResultFrom}
use denote.Param.Members.{Mut, Called}

module _ {F B : Type 0} (g : Mut F (ℕ × Unit {0}) B) (P : ℕ → B → Type 0) (f : F)
    (one : (i : ℕ) (y : B) (q : F) → Called g f (i, tt) y q → P i y × (q ≡ f)) where
  made_from : (ys : List B) (p : F) (n i k : ℕ) (d : B) → p ≡ f → i ≤ k → k < i + n → IsFromFnResultFrom g p ys i n → P k (get_or ys k d)
  made_from ys p zero i k d e l h r = absurd (omega arith)
  made_from ys p (suc n) i k d e l h r =
      let c = one i r.1 r.0 (subst (λ (u : F). Called g u (i, tt) r.1 r.0) e r.3) in
      elim (cases_eq k i) [
        | inl q ↦ subst (λ (j : ℕ). P j (get_or ys j d)) (sym q) (subst (P i) (sym (r.2.1 d)) c.0)
        | inr ne ↦ made_from ys r.0 n (i + 1) k d c.1 (omega arith) (omega arith) r.4
      ]

  -- each element is what a call at its place gives
  pub made_each : (ys : List B) (n k : ℕ) (d : B) → k < n → IsFromFnResult g f ys n → P k (get_or ys k d)
  made_each ys n k d h r = made_from ys f n 0 k d refl (omega arith) (omega arith) r.each
