-- Chains of puts and of discharges that grow at their end.
use Rattle.std.proofs.Common.{◌≡◌, ℕ, ◌+◌, cond, List, [], ◌∷◌, ◌++◌, Some, Option, refl, ap, arith}
use Rattle.stage.specs.Model.{State, unspent, discharged, discharge_puts}
use Rattle.stage.specs.Runs.{ran, relabels, PutAll, Discharges}

module _ {C : Type 0} (puts : C → ℕ → ℕ → C → Type 0) where
  pub puts_then : (xs ys : List (ℕ × ℕ)) (c c₁ c₂ : C) → PutAll puts c xs c₁ → PutAll puts c₁ ys c₂ → PutAll puts c (xs ++ ys) c₂
  puts_then [] ys c c₁ c₂ p q = rw p at q
  puts_then (x ∷ xs) ys c c₁ c₂ p q = (p.0, p.1, puts_then xs ys p.0 c₁ c₂ p.2 q)

  pub puts_split : (xs ys : List (ℕ × ℕ)) (c c₂ : C) → PutAll puts c (xs ++ ys) c₂ → (c₁ : C) × PutAll puts c xs c₁ × PutAll puts c₁ ys c₂
  puts_split [] ys c c₂ p = (c, refl, p)
  puts_split (x ∷ xs) ys c c₂ p =
      let r = puts_split xs ys p.0 c₂ p.2 in
      (r.0, (p.0, p.1, r.1), r.2)

module _ {C : Type 0} (puts : C → ℕ → ℕ → C → Type 0) (takes : C → Option ℕ → C → Type 0) where
  -- the states of a chain do not depend on the chooser
  pub discharges_ran : (n s t : ℕ) (vs : List ℕ) (st st' : State) (c c' : C) → Discharges puts takes n s t vs st c st' c' → st' ≡ ran n vs st
  discharges_ran n s t [] st st' c c' d = d.0
  discharges_ran n s t (v ∷ vs) st st' c c' d = discharges_ran n s t vs (discharged n v st) st' d.1 c' d.4

  -- one discharge more
  pub discharges_more : (n s t : ℕ) (vs : List ℕ) (st st₁ : State) (c c₁ c₂ c₃ : C) (v : ℕ) → Discharges puts takes n s t vs st c st₁ c₁ → takes c₁ (Some v) c₂ →
      PutAll puts c₂ (discharge_puts n s t v st₁.arcs st₁.rows) c₃ → Discharges puts takes n s t (vs ++ v ∷ []) st c (discharged n v st₁) c₃
  discharges_more n s t [] st st₁ c c₁ c₂ c₃ v d k p = (c₂, c₃, rw d.1 at k, rw d.0 at p, (ap (discharged n v) d.0, refl))
  discharges_more n s t (u ∷ vs) st st₁ c c₁ c₂ c₃ v d k p =
      (d.0, d.1, d.2, d.3, discharges_more n s t vs (discharged n u st) st₁ d.1 c₁ c₂ c₃ v d.4 k p)

pub relabels_more : (n : ℕ) (vs : List ℕ) (v : ℕ) (st st₁ : State) → st₁ ≡ ran n vs st →
    relabels n (vs ++ v ∷ []) st ≡ relabels n vs st + cond (unspent v st₁.arcs st₁.rows) 1 0
relabels_more n [] v st st₁ e = rw e (omega arith)
relabels_more n (u ∷ vs) v st st₁ e = omega (arith, relabels_more n vs v (discharged n u st) st₁ e)
