-- Paths of steps, and paths without a junction twice.
use Rattle.std.proofs.Common.{◌≡◌, ℕ, ◌⊎◌, List, [], ◌∷◌, refl, subst, inl, inr}
use Rattle.std.proofs.lemmas.Bool.{cases_eq}
use Rattle.plant.specs.Plants.{Reaches, here, on}

abbrev pub In : List ℕ → ℕ → Type 0
In [] x = ⊥
In (v ∷ vs) x = (v ≡ x) ⊎ In vs x

cases_in : (vs : List ℕ) (x : ℕ) → In vs x ⊎ (In vs x → ⊥)
cases_in [] x = inr (λ b. b)
cases_in (v ∷ vs) x = elim (cases_eq v x) [
  | inl e ↦ inl (inl e)
  | inr n ↦ elim (cases_in vs x) [ inl i ↦ inl (inr i) | inr m ↦ inr (λ i. elim i [ inl e ↦ n e | inr k ↦ m k ]) ]
]

pub data Simple (E : ℕ → ℕ → Type 0) (s : ℕ) : List ℕ → ℕ → Type 0 where
  start : Simple E s (s ∷ []) s
  next : {vs : List ℕ} {u w : ℕ} → Simple E s vs u → E u w → (In vs w → ⊥) → Simple E s (w ∷ vs) w

pub last_in : {E : ℕ → ℕ → Type 0} {s : ℕ} {vs : List ℕ} {w : ℕ} → Simple E s vs w → In vs w
last_in start = inl refl
last_in (next p e n) = inl refl

cut_at : (E : ℕ → ℕ → Type 0) (s : ℕ) {vs : List ℕ} {u : ℕ} → Simple E s vs u → (w : ℕ) → In vs w → (ws : List ℕ) × Simple E s ws w
cut_at E s start w i = elim i [ inl q ↦ (s ∷ [], subst (λ x. Simple E s (s ∷ []) x) q start) | inr b ↦ absurd b ]
cut_at E s (next {vs} {w = x} p e n) w i = elim i [ inl q ↦ (x ∷ vs, subst (λ y. Simple E s (x ∷ vs) y) q (next p e n)) | inr k ↦ cut_at E s p w k ]

pub simple : (E : ℕ → ℕ → Type 0) (s : ℕ) {w : ℕ} → Reaches E s w → (vs : List ℕ) × Simple E s vs w
simple E s here = (s ∷ [], start)
simple E s {w} (on {u} r e) = go (simple E s r)
  where
    go : (vs : List ℕ) × Simple E s vs u → (vs : List ℕ) × Simple E s vs w
    go p = elim (cases_in p.0 w) [ inl i ↦ cut_at E s p.1 w i | inr n ↦ (w ∷ p.0, next p.1 e n) ]

-- a step before a path
pub first : (E : ℕ → ℕ → Type 0) (u v : ℕ) {w : ℕ} → E u v → Reaches E v w → Reaches E u w
first E u v e here = on here e
first E u v e (on r d) = on (first E u v e r) d

-- the same path, against the steps
pub turned : (E : ℕ → ℕ → Type 0) (s : ℕ) {w : ℕ} → Reaches (λ v u. E u v) s w → Reaches E w s
turned E s here = here
turned E s {w} (on {u} r e) = first E w u e (turned E s r)

pub reaches_in : (D E : ℕ → ℕ → Type 0) → ((u w : ℕ) → D u w → E u w) → (v : ℕ) {w : ℕ} → Reaches D v w → Reaches E v w
reaches_in D E h v here = here
reaches_in D E h v {w} (on {u} r e) = on (reaches_in D E h v r) (h u w e)
