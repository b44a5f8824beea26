-- What steps reach from a set of junctions, found by search.
use Rattle.std.proofs.Common.{◌≡◌, ℕ, zero, suc, ◌+◌, ◌<◌, ◌≤◌, Bool, true, false, cond, not, eqb, ◌⊎◌, sym, refl, ap, ◌∙◌, subst, inl, inr, arith}
use Rattle.std.proofs.lemmas.Bool.{both_ways, cases_eq, cases_lt, cond-true, cond-false, eq-eqb, ne_eqb}
use Rattle.plant.specs.Plants.{Junctions, Subset, Reaches, here, on}
use Rattle.cuts.proofs.Sums.{over}

abbrev pub Decided : Type 0 → Type 0
Decided A = A ⊎ (A → ⊥)

pub any_below : (Q : ℕ → Type 0) → ((k : ℕ) → Decided (Q k)) → (n : ℕ) → ((k : ℕ) × (k < n) × Q k) ⊎ ((k : ℕ) → k < n → Q k → ⊥)
any_below Q d zero = inr (λ k j q. omega arith)
any_below Q d (suc n) = elim (d n) [
  | inl q ↦ inl (n, omega arith, q)
  | inr m ↦ elim (any_below Q d n) [
    | inl p ↦ inl (p.0, omega (arith, p.1), p.2)
    | inr r ↦ inr (λ k j q. elim (cases_eq k n) [ inl e ↦ m (subst Q e q) | inr u ↦ r k (omega arith) q ])
  ]
]

pub both : {A B : Type 0} → Decided A → Decided B → Decided (A × B)
both (inl a) (inl b) = inl (a, b)
both (inl a) (inr b) = inr (λ p. b p.1)
both (inr a) (inl b) = inr (λ p. a p.0)
both (inr a) (inr b) = inr (λ p. a p.0)

pub either : {A B : Type 0} → Decided A → Decided B → Decided (A ⊎ B)
either (inl a) b = inl (inl a)
either (inr a) (inl b) = inl (inr b)
either (inr a) (inr b) = inr (λ p. elim p [ inl x ↦ a x | inr y ↦ b y ])

pub less_or : (a b : ℕ) → Decided (a < b)
less_or a b = elim (cases_lt a b) [ inl h ↦ inl h | inr h ↦ inr (λ l. omega arith) ]

pub is_or : (a b : Bool) → Decided (a ≡ b)
is_or true true = inl refl
is_or true false = inr (λ e. both_ways true e refl)
is_or false true = inr (λ e. both_ways false refl e)
is_or false false = inl refl

pub in_or : (b : Bool) → (b ≡ false → ⊥) → b ≡ true
in_or true h = refl
in_or false h = absurd (h refl)

pub out_of : (b : Bool) → (b ≡ true → ⊥) → b ≡ false
out_of true h = absurd (h refl)
out_of false h = refl

-- how many junctions below n are not in N
abbrev left : Junctions → ℕ → ℕ
left N n = over (λ v. not (N v)) (λ v. 1) n

abbrev with_in : Junctions → ℕ → Junctions
with_in N w v = cond (eqb v w) true (N v)

left_beyond : (N : Junctions) (w n : ℕ) → n ≤ w → left (with_in N w) n ≡ left N n
left_beyond N w zero h = refl
left_beyond N w (suc n) h = rw (cond-false (eqb n w) true (N n) (ne_eqb n w (λ e. omega arith)), left_beyond N w n (omega arith)) refl

left_less : (N : Junctions) (w n : ℕ) → N w ≡ false → w < n → left (with_in N w) n + 1 ≡ left N n
left_less N w zero e h = absurd (omega arith)
left_less N w (suc n) e h = elim (cases_eq n w) [
  | inl q ↦ rw (cond-true (eqb n w) true (N n) (eq-eqb n w q), left_beyond N w n (omega arith), ap N q ∙ e) (omega arith)
  | inr q ↦ rw (cond-false (eqb n w) true (N n) (ne_eqb n w q)) (omega (arith, left_less N w n e (omega arith)))
]

keeps : (b c : Bool) → c ≡ true → cond b true c ≡ true
keeps true c e = refl
keeps false c e = e

-- w is reached from a member of A
abbrev pub From : (ℕ → ℕ → Type 0) → Junctions → ℕ → Type 0
From E A w = (v : ℕ) × (A v ≡ true) × Reaches E v w

-- part of what is reached from A, all below n
pub record Part (E : ℕ → ℕ → Type 0) (A : Junctions) (n : ℕ) (M : Junctions) : Type 0 where
  pub below : (v : ℕ) → M v ≡ true → v < n
  pub holds : Subset A M
  pub reached : (v : ℕ) → M v ≡ true → From E A v

-- all that is reached from A
pub record Whole (E : ℕ → ℕ → Type 0) (A : Junctions) (n : ℕ) (M : Junctions) : Type 0 where
  pub part : Part E A n M
  pub closed : (v w : ℕ) → M v ≡ true → E v w → M w ≡ true

module _ (E : ℕ → ℕ → Type 0) (dec : (v w : ℕ) → Decided (E v w)) (n : ℕ) (ends : (v w : ℕ) → E v w → w < n) (A : Junctions) where
  abbrev Leaving : Junctions → ℕ → ℕ → Type 0
  Leaving N v w = (N v ≡ true) × ((N w ≡ false) × E v w)

  leaving_or : (N : Junctions) (v w : ℕ) → Decided (Leaving N v w)
  leaving_or N v w = both (is_or (N v) true) (both (is_or (N w) false) (dec v w))

  grow : (m : ℕ) (N : Junctions) → left N n ≤ m → Part E A n N → (M : Junctions) × Whole E A n M
  grow zero N l p = (N, record { part = p; closed = λ v w a e. in_or (N w) (λ u. omega (arith, left_less N w n u (ends v w e))) })
  grow (suc m) N l p = elim (any_below (λ v. (w : ℕ) × (w < n) × Leaving N v w) (λ v. elim (any_below (Leaving N v) (leaving_or N v) n) [ inl q ↦ inl q | inr q ↦ inr (λ r. q r.0 r.1 r.2) ]) n) [
    | inl q ↦
        let w = q.2.0 in
        let s = q.2.2 in
        grow m (with_in N w) (omega (arith, left_less N w n s.1.0 q.2.1)) (record {
          below = λ v t. elim (cases_eq v w) [ inl e ↦ omega (arith, q.2.1) | inr e ↦ p.below v (sym (cond-false (eqb v w) true (N v) (ne_eqb v w e)) ∙ t) ];
          holds = λ v t. keeps (eqb v w) (N v) (p.holds v t);
          reached = λ v t. elim (cases_eq v w) [
            | inl e ↦ let r = p.reached q.0 s.0 in subst (From E A) (sym e) (r.0, r.1, on r.2 s.1.1)
            | inr e ↦ p.reached v (sym (cond-false (eqb v w) true (N v) (ne_eqb v w e)) ∙ t)
          ];
        })
    | inr never ↦ (N, record { part = p; closed = λ v w a e. in_or (N w) (λ u. never v (p.below v a) (w, ends v w e, (a, (u, e)))) })
  ]

  pub reach : ((v : ℕ) → A v ≡ true → v < n) → (M : Junctions) × Whole E A n M
  reach inside = grow (left A n) A (omega arith) (record { below = inside; holds = λ v t. t; reached = λ v t. (v, t, here) })

-- a closed set holds all that is reached from its members
pub stays : (E : ℕ → ℕ → Type 0) (M : Junctions) → ((v w : ℕ) → M v ≡ true → E v w → M w ≡ true) → (v : ℕ) {w : ℕ} → M v ≡ true → Reaches E v w → M w ≡ true
stays E M closed v t here = t
stays E M closed v {w} t (on {u} r e) = closed u w (stays E M closed v t r) e
