-- Marks that are selected below n, as a test of each number.
use Rattle.std.proofs.Common.{◌≡◌, ℕ, ◌<◌, ◌≤◌, Bool, false, ◌&&◌, ltb, sym, ap, ◌∙◌, inl, inr}
use Rattle.std.proofs.lemmas.Bool.{and_left, cases_lt, le-ltb, lt-ltb}

-- below n it is b, and from n on false
pub selected : (n v : ℕ) (a b : Bool) → (v < n → a ≡ b) → (n ≤ v → a ≡ false) → a ≡ (ltb v n && b)
selected n v a b below beyond =
    elim (cases_lt v n) [
      | inl h ↦ below h ∙ ap (λ (t : Bool). t && b) (sym (lt-ltb v n h))
      | inr h ↦ beyond h ∙ sym (and_left (ltb v n) b (le-ltb v n h))
    ]
