-- Among more levels than labels one is free.
use Rattle.std.proofs.Common.{◌≡◌, ℕ, zero, suc, ◌+◌, ◌<◌, ◌≤◌, ◌⊎◌, List, [], ◌∷◌, length, inl, inr, ⊎_elim, arith}
use Rattle.std.specs.List.{AllByRecursion}
use Rattle.std.proofs.lemmas.Bool.{cases_eq}

abbrev Free : ℕ → List ℕ → Type 0
Free g xs = AllByRecursion (λ x. x ≡ g → ⊥) xs

-- either no label is a, or those other than a are fewer; and what is free of the others and above a is free of all
record Split (a : ℕ) (xs : List ℕ) : Type 0 where
  rest : List ℕ
  shorter : length rest ≤ length xs
  fewer : Free a xs ⊎ (length rest < length xs)
  back : (g : ℕ) → a < g → Free g rest → Free g xs

split : (a : ℕ) (xs : List ℕ) → Split a xs
split a [] = record { rest = []; shorter = omega arith; fewer = inl tt; back = λ g h f. tt }
split a (x ∷ xs) =
    let s = split a xs in
    ⊎_elim
    (λ (e : x ≡ a). record { rest = s.rest; shorter = omega (arith, s.shorter); fewer = inr (omega (arith, s.shorter)); back = λ g h f. (omega arith, s.back g h f) })
    (λ (e : x ≡ a → ⊥). record {
      rest = x ∷ s.rest;
      shorter = omega (arith, s.shorter);
      fewer = ⊎_elim (λ (f : Free a xs). inl (e, f)) (λ (f : length s.rest < length xs). inr (omega arith)) s.fewer;
      back = λ g h f. (f.0, s.back g h f.1);
    })
    (cases_eq x a)

pub gap : (n a : ℕ) (xs : List ℕ) → length xs ≤ n → (g : ℕ) × (a ≤ g) × (g ≤ a + n) × Free g xs
gap zero a [] h = (a, omega arith, omega arith, tt)
gap zero a (x ∷ xs) h = absurd (omega arith)
gap (suc n) a xs h =
    let s = split a xs in
    ⊎_elim
    (λ (f : Free a xs). (a, omega arith, omega arith, f))
    (λ (f : length s.rest < length xs).
    let r = gap n (suc a) s.rest (omega arith) in
    (r.0, omega (arith, r.1), omega (arith, r.2), s.back r.0 (omega (arith, r.1)) r.3))
    s.fewer
