-- What is tested of the finitely many sets below n holds of every set below n.
use Rattle.std.proofs.Common.{◌≡◌, ℕ, zero, suc, ◌<◌, Bool, true, false, not, ◌&&◌, ◌||◌, eqb, ltb, List, [], ◌∷◌, sym, refl, ap, ◌∙◌, subst, inl, inr, arith}
use mathlib.Core.Path.{fun_ext}
use Rattle.std.proofs.lemmas.Bool.{and_parts, both_ways, cases_Bool, cases_eq, eqb-true, ltb-true, not-true, or_cases, eqb-false}
use Rattle.std.specs.List.{AllByRecursion}
use Rattle.plant.specs.Plants.{Junctions, Subset}
use Rattle.cuts.proofs.Search.{out_of}
use Rattle.worked.specs.Checks.{all_below, each, each_below, each_set, implies, joining, nothing, some_set, subset}
use Rattle.worked.specs.Rows.{set_of}

-- a set of junctions below n
abbrev pub Below : ℕ → Junctions → Type 0
Below n S = (v : ℕ) → S v ≡ true → v < n

pub implied : (a b : Bool) → implies a b ≡ true → a ≡ true → b ≡ true
implied true b e t = e
implied false b e t = absurd (both_ways false refl t)

-- S without u, and u put back
abbrev without : ℕ → Junctions → Junctions
without u S v = S v && not (eqb v u)

put_back : (u : ℕ) (S : Junctions) → S u ≡ true → (v : ℕ) → joining u (without u S) v ≡ S v
put_back u S t v = go (eqb v u) refl (S v) refl
  where
    go : (b : Bool) → eqb v u ≡ b → (c : Bool) → S v ≡ c → (b || (c && not b)) ≡ c
    go true e true d = refl
    go true e false d = absurd (both_ways (S v) d (ap S (eqb-true v u e) ∙ t))
    go false e true d = refl
    go false e false d = refl

-- a set below suc n that does not hold n is below n
lower : (n : ℕ) (S : Junctions) → Below (suc n) S → S n ≡ false → Below n S
lower n S i u v t = elim (cases_eq v n) [ inl e ↦ absurd (both_ways (S n) u (ap S (sym e) ∙ t)) | inr d ↦ omega (arith, i v t) ]

lower_without : (n : ℕ) (S : Junctions) → Below (suc n) S → Below n (without n S)
lower_without n S i v t =
    let p = and_parts (S v) (not (eqb v n)) t in
    let d = eqb-false v n (not-true (eqb v n) p.1) in
    omega (arith, i v p.0)

pub each_set_all : (n : ℕ) (q : Junctions → Bool) → each_set n q ≡ true → (S : Junctions) → Below n S → q S ≡ true
each_set_all zero q e S i = subst (λ (R : Junctions). q R ≡ true) (fun_ext (λ v. sym (out_of (S v) (λ t. omega (arith, i v t))))) e
each_set_all (suc n) q e S i =
    let p = and_parts (each_set n q) (each_set n (λ R. q (joining n R))) e in
    elim (cases_Bool (S n)) [
      | inl t ↦ subst (λ (R : Junctions). q R ≡ true) (fun_ext (put_back n S t)) (each_set_all n (λ R. q (joining n R)) p.1 (without n S) (lower_without n S i))
      | inr u ↦ each_set_all n q p.0 S (lower n S i u)
    ]

pub some_set_found : (n : ℕ) (q : Junctions → Bool) → some_set n q ≡ true → (S : Junctions) × Below n S × (q S ≡ true)
some_set_found zero q e = (nothing, λ v t. absurd (both_ways false refl t), e)
some_set_found (suc n) q e = elim (or_cases (some_set n q) (some_set n (λ R. q (joining n R))) e) [
  | inl a ↦ let s = some_set_found n q a in (s.0, λ v t. omega (arith, s.1 v t), s.2)
  | inr b ↦ let s = some_set_found n (λ R. q (joining n R)) b in (
    joining n s.0,
    λ v t. elim (or_cases (eqb v n) (s.0 v) t) [ inl d ↦ omega (arith, eqb-true v n d) | inr d ↦ omega (arith, s.1 v d) ],
    s.2,
  )
]

pub each_below_all : (n : ℕ) (q : ℕ → Bool) → each_below n q ≡ true → (v : ℕ) → v < n → q v ≡ true
each_below_all zero q e v i = absurd (omega arith)
each_below_all (suc n) q e v i =
    let p = and_parts (each_below n q) (q n) e in
    elim (cases_eq v n) [ inl d ↦ subst (λ (w : ℕ). q w ≡ true) (sym d) p.1 | inr d ↦ each_below_all n q p.0 v (omega arith) ]

pub subset_all : (n : ℕ) (S R : Junctions) → Below n S → subset n S R ≡ true → Subset S R
subset_all n S R i e v t = implied (S v) (R v) (each_below_all n (λ w. implies (S w) (R w)) e v (i v t)) t

pub set_below : (n : ℕ) (vs : List ℕ) → all_below n vs ≡ true → Below n (set_of vs)
set_below n [] e v t = absurd (both_ways false refl t)
set_below n (u ∷ us) e v t =
    let p = and_parts (ltb u n) (all_below n us) e in
    elim (or_cases (eqb v u) (set_of us v) t) [ inl d ↦ omega (arith, eqb-true v u d, ltb-true u n p.0) | inr d ↦ set_below n us p.1 v d ]

-- a test of each element that tells Q
pub each_tells : {X : Type 0} (q : X → Bool) (Q : X → Type 0) → ((x : X) → q x ≡ true → Q x) → (xs : List X) → each q xs ≡ true → AllByRecursion Q xs
each_tells q Q tells [] e = tt
each_tells q Q tells (x ∷ xs) e = let p = and_parts (q x) (each q xs) e in (tells x p.0, each_tells q Q tells xs p.1)
