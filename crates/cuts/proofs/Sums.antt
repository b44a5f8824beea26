-- Sums over lines and over junctions.
use Rattle.std.proofs.Common.{◌≡◌, ℕ, zero, suc, ◌+◌, ◌<◌, ◌≤◌, Bool, true, false, cond, not, ◌&&◌, eqb, ◌≢◌, List, [], ◌∷◌, length, get_or, sym, refl, ap, ◌∙◌, inl, inr, arith}
use Rattle.std.proofs.lemmas.Bool.{cases_Bool, cases_eq, eq-eqb, ne_eqb, cond-true, cond-false}
use Rattle.plant.specs.declared.line.Line.{Line}
use Rattle.plant.specs.Plants.{Flow, Junctions, no_line, carried, summed, every}

-- the sum of g over the junctions of S below n
abbrev pub over : Junctions → (ℕ → ℕ) → ℕ → ℕ
over S g zero = 0
over S g (suc v) = cond (S v) (g v) 0 + over S g v

-- one line's part in the two ways of counting
shares : (p q : Bool) (x : ℕ) → cond p x 0 + cond (q && not p) x 0 ≡ cond q x 0 + cond (p && not q) x 0
shares true true x = omega arith
shares true false x = omega arith
shares false true x = omega arith
shares false false x = omega arith

pub crossed : (p q : Line → Bool) (ls : List Line) (f : Flow) → carried p ls f + carried (λ l. q l && not (p l)) ls f ≡ carried q ls f + carried (λ l. p l && not (q l)) ls f
crossed p q [] f = refl
crossed p q (l ∷ ls) [] = refl
crossed p q (l ∷ ls) (x ∷ f) = omega (arith, shares (p l) (q l) x, crossed p q ls f)

pub cond_zero : (b : Bool) → cond b 0 0 ≡ zero
cond_zero true = refl
cond_zero false = refl

cond_add : (b : Bool) (x y : ℕ) → cond b (x + y) 0 ≡ cond b x 0 + cond b y 0
cond_add true x y = refl
cond_add false x y = refl

pub over_zero : (S : Junctions) (n : ℕ) → over S (λ v. 0) n ≡ 0
over_zero S zero = refl
over_zero S (suc n) = omega (arith, cond_zero (S n), over_zero S n)

pub over_add : (S : Junctions) (g h : ℕ → ℕ) (n : ℕ) → over S (λ v. g v + h v) n ≡ over S g n + over S h n
over_add S g h zero = refl
over_add S g h (suc n) = omega (arith, cond_add (S n) (g n) (h n), over_add S g h n)

-- a sum that has x at e alone
over_none : (S : Junctions) (e x n : ℕ) → n ≤ e → over S (λ v. cond (eqb e v) x 0) n ≡ 0
over_none S e x zero h = refl
over_none S e x (suc n) h =
    let other : cond (eqb e n) x 0 ≡ 0 = cond-false (eqb e n) x 0 (ne_eqb e n (λ q. omega arith)) in
    rw other (omega (arith, cond_zero (S n), over_none S e x n (omega arith)))

over_one : (S : Junctions) (e x n : ℕ) → e < n → over S (λ v. cond (eqb e v) x 0) n ≡ cond (S e) x 0
over_one S e x zero h = absurd (omega arith)
over_one S e x (suc n) h = elim (cases_eq e n) [
  | inl q ↦
      let this : cond (eqb e n) x 0 ≡ x = cond-true (eqb e n) x 0 (eq-eqb e n q) in
      rw (this, over_none S e x n (omega arith), q) (omega arith)
  | inr q ↦
      let other : cond (eqb e n) x 0 ≡ 0 = cond-false (eqb e n) x 0 (ne_eqb e n q) in
      rw other (omega (arith, cond_zero (S n), over_one S e x n (omega arith)))
]

-- counted by junctions or by lines
pub over_carried : (a : Line → ℕ) (S : Junctions) (n : ℕ) (ls : List Line) (f : Flow) → ((k : ℕ) → k < length ls → a (get_or ls k no_line) < n) → over S (λ v. carried (λ l. eqb (a l) v) ls f) n ≡ carried (λ l. S (a l)) ls f
over_carried a S n [] f h = over_zero S n
over_carried a S n (l ∷ ls) [] h = over_zero S n
over_carried a S n (l ∷ ls) (x ∷ f) h =
    let rest = over_carried a S n ls f (λ k j. h (suc k) (omega arith)) in
    omega (arith, over_add S (λ v. cond (eqb (a l) v) x 0) (λ v. carried (λ m. eqb (a m) v) ls f) n, over_one S (a l) x n (h 0 (omega arith)), rest)

-- the junctions of S where g and h agree count for nothing; s is the one where they may not
pub over_same : (S : Junctions) (g h : ℕ → ℕ) (n : ℕ) → ((v : ℕ) → v < n → S v ≡ true → g v ≡ h v) → over S g n ≡ over S h n
over_same S g h zero e = refl
over_same S g h (suc n) e = go (S n) refl (over_same S g h n (λ v j. e v (omega arith)))
  where
    go : (b : Bool) → S n ≡ b → over S g n ≡ over S h n → cond b (g n) 0 + over S g n ≡ cond b (h n) 0 + over S h n
    go true t r = omega (arith, e n (omega arith) t)
    go false t r = omega arith

pub over_but : (S : Junctions) (g h : ℕ → ℕ) (s n : ℕ) → S s ≡ true → s < n → ((v : ℕ) → v < n → v ≢ s → S v ≡ true → g v ≡ h v) → over S g n + h s ≡ over S h n + g s
over_but S g h s zero t l e = absurd (omega arith)
over_but S g h s (suc n) t l e = elim (cases_eq n s) [
  | inl q ↦
      let here : S n ≡ true = ap S q ∙ t in
      omega (arith, cond-true (S n) (g n) 0 here, cond-true (S n) (h n) 0 here, ap g q, ap h q, over_same S g h n (λ v j. e v (omega arith) (omega arith)))
  | inr q ↦ go (S n) refl q (over_but S g h s n t (omega arith) (λ v j. e v (omega arith)))
]
  where
    go : (b : Bool) → S n ≡ b → n ≢ s → over S g n + h s ≡ over S h n + g s → cond b (g n) 0 + over S g n + h s ≡ cond b (h n) 0 + over S h n + g s
    go true u q r = omega (arith, e n (omega arith) q u)
    go false u q r = omega arith

-- ---- a sum over S against the sum over all
abbrev pub all : Junctions
all v = true

part_le : (b : Bool) (x : ℕ) → cond b x 0 ≤ x
part_le true x = omega arith
part_le false x = omega arith

pub over_le : (S : Junctions) (g : ℕ → ℕ) (n : ℕ) → over S g n ≤ over all g n
over_le S g zero = omega arith
over_le S g (suc n) = omega (arith, part_le (S n) (g n), over_le S g n)

-- all that counts is in S
pub over_holds : (S : Junctions) (g : ℕ → ℕ) (n : ℕ) → over S g n ≡ over all g n → (v : ℕ) → v < n → 0 < g v → S v ≡ true
over_holds S g zero e v j h = absurd (omega arith)
over_holds S g (suc n) e v j h =
    let here = part_le (S n) (g n) in
    let rest = over_le S g n in
    elim (cases_eq v n) [
      | inl q ↦ elim (cases_Bool (S v)) [
        | inl t ↦ t
        | inr f ↦ absurd (omega (arith, cond-false (S n) (g n) 0 (ap S (sym q) ∙ f), ap g q))
      ]
      | inr q ↦ over_holds S g n (omega arith) v (omega arith) h
    ]

pub over_whole : (S : Junctions) (g : ℕ → ℕ) (n : ℕ) → ((v : ℕ) → v < n → S v ≡ false → g v ≡ 0) → over S g n ≡ over all g n
over_whole S g zero h = refl
over_whole S g (suc n) h = go (S n) refl (over_whole S g n (λ v j. h v (omega arith)))
  where
    go : (b : Bool) → S n ≡ b → over S g n ≡ over all g n → cond b (g n) 0 + over S g n ≡ g n + over all g n
    go true t r = omega arith
    go false t r = omega (arith, h n (omega arith) t)

pub over_nothing : (g : ℕ → ℕ) (n : ℕ) → over all g n ≡ 0 → (v : ℕ) → v < n → g v ≡ 0
over_nothing g zero e v j = absurd (omega arith)
over_nothing g (suc n) e v j = elim (cases_eq v n) [
  | inl q ↦ omega (arith, ap g q)
  | inr q ↦ over_nothing g n (omega arith) v (omega arith)
]

-- ---- against a limit g
below_limit : (b : Bool) (x y : ℕ) → x ≤ y → cond b x 0 ≤ cond b y 0
below_limit true x y h = h
below_limit false x y h = omega arith

pub carried_le : (p : Line → Bool) (g : Line → ℕ) (ls : List Line) (f : Flow) → ((k : ℕ) → k < length ls → get_or f k 0 ≤ g (get_or ls k no_line)) → carried p ls f ≤ summed p g ls
carried_le p g [] f h = omega arith
carried_le p g (l ∷ ls) [] h = omega arith
carried_le p g (l ∷ ls) (x ∷ f) h =
    omega (arith, below_limit (p l) x (g l) (h 0 (omega arith)), carried_le p g ls f (λ k j. h (suc k) (omega arith)))

pub carried_ge : (p : Line → Bool) (g : Line → ℕ) (ls : List Line) (f : Flow) → length f ≡ length ls → ((k : ℕ) → k < length ls → g (get_or ls k no_line) ≤ get_or f k 0) → summed p g ls ≤ carried p ls f
carried_ge p g [] f e h = omega arith
carried_ge p g (l ∷ ls) [] e h = absurd (omega arith)
carried_ge p g (l ∷ ls) (x ∷ f) e h =
    omega (arith, below_limit (p l) (g l) x (h 0 (omega arith)), carried_ge p g ls f (omega arith) (λ k j. h (suc k) (omega arith)))

-- each picked line stands at its limit
pub carried_full : (p : Line → Bool) (g : Line → ℕ) (ls : List Line) (f : Flow) → length f ≡ length ls → ((k : ℕ) → k < length ls → p (get_or ls k no_line) ≡ true → get_or f k 0 ≡ g (get_or ls k no_line)) → carried p ls f ≡ summed p g ls
carried_full p g [] f e h = refl
carried_full p g (l ∷ ls) [] e h = absurd (omega arith)
carried_full p g (l ∷ ls) (x ∷ f) e h = go (p l) refl (carried_full p g ls f (omega arith) (λ k j. h (suc k) (omega arith)))
  where
    go : (b : Bool) → p l ≡ b → carried p ls f ≡ summed p g ls → cond b x 0 + carried p ls f ≡ cond b (g l) 0 + summed p g ls
    go true t r = omega (arith, h 0 (omega arith) t)
    go false t r = omega arith

pub le_full : (p : Line → Bool) (g : Line → ℕ) (ls : List Line) (f : Flow) → length f ≡ length ls → ((k : ℕ) → k < length ls → get_or f k 0 ≤ g (get_or ls k no_line)) → carried p ls f ≡ summed p g ls → (k : ℕ) → k < length ls → p (get_or ls k no_line) ≡ true → get_or f k 0 ≡ g (get_or ls k no_line)
le_full p g [] f q h e k j t = absurd (omega arith)
le_full p g (l ∷ ls) [] q h e k j t = absurd (omega arith)
le_full p g (l ∷ ls) (x ∷ f) q h e zero j t =
    omega (arith, cond-true (p l) x 0 t, cond-true (p l) (g l) 0 t, h 0 j, carried_le p g ls f (λ k j. h (suc k) (omega arith)))
le_full p g (l ∷ ls) (x ∷ f) q h e (suc k) j t =
    le_full p g ls f (omega arith) (λ k j. h (suc k) (omega arith)) (omega (arith, below_limit (p l) x (g l) (h 0 (omega arith)), carried_le p g ls f (λ k j. h (suc k) (omega arith)))) k (omega arith) t

pub ge_full : (p : Line → Bool) (g : Line → ℕ) (ls : List Line) (f : Flow) → length f ≡ length ls → ((k : ℕ) → k < length ls → g (get_or ls k no_line) ≤ get_or f k 0) → carried p ls f ≡ summed p g ls → (k : ℕ) → k < length ls → p (get_or ls k no_line) ≡ true → get_or f k 0 ≡ g (get_or ls k no_line)
ge_full p g [] f q h e k j t = absurd (omega arith)
ge_full p g (l ∷ ls) [] q h e k j t = absurd (omega arith)
ge_full p g (l ∷ ls) (x ∷ f) q h e zero j t =
    omega (arith, cond-true (p l) x 0 t, cond-true (p l) (g l) 0 t, h 0 j, carried_ge p g ls f (omega arith) (λ k j. h (suc k) (omega arith)))
ge_full p g (l ∷ ls) (x ∷ f) q h e (suc k) j t =
    ge_full p g ls f (omega arith) (λ k j. h (suc k) (omega arith)) (omega (arith, below_limit (p l) (g l) x (h 0 (omega arith)), carried_ge p g ls f (omega arith) (λ k j. h (suc k) (omega arith)))) k (omega arith) t

-- ---- by the lines picked
pub carried_same : (p q : Line → Bool) (ls : List Line) (f : Flow) → ((l : Line) → p l ≡ q l) → carried p ls f ≡ carried q ls f
carried_same p q [] f h = refl
carried_same p q (l ∷ ls) [] h = refl
carried_same p q (l ∷ ls) (x ∷ f) h = rw (h l, carried_same p q ls f h) refl

pub carried_none : (p : Line → Bool) (ls : List Line) (f : Flow) → ((k : ℕ) → k < length ls → p (get_or ls k no_line) ≡ false) → carried p ls f ≡ 0
carried_none p [] f h = refl
carried_none p (l ∷ ls) [] h = refl
carried_none p (l ∷ ls) (x ∷ f) h = omega (arith, cond-false (p l) x 0 (h 0 (omega arith)), carried_none p ls f (λ k j. h (suc k) (omega arith)))

pub summed_every : (p : Line → Bool) (g : Line → ℕ) (ls : List Line) → summed p g ls ≤ summed every g ls
summed_every p g [] = omega arith
summed_every p g (l ∷ ls) = omega (arith, part_le (p l) (g l), summed_every p g ls)

pub summed_le : (g h : Line → ℕ) (ls : List Line) → ((k : ℕ) → k < length ls → g (get_or ls k no_line) ≤ h (get_or ls k no_line)) → summed every g ls ≤ summed every h ls
summed_le g h [] le = omega arith
summed_le g h (l ∷ ls) le = omega (arith, le 0 (omega arith), summed_le g h ls (λ k j. le (suc k) (omega arith)))
