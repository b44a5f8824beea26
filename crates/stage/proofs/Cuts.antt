-- Sums over junctions, and what a set that no residual leaves says of the excess in it.
use Rattle.std.proofs.Common.{◌≡◌, ℕ, zero, suc, ◌+◌, ◌<◌, ◌≤◌, Bool, true, false, cond, eqb, List, [], ◌∷◌, sym, refl, ap, ◌∙◌, ⊎_elim, arith}
use Rattle.std.specs.List.{AllByRecursion}
use Rattle.std.proofs.ByRecursion.{All-weaker}
use Rattle.std.proofs.lemmas.Bool.{cases_eq, cases_lt, eq-eqb, ne_eqb, both_ways}
use Rattle.std.proofs.lemmas.Bool.Decides.{nat_tests}
use Rattle.plant.specs.Plants.{Junctions, carried, low_of, high_of}
use Rattle.plant.specs.Held.{Arc, lines_of, flows_of}
use Rattle.plant.specs.declared.line.Line.{Line}
use Rattle.stage.specs.Model.{come, gone}
use Rattle.stage.specs.States.{SoundArc, Balanced, Tight}

-- the sum of f over the numbers below n
abbrev pub sum_to : ℕ → (ℕ → ℕ) → ℕ
sum_to zero f = 0
sum_to (suc n) f = sum_to n f + f n

-- over the members of X below n
abbrev pub over : ℕ → Junctions → (ℕ → ℕ) → ℕ
over n X f = sum_to n (λ u. cond (X u) (f u) 0)

-- x at a, and 0 elsewhere
abbrev pub only : ℕ → ℕ → ℕ → ℕ
only a u x = cond (eqb a u) x 0

-- f without its value at v
abbrev pub besides : ℕ → (ℕ → ℕ) → ℕ → ℕ
besides v f u = cond (eqb u v) 0 (f u)

-- what the lines that p picks carry
abbrev pub carries : (Line → Bool) → List Arc → ℕ
carries p ls = carried p (lines_of ls) (flows_of ls)

-- what the lines that end in X carry, and those that begin in X
abbrev pub ending_in : Junctions → List Arc → ℕ
ending_in X ls = carries (λ l. X l.to) ls

abbrev pub beginning_in : Junctions → List Arc → ℕ
beginning_in X ls = carries (λ l. X l.from) ls

sum_add : (n : ℕ) (f g : ℕ → ℕ) → sum_to n (λ u. f u + g u) ≡ sum_to n f + sum_to n g
sum_add zero f g = refl
sum_add (suc n) f g = omega (arith, sum_add n f g)

sum_same : (n : ℕ) (f g : ℕ → ℕ) → ((u : ℕ) → u < n → f u ≡ g u) → sum_to n f ≡ sum_to n g
sum_same zero f g h = refl
sum_same (suc n) f g h = omega (arith, sum_same n f g (λ u k. h u (omega arith)), h n (omega arith))

pub sum_le : (n : ℕ) (f g : ℕ → ℕ) → ((u : ℕ) → u < n → f u ≤ g u) → sum_to n f ≤ sum_to n g
sum_le zero f g h = omega arith
sum_le (suc n) f g h = omega (arith, sum_le n f g (λ u k. h u (omega arith)), h n (omega arith))

sum_zero : (n : ℕ) (f : ℕ → ℕ) → ((u : ℕ) → u < n → f u ≡ 0) → sum_to n f ≡ 0
sum_zero zero f h = refl
sum_zero (suc n) f h = omega (arith, sum_zero n f (λ u k. h u (omega arith)), h n (omega arith))

-- a sum of which one term counts
sum_only : (n a x : ℕ) (X : Junctions) → a < n → over n X (λ u. only a u x) ≡ cond (X a) x 0
sum_only zero a x X h = absurd (omega arith)
sum_only (suc n) a x X h =
    ⊎_elim
    (λ (e : a ≡ n).
    let z : sum_to n (λ u. cond (X u) (only a u x) 0) ≡ 0 = sum_zero n (λ u. cond (X u) (only a u x) 0) (λ u k. grind (arith, nat_tests)) in
    grind (arith, nat_tests))
    (λ (e : a ≡ n → ⊥).
    let ih = sum_only n a x X (omega arith) in grind (arith, nat_tests))
    (cases_eq a n)

-- a sum, and the same without one of its terms
pub sum_besides : (n v : ℕ) (f : ℕ → ℕ) → v < n → sum_to n f ≡ sum_to n (besides v f) + f v
sum_besides n v f k =
    let a = sum_only n v (f v) (λ u. true) k in
    let b : sum_to n f ≡ sum_to n (λ u. besides v f u + only v u (f v)) = sum_same n f (λ u. besides v f u + only v u (f v)) (λ u j. at u) in
    b ∙ sum_add n (besides v f) (λ u. only v u (f v)) ∙ ap (λ x. sum_to n (besides v f) + x) a
  where
    at : (u : ℕ) → f u ≡ besides v f u + only v u (f v)
    at u = ⊎_elim
        (λ (e : u ≡ v). rw (eq-eqb u v e, eq-eqb v u (sym e)) (omega (arith, ap f e)))
        (λ (e : u ≡ v → ⊥). rw (ne_eqb u v e, ne_eqb v u (λ q. e (sym q))) (omega arith))
        (cases_eq u v)

-- sums that agree but at v
pub besides_same : (n v : ℕ) (f g : ℕ → ℕ) → ((u : ℕ) → u < n → (u ≡ v → ⊥) → f u ≡ g u) → sum_to n (besides v f) ≡ sum_to n (besides v g)
besides_same n v f g h = sum_same n (besides v f) (besides v g) at
  where
    at : (u : ℕ) → u < n → besides v f u ≡ besides v g u
    at u k = ⊎_elim (λ (e : u ≡ v). rw (eq-eqb u v e)) (λ (e : u ≡ v → ⊥). rw (ne_eqb u v e) (h u k e)) (cases_eq u v)

sum_lt : (n : ℕ) (f g : ℕ → ℕ) → ((u : ℕ) → u < n → f u ≤ g u) → (v : ℕ) → v < n → f v < g v → sum_to n f < sum_to n g
sum_lt n f g h v k s =
    let a = sum_besides n v f k in
    let b = sum_besides n v g k in
    let c : sum_to n (besides v f) ≤ sum_to n (besides v g) = sum_le n (besides v f) (besides v g) at in
    omega arith
  where
    at : (u : ℕ) → u < n → besides v f u ≤ besides v g u
    at u j = ⊎_elim (λ (e : u ≡ v). rw (eq-eqb u v e) (omega arith)) (λ (e : u ≡ v → ⊥). rw (ne_eqb u v e) (h u j)) (cases_eq u v)

-- what the lines with an end at a junction carry, over the junctions of X
carries_over : (n : ℕ) (X : Junctions) (end : Line → ℕ) (ls : List Arc) → AllByRecursion (λ l. end l.line < n) ls →
    over n X (λ u. carries (λ l. eqb (end l) u) ls) ≡ carries (λ l. X (end l)) ls
carries_over n X end [] h = sum_zero n (λ u. cond (X u) 0 0) (λ u k. grind arith)
carries_over n X end (l ∷ ls) h =
    let f : ℕ → ℕ = λ u. cond (X u) (only (end l.line) u l.flow) 0 in
    let g : ℕ → ℕ = λ u. cond (X u) (carries (λ l. eqb (end l) u) ls) 0 in
    let e : over n X (λ u. carries (λ l. eqb (end l) u) (l ∷ ls)) ≡ sum_to n (λ u. f u + g u) =
    sum_same n (λ u. cond (X u) (carries (λ l. eqb (end l) u) (l ∷ ls)) 0) (λ u. f u + g u) (λ u k. grind arith) in
    e ∙ sum_add n f g ∙ omega (arith, carries_over n X end ls h.1, sum_only n (end l.line) l.flow X h.0)

-- what comes into the members of X and what goes out of them, counted line by line
pub come_over : (n : ℕ) (X : Junctions) (ls : List Arc) → AllByRecursion (SoundArc n) ls → over n X (come ls) ≡ ending_in X ls
come_over n X ls h = carries_over n X (λ l. l.to) ls (All-weaker (SoundArc n) (λ l. l.line.to < n) (λ l s. s.sound.to_in) ls h)

pub gone_over : (n : ℕ) (X : Junctions) (ls : List Arc) → AllByRecursion (SoundArc n) ls → over n X (gone ls) ≡ beginning_in X ls
gone_over n X ls h = carries_over n X (λ l. l.from) ls (All-weaker (SoundArc n) (λ l. l.line.from < n) (λ l s. s.sound.from_in) ls h)

-- a tight line brings X no more than any other flow of it within the limits
one_line : (n : ℕ) (X : Junctions) (l m : Arc) → Tight X l → SoundArc n m → l.line ≡ m.line →
    cond (X l.line.to) l.flow 0 + cond (X m.line.from) m.flow 0 ≤ cond (X l.line.from) l.flow 0 + cond (X m.line.to) m.flow 0
one_line n X l m t s a =
    let ef : X m.line.from ≡ X l.line.from = ap (λ (k : Line). X k.from) (sym a) in
    let et : X m.line.to ≡ X l.line.to = ap (λ (k : Line). X k.to) (sym a) in
    rw (ef, et) (go (X l.line.from) (X l.line.to) t.out t.back)
  where
    go : (b c : Bool) → (b ≡ true → c ≡ false → l.flow ≡ high_of l.line) → (c ≡ true → b ≡ false → l.flow ≡ low_of l.line) →
        cond c l.flow 0 + cond b m.flow 0 ≤ cond b l.flow 0 + cond c m.flow 0
    go true true p q = omega arith
    go true false p q = omega (arith, p refl refl, s.below, ap high_of a)
    go false true p q = omega (arith, q refl refl, s.above, ap low_of a)
    go false false p q = omega arith

pub cut : (n : ℕ) (X : Junctions) (ls ms : List Arc) → AllByRecursion (Tight X) ls → AllByRecursion (SoundArc n) ms → lines_of ls ≡ lines_of ms →
    ending_in X ls + beginning_in X ms ≤ beginning_in X ls + ending_in X ms
cut n X [] [] t s a = omega arith
cut n X [] (m ∷ ms) t s a = let z : ◌≡◌ {A = ℕ} 0 1 = cc in absurd (omega arith)
cut n X (l ∷ ls) [] t s a = let z : ◌≡◌ {A = ℕ} 0 1 = cc in absurd (omega arith)
cut n X (l ∷ ls) (m ∷ ms) t s a = omega (arith, one_line n X l m t.0 s.0 (cc), cut n X ls ms t.1 s.1 (cc))

-- No junction of a set that no residual leaves has more coming in than going out, if none has less, and ms balances all of the set.
pub no_excess : (n : ℕ) (X : Junctions) (ls ms : List Arc) → AllByRecursion (SoundArc n) ls → AllByRecursion (SoundArc n) ms → lines_of ls ≡ lines_of ms → AllByRecursion (Tight X) ls →
    ((u : ℕ) → u < n → X u ≡ true → come ms u ≡ gone ms u) →
    ((u : ℕ) → u < n → X u ≡ true → gone ls u ≤ come ls u) →
    (v : ℕ) → v < n → X v ≡ true → come ls v ≤ gone ls v
no_excess n X ls ms p q a t bal pre v k x =
    ⊎_elim
    (λ (s : gone ls v < come ls v).
    let cl : over n X (come ls) ≡ ending_in X ls = come_over n X ls p in
    let gl : over n X (gone ls) ≡ beginning_in X ls = gone_over n X ls p in
    let cm : over n X (come ms) ≡ ending_in X ms = come_over n X ms q in
    let gm : over n X (gone ms) ≡ beginning_in X ms = gone_over n X ms q in
    let c : ending_in X ls + beginning_in X ms ≤ beginning_in X ls + ending_in X ms = cut n X ls ms t q a in
    let b : over n X (come ms) ≡ over n X (gone ms) = sum_same n (λ u. cond (X u) (come ms u) 0) (λ u. cond (X u) (gone ms u) 0) (λ u j. weigh_eq (X u) (come ms u) (gone ms u) (bal u j)) in
    let d : over n X (gone ls) < over n X (come ls) = sum_lt n (λ u. cond (X u) (gone ls u) 0) (λ u. cond (X u) (come ls u) 0) (λ u j. weigh_le (X u) (gone ls u) (come ls u) (pre u j)) v k (rw x s) in
    absurd (omega arith))
    (λ (s : come ls v ≤ gone ls v). s)
    (cases_lt (gone ls v) (come ls v))
  where
    weigh_eq : (b : Bool) (x y : ℕ) → (b ≡ true → x ≡ y) → cond b x 0 ≡ cond b y 0
    weigh_eq true x y h = h refl
    weigh_eq false x y h = refl

    weigh_le : (b : Bool) (x y : ℕ) → (b ≡ true → x ≤ y) → cond b x 0 ≤ cond b y 0
    weigh_le true x y h = h refl
    weigh_le false x y h = omega arith

-- over a set with the start and without the goal, only the start is out of balance
pub start_alone : (n s t : ℕ) (X : Junctions) (ks : List Arc) → Balanced n s t ks → s < n → X s ≡ true → X t ≡ false →
    ending_in X ks + gone ks s ≡ beginning_in X ks + come ks s
start_alone n s t X ks bal k xs xt =
    let f : ℕ → ℕ = λ u. cond (X u) (come ks u) 0 in
    let g : ℕ → ℕ = λ u. cond (X u) (gone ks u) 0 in
    let a : over n X (come ks) ≡ ending_in X ks = come_over n X ks bal.lines in
    let b : over n X (gone ks) ≡ beginning_in X ks = gone_over n X ks bal.lines in
    let c : sum_to n f ≡ sum_to n (besides s f) + f s = sum_besides n s f k in
    let d : sum_to n g ≡ sum_to n (besides s g) + g s = sum_besides n s g k in
    let fs : f s ≡ come ks s = rw xs in
    let gs : g s ≡ gone ks s = rw xs in
    let e : sum_to n (besides s f) ≡ sum_to n (besides s g) = besides_same n s f g (λ u j q. at u j q (X u) refl) in
    omega arith
  where
    at : (u : ℕ) → u < n → (u ≡ s → ⊥) → (b : Bool) → X u ≡ b → cond (X u) (come ks u) 0 ≡ cond (X u) (gone ks u) 0
    at u j q true x = rw x (bal.even u j q (λ z. both_ways (X t) xt (ap X (sym z) ∙ x)))
    at u j q false x = rw x refl
