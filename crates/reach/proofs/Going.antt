use Rattle.std.proofs.Common.{◌≡◌, ℕ, zero, suc, ◌+◌, ◌<◌, ◌≤◌, Bool, true, false, cond, ◌⊎◌, List, [], ◌∷◌, ◌++◌, length, get_or, set, sym, refl, ◌∙◌, subst, inl, inr, ⊎_elim, arith, length-set, get_or-set_other, get_or-set_same}
use Rattle.reach.specs.Marking.{Marks, Reaches, here, on}
use Rattle.std.proofs.lemmas.List.{length_push}
use Rattle.std.proofs.lemmas.Bool.{both_ways, cases_eq}

-- a number is marked
abbrev pub At : List Bool → ℕ → Type 0
At marks w = get_or marks w false ≡ true

-- a number stands in a list
abbrev pub Within : ℕ → List ℕ → Type 0
Within x [] = ⊥
Within x (y ∷ ys) = (x ≡ y) ⊎ Within x ys

-- how many of the first n are not marked
abbrev pub free : ℕ → List Bool → ℕ
free zero marks = 0
free (suc n) [] = 0
free (suc n) (b ∷ marks) = cond b 0 1 + free n marks

-- what holds as v is looked at, with its edges below k seen
pub record Going (edge : ℕ → ℕ → Bool) (n from : ℕ) (marks : List Bool) (items : List ℕ) (v k : ℕ) : Type 0 where
  pub sound : (w : ℕ) → At marks w → Reaches edge n from w
  pub held : (x : ℕ) → Within x items → (x < n) × At marks x
  pub closed : (u w : ℕ) → At marks u → w < n → edge u w ≡ true → At marks w ⊎ (Within u items ⊎ ((u ≡ v) × (k ≤ w)))
  pub start : At marks from
  pub looked : (v < n) × At marks v
  pub wide : n ≤ length marks
  pub few : length items + free n marks ≤ n

at_new : (m : List Bool) (k : ℕ) → k < length m → At (set m k true) k
at_new m k l = get_or-set_same m k true false l

at_set : (m : List Bool) (k w : ℕ) → k < length m → At m w → At (set m k true) w
at_set m k w l a =
    ⊎_elim (λ e. subst (λ (i : ℕ). At (set m k true) i) (sym e) (at_new m k l)) (λ ne. get_or-set_other m k w true false ne ∙ a) (cases_eq w k)

from_set : (m : List Bool) (k w : ℕ) → At (set m k true) w → (w ≡ k) ⊎ At m w
from_set m k w a = ⊎_elim (λ e. inl e) (λ ne. inr (sym (get_or-set_other m k w true false ne) ∙ a)) (cases_eq w k)

within_push : (x y : ℕ) (xs : List ℕ) → Within x xs → Within x (xs ++ (y ∷ []))
within_push x y [] h = absurd h
within_push x y (z ∷ zs) (inl e) = inl e
within_push x y (z ∷ zs) (inr h) = inr (within_push x y zs h)

within_last : (x : ℕ) (xs : List ℕ) → Within x (xs ++ (x ∷ []))
within_last x [] = inl refl
within_last x (z ∷ zs) = inr (within_last x zs)

from_push : (x y : ℕ) (xs : List ℕ) → Within x (xs ++ (y ∷ [])) → Within x xs ⊎ (x ≡ y)
from_push x y [] (inl e) = inr e
from_push x y [] (inr h) = absurd h
from_push x y (z ∷ zs) (inl e) = inl (inl e)
from_push x y (z ∷ zs) (inr h) = ⊎_elim (λ i. inl (inr i)) (λ e. inr e) (from_push x y zs h)

pub free_le : (n : ℕ) (m : List Bool) → free n m ≤ n
free_le zero m = omega arith
free_le (suc n) [] = omega arith
free_le (suc n) (true ∷ m) = omega (arith, free_le n m)
free_le (suc n) (false ∷ m) = omega (arith, free_le n m)

-- one mark more
pub free_set : (n : ℕ) (m : List Bool) (k : ℕ) → k < n → k < length m → get_or m k false ≡ false → free n (set m k true) + 1 ≡ free n m
free_set zero m k h l e = absurd (omega arith)
free_set (suc n) [] k h l e = absurd (omega arith)
free_set (suc n) (true ∷ m) zero h l e = absurd (both_ways true e refl)
free_set (suc n) (false ∷ m) zero h l e = omega arith
free_set (suc n) (true ∷ m) (suc k) h l e = omega (arith, free_set n m k (omega arith) (omega arith) e)
free_set (suc n) (false ∷ m) (suc k) h l e = omega (arith, free_set n m k (omega arith) (omega arith) e)

-- the first junction is marked and put
pub begun : (edge : ℕ → ℕ → Bool) (n from : ℕ) (m : List Bool) (items : List ℕ)
    → from < n → n ≤ length m → ((k : ℕ) → get_or m k false ≡ false) → items ≡ from ∷ []
    → Going edge n from (set m from true) items from n
begun edge n from m items h l e i =
    let new : At (set m from true) from = at_new m from (omega arith) in
    let only : (w : ℕ) → At (set m from true) w → w ≡ from =
    λ w a. ⊎_elim (λ q. q) (λ b. absurd (both_ways (get_or m w false) (e w) b)) (from_set m from w a) in
    rw i (record {
      sound = λ w a. rw (only w a) (here (omega arith));
      held = λ x b. ⊎_elim (λ q. (omega arith, rw q new)) (λ z. absurd z) b;
      closed = λ u w a b d. inr (inl (inl (only u a)));
      start = new;
      looked = (h, new);
      wide = omega (arith, length-set m from true);
      few = omega (arith, free_set n m from h (omega arith) (e from), free_le n m);
    })

-- one is taken
pub taken : (edge : ℕ → ℕ → Bool) (n from : ℕ) (m : List Bool) (items rest : List ℕ) (u v : ℕ)
    → Going edge n from m items u n → items ≡ v ∷ rest → Going edge n from m rest v 0
taken edge n from m items rest u v s i =
    let t : Going edge n from m (v ∷ rest) u n = rw i at s in
    record {
      sound = t.sound;
      held = λ x b. t.held x (inr b);
      closed = λ y w a b d. ⊎_elim (λ q. inl q) (λ q. ⊎_elim (λ z. ⊎_elim (λ e. inr (inr (e, omega arith))) (λ z'. inr (inl z')) z) (λ z. absurd (omega (arith, z.1))) q) (t.closed y w a b d);
      start = t.start;
      looked = t.held v (inl refl);
      wide = t.wide;
      few = omega (arith, t.few);
    }

-- an edge that leads nowhere new is passed
pub passed : (edge : ℕ → ℕ → Bool) (n from : ℕ) (m : List Bool) (items : List ℕ) (v k : ℕ)
    → Going edge n from m items v k → (edge v k ≡ true → At m k) → Going edge n from m items v (k + 1)
passed edge n from m items v k s p =
    record {
      sound = s.sound;
      held = s.held;
      closed = λ u w a b d. ⊎_elim (λ q. inl q) (λ q. ⊎_elim (λ z. inr (inl z))
          (λ z. ⊎_elim (λ (e : w ≡ k). inl (rw e (p (rw (← z.0, ← e) d)))) (λ ne. inr (inr (z.0, omega (arith, z.1)))) (cases_eq w k)) q) (s.closed u w a b d);
      start = s.start;
      looked = s.looked;
      wide = s.wide;
      few = s.few;
    }

-- one that leads on is marked and put
pub marked : (edge : ℕ → ℕ → Bool) (n from : ℕ) (m : List Bool) (items more : List ℕ) (v k : ℕ)
    → Going edge n from m items v k → k < n → get_or m k false ≡ false → edge v k ≡ true → more ≡ items ++ (k ∷ [])
    → Going edge n from (set m k true) more v (k + 1)
marked edge n from m items more v k s h f d i =
    let l : k < length m = omega (arith, s.wide) in
    let keep : (w : ℕ) → At m w → At (set m k true) w = λ w. at_set m k w l in
    rw i (record {
      sound = λ w a. ⊎_elim (λ e. rw e (on v k (s.sound v s.looked.1) h d)) (λ b. s.sound w b) (from_set m k w a);
      held = λ x b. ⊎_elim (λ z. ((s.held x z).0, keep x (s.held x z).1)) (λ e. (omega arith, rw e (at_new m k l))) (from_push x k items b);
      closed = λ u w a b e. ⊎_elim (λ q. inr (inl (rw q (within_last k items))))
          (λ a'. ⊎_elim (λ q. inl (keep w q)) (λ q. ⊎_elim (λ z. inr (inl (within_push u k items z)))
          (λ z. ⊎_elim (λ (o : w ≡ k). inl (rw o (at_new m k l))) (λ ne. inr (inr (z.0, omega (arith, z.1)))) (cases_eq w k)) q) (s.closed u w a' b e))
          (from_set m k u a);
      start = keep from s.start;
      looked = (s.looked.0, keep v s.looked.1);
      wide = omega (arith, length-set m k true, s.wide);
      few = omega (arith, free_set n m k h l f, length_push items k, s.few);
    })

reached : (edge : ℕ → ℕ → Bool) (n from : ℕ) (m : List Bool) (v : ℕ) {w : ℕ}
    → Going edge n from m [] v n → Reaches edge n from w → At m w
reached edge n from m v s (here h) = s.start
reached edge n from m v s (on u w r h d) =
    ⊎_elim (λ q. q) (λ q. ⊎_elim (λ z. absurd z) (λ z. absurd (omega (arith, z.1))) q) (s.closed u w (reached edge n from m v s r) h d)

pub ended : (edge : ℕ → ℕ → Bool) (n from : ℕ) (m : List Bool) (items : List ℕ) (v : ℕ)
    → Going edge n from m items v n → items ≡ [] → Marks edge n from m
ended edge n from m items v s i w h = (λ a. s.sound w a, λ r. reached edge n from m v (rw i at s) r)

-- all edges of v are seen
pub seen : (edge : ℕ → ℕ → Bool) (n from : ℕ) (m : List Bool) (items : List ℕ) (v k : ℕ)
    → Going edge n from m items v k → n ≤ k → from < n → Going edge n from m items from n
seen edge n from m items v k s l h =
    record {
      sound = s.sound;
      held = s.held;
      closed = λ u w a b d. ⊎_elim (λ q. inl q) (λ q. ⊎_elim (λ z. inr (inl z)) (λ z. absurd (omega (arith, z.1))) q) (s.closed u w a b d);
      start = s.start;
      looked = (h, s.start);
      wide = s.wide;
      few = s.few;
    }

-- a place is free for what is not marked yet
pub has_room : (edge : ℕ → ℕ → Bool) (n from : ℕ) (m : List Bool) (items : List ℕ) (v k : ℕ)
    → Going edge n from m items v k → k < n → get_or m k false ≡ false → length items < n
has_room edge n from m items v k s h f = omega (arith, free_set n m k h (omega (arith, s.wide)) f, s.few)

-- the step where k is marked and put
pub step_marked : (edge : ℕ → ℕ → Bool) (n from : ℕ) (m m' : List Bool) (items more : List ℕ) (v k : ℕ)
    → Going edge n from m items v k → k < n → get_or m k false ≡ false → edge v k ≡ true → m' ≡ set m k true → more ≡ items ++ (k ∷ [])
    → Going edge n from m' more v (k + 1) × (length more + free n m' ≡ length items + free n m)
step_marked edge n from m m' items more v k s h f d i j = (
  rw i (marked edge n from m items more v k s h f d j),
  rw (i, j) (omega (arith, free_set n m k h (omega (arith, s.wide)) f, length_push items k)),
)

-- the step where it is not
pub step_passed : (edge : ℕ → ℕ → Bool) (n from : ℕ) (m m' : List Bool) (items more : List ℕ) (v k : ℕ)
    → Going edge n from m items v k → (edge v k ≡ true → At m k) → m' ≡ m → more ≡ items
    → Going edge n from m' more v (k + 1) × (length more + free n m' ≡ length items + free n m)
step_passed edge n from m m' items more v k s p i j = (rw (i, j) (passed edge n from m items v k s p), rw (i, j))
