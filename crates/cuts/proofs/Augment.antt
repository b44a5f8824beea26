-- d units more along a path of residuals.
use Rattle.std.proofs.Common.{◌≡◌, ℕ, zero, suc, ◌+◌, ◌-◌, ◌<◌, ◌≤◌, Bool, true, false, cond, eqb, ◌≢◌, ◌⊎◌, List, [], ◌∷◌, length, get_or, set, pos, ◌+ℤ◌, sym, refl, ◌∙◌, subst, subst₂, inl, inr, arith}
use Rattle.std.proofs.lemmas.Int.{ints}
use Rattle.std.proofs.lemmas.List.{length-set, get_or-set_same, get_or-set_other}
use Rattle.std.proofs.lemmas.Bool.{cases_eq, cond-false, ne_eqb}
use Rattle.plant.specs.declared.line.Line.{Line}
use Rattle.plant.specs.declared.aim.Aim.{Aim}
use Rattle.plant.specs.declared.aim.Aim.TheVariants.{Greatest, Least}
use Rattle.plant.specs.Plants.{Plant, Flow, Within, Feasible, NoBetter, Residual, more, less, Step, Reaches, line, at, no_line, low_of, high_of, carried, leaves, ends, outflow, inflow, total}
use Rattle.cuts.proofs.Paths.{In, Simple, start, next, last_in, simple, turned, reaches_in}

-- d at v, and 0 elsewhere
abbrev pub units_at : ℕ → ℕ → ℕ → ℕ
units_at d v x = cond (eqb v x) d 0

-- g has d units more than f from s to t: the net outflow is d more at s and d less at t, and the same elsewhere
pub record Moves (P : Plant) (f g : Flow) (d s t : ℕ) : Type 0 where
  pub net : (x : ℕ) → outflow P g x + inflow P f x + units_at d t x ≡ outflow P f x + inflow P g x + units_at d s x

change : (b : Bool) (x y d : ℕ) → y ≡ x + d → cond b y 0 ≡ cond b x 0 + cond b d 0
change true x y d e = e
change false x y d e = refl

-- d more, or d less, on line k
carried_up : (p : Line → Bool) (ls : List Line) (f : Flow) (k y d : ℕ) → k < length ls → length f ≡ length ls → y ≡ get_or f k 0 + d → carried p ls (set f k y) ≡ carried p ls f + cond (p (get_or ls k no_line)) d 0
carried_up p [] f k y d j e q = absurd (omega arith)
carried_up p (l ∷ ls) [] k y d j e q = absurd (omega arith)
carried_up p (l ∷ ls) (x ∷ f) zero y d j e q = omega (arith, change (p l) x y d q)
carried_up p (l ∷ ls) (x ∷ f) (suc k) y d j e q = omega (arith, carried_up p ls f k y d (omega arith) (omega arith) q)

carried_down : (p : Line → Bool) (ls : List Line) (f : Flow) (k y d : ℕ) → k < length ls → length f ≡ length ls → get_or f k 0 ≡ y + d → carried p ls (set f k y) + cond (p (get_or ls k no_line)) d 0 ≡ carried p ls f
carried_down p [] f k y d j e q = absurd (omega arith)
carried_down p (l ∷ ls) [] k y d j e q = absurd (omega arith)
carried_down p (l ∷ ls) (x ∷ f) zero y d j e q = omega (arith, change (p l) y x d q)
carried_down p (l ∷ ls) (x ∷ f) (suc k) y d j e q = omega (arith, carried_down p ls f k y d (omega arith) (omega arith) q)

-- ---- moves
pub moves_none : (P : Plant) (f : Flow) (d s : ℕ) → Moves P f f d s s
moves_none P f d s = record { net = λ x. refl }

pub moves_on : (P : Plant) (f g h : Flow) (d s u t : ℕ) → Moves P f g d s u → Moves P g h d u t → Moves P f h d s t
moves_on P f g h d s u t a b = record { net = λ x. omega (arith, a.net x, b.net x) }

pub moves_up : (P : Plant) (g : Flow) (k d : ℕ) → k < length P.lines → length g ≡ length P.lines → Moves P g (set g k (at g k + d)) d (line P k).from (line P k).to
moves_up P g k d j e = record { net = λ x. omega (arith, carried_up (leaves x) P.lines g k (at g k + d) d j e refl, carried_up (ends x) P.lines g k (at g k + d) d j e refl) }

pub moves_down : (P : Plant) (g : Flow) (k d : ℕ) → k < length P.lines → length g ≡ length P.lines → d ≤ at g k → Moves P g (set g k (at g k - d)) d (line P k).to (line P k).from
moves_down P g k d j e h =
    let q : at g k ≡ (at g k - d) + d = omega arith in
    record { net = λ x. omega (arith, carried_down (leaves x) P.lines g k (at g k - d) d j e q, carried_down (ends x) P.lines g k (at g k - d) d j e q) }

-- what holds of each line's number
each_at : (Q : ℕ → ℕ → Type 0) (g : Flow) (k y m : ℕ) → k < length g → Q k y → ((i : ℕ) → i < m → Q i (at g i)) → (i : ℕ) → i < m → Q i (at (set g k y) i)
each_at Q g k y m j new old i h = elim (cases_eq i k) [
  | inl e ↦ rw (e, get_or-set_same g k y 0 j) new
  | inr n ↦ rw (get_or-set_other g k i y 0 n) (old i h)
]

pub within_set : (P : Plant) (g : Flow) (k y : ℕ) → k < length P.lines → low_of (line P k) ≤ y → y ≤ high_of (line P k) → Within P g → Within P (set g k y)
within_set P g k y j a b w =
    let in_g : k < length g = omega (arith, w.each) in
    record {
      each = length-set g k y ∙ w.each;
      above = each_at (λ i z. low_of (line P i) ≤ z) g k y (length P.lines) in_g a w.above;
      below = each_at (λ i z. z ≤ high_of (line P i)) g k y (length P.lines) in_g b w.below;
    }

-- from one end of the plant to the other a feasible flow stays feasible
feasible_moved : (P : Plant) (f g : Flow) (d s t : ℕ) → Feasible P f → Within P g → Moves P f g d s t → ((v : ℕ) → v ≢ 0 → v ≢ 1 → (s ≢ v) × (t ≢ v)) → Feasible P g
feasible_moved P f g d s t feasible w m ends = record {
  within = w;
  kept = λ v i a b.
      let a' : units_at d s v ≡ zero = cond-false (eqb s v) d 0 (ne_eqb s v (ends v a b).0) in
      let b' : units_at d t v ≡ zero = cond-false (eqb t v) d 0 (ne_eqb t v (ends v a b).1) in
      omega (arith, m.net v, feasible.kept v i a b);
}

pub more_feasible : (P : Plant) (f g : Flow) (d : ℕ) → Feasible P f → Within P g → Moves P f g d 0 1 → Feasible P g × (total P g ≡ total P f +ℤ pos d)
more_feasible P f g d feasible w m = (feasible_moved P f g d 0 1 feasible w m (λ v a b. (λ e. a (sym e), λ e. b (sym e))), let e = m.net 0 in omega (arith, ints))

pub less_feasible : (P : Plant) (f g : Flow) (d : ℕ) → Feasible P f → Within P g → Moves P f g d 1 0 → Feasible P g × (total P f ≡ total P g +ℤ pos d)
less_feasible P f g d feasible w m = (feasible_moved P f g d 1 0 feasible w m (λ v a b. (λ e. b (sym e), λ e. a (sym e))), let e = m.net 0 in omega (arith, ints))

-- ---- along a path without a junction twice
-- a step with room for d units
data Room (P : Plant) (f : Flow) (d v w : ℕ) : Type 0 where
  rise : (k : ℕ) → k < length P.lines → (line P k).from ≡ v → (line P k).to ≡ w → at f k + d ≤ high_of (line P k) → Room P f d v w
  fall : (k : ℕ) → k < length P.lines → (line P k).to ≡ v → (line P k).from ≡ w → low_of (line P k) + d ≤ at f k → Room P f d v w

room_one : (P : Plant) (f : Flow) (v w : ℕ) → Residual P f v w → Room P f 1 v w
room_one P f v w (more k j a b h) = rise k j a b (omega arith)
room_one P f v w (less k j a b h) = fall k j a b (omega arith)

-- g is f with d units more from s to w, over lines between the junctions vs
record Shifted (P : Plant) (f : Flow) (d s : ℕ) (vs : List ℕ) (w : ℕ) (g : Flow) : Type 0 where
  within : Within P g
  moves : Moves P f g d s w
  same : (k : ℕ) → k < length P.lines → (at g k ≡ at f k) ⊎ (In vs (line P k).from × In vs (line P k).to)

kept_same : (P : Plant) (f : Flow) (d s w : ℕ) (vs : List ℕ) (g : Flow) → Shifted P f d s vs w g → (k : ℕ) → k < length P.lines → (In vs (line P k).from → In vs (line P k).to → ⊥) → at g k ≡ at f k
kept_same P f d s w vs g sh k j never = elim (sh.same k j) [ inl e ↦ e | inr b ↦ absurd (never b.0 b.1) ]

longer : (vs : List ℕ) (w : ℕ) (A : Type 0) (a b : ℕ) → A ⊎ (In vs a × In vs b) → A ⊎ (In (w ∷ vs) a × In (w ∷ vs) b)
longer vs w A a b h = elim h [ inl e ↦ inl e | inr p ↦ inr (inr p.0, inr p.1) ]

push : (P : Plant) (f : Flow) (d s u w : ℕ) (vs : List ℕ) (g : Flow) → Shifted P f d s vs u g → In vs u → (In vs w → ⊥) → Room P f d u w → (g' : Flow) × Shifted P f d s (w ∷ vs) w g'
push P f d s u w vs g sh last new (rise k j a b h) =
    let e : at g k ≡ at f k = kept_same P f d s u vs g sh k j (λ _ i. new (subst (In vs) b i)) in
    let y = at g k + d in (
      set g k y,
      record {
        within = within_set P g k y j (omega (arith, sh.within.above k j)) (omega arith) sh.within;
        moves = moves_on P f g (set g k y) d s u w sh.moves (subst₂ (Moves P g (set g k y) d) a b (moves_up P g k d j sh.within.each));
        same = each_at (λ i z. (z ≡ at f i) ⊎ (In (w ∷ vs) (line P i).from × In (w ∷ vs) (line P i).to)) g k y (length P.lines) (omega (arith, sh.within.each)) (inr (inr (subst (In vs) (sym a) last), inl (sym b))) (λ i l. longer vs w (at g i ≡ at f i) (line P i).from (line P i).to (sh.same i l));
      },
    )
push P f d s u w vs g sh last new (fall k j a b h) =
    let e : at g k ≡ at f k = kept_same P f d s u vs g sh k j (λ i _. new (subst (In vs) b i)) in
    let y = at g k - d in (
      set g k y,
      record {
        within = within_set P g k y j (omega arith) (omega (arith, sh.within.below k j)) sh.within;
        moves = moves_on P f g (set g k y) d s u w sh.moves (subst₂ (Moves P g (set g k y) d) a b (moves_down P g k d j sh.within.each (omega arith)));
        same = each_at (λ i z. (z ≡ at f i) ⊎ (In (w ∷ vs) (line P i).from × In (w ∷ vs) (line P i).to)) g k y (length P.lines) (omega (arith, sh.within.each)) (inr (inl (sym b), inr (subst (In vs) (sym a) last))) (λ i l. longer vs w (at g i ≡ at f i) (line P i).from (line P i).to (sh.same i l));
      },
    )

shifted : (P : Plant) (f : Flow) (d s : ℕ) {vs : List ℕ} {w : ℕ} → Within P f → Simple (Room P f d) s vs w → (g : Flow) × Shifted P f d s vs w g
shifted P f d s within start = (f, record { within = within; moves = moves_none P f d s; same = λ k j. inl refl })
shifted P f d s within (next {vs} {u} {w} p e n) =
    let q = shifted P f d s within p in
    push P f d s u w vs q.0 q.1 (last_in p) n e

-- where residuals lead from s to t, one unit more can go from s to t
pub one_more : (P : Plant) (f : Flow) (s t : ℕ) → Within P f → Reaches (Residual P f) s t → (g : Flow) × Within P g × Moves P f g 1 s t
one_more P f s t within r =
    let p = simple (Room P f 1) s (reaches_in (Residual P f) (Room P f 1) (room_one P f) s r) in
    let q = shifted P f 1 s within p.1 in
    (q.0, q.1.within, q.1.moves)

-- a path from the header to the tank gives a better flow
pub better : (aim : Aim) (P : Plant) (f : Flow) → Feasible P f → Reaches (Step aim P f) 0 1 → (g : Flow) × Feasible P g × (NoBetter aim (total P g) (total P f) → ⊥)
better Greatest P f feasible r =
    let q = one_more P f 0 1 feasible.within r in
    let m = more_feasible P f q.0 1 feasible q.1 q.2 in
    (q.0, m.0, λ worse. omega (arith, ints, m.1))
better Least P f feasible r =
    let q = one_more P f 1 0 feasible.within (turned (Residual P f) 0 r) in
    let m = less_feasible P f q.0 1 feasible q.1 q.2 in
    (q.0, m.0, λ worse. omega (arith, ints, m.1))
