-- What a sweep of the lines keeps.
use Rattle.std.proofs.Common.{◌≡◌, ℕ, ◌+◌, ◌-◌, ◌<◌, ◌≤◌, ◌⊎◌, List, [], ◌∷◌, length, pos, ◌+ℤ◌, neg_ℤ, ◌≤ℤ◌, sym, refl, ap, ◌∙◌, ⊎_elim, arith}
use Rattle.std.specs.List.{AllByRecursion}
use Rattle.std.proofs.lemmas.Int.{ints}
use Rattle.std.proofs.lemmas.Bool.{cases_eq, eq-eqb, ne_eqb}
use Rattle.plant.specs.Held.{Arc, lines_of}
use Rattle.stage.specs.declared.Row.{Row}
use Rattle.stage.specs.Model.{exc, lab, sent, swept_arcs, swept_rows, come, gone}
use Rattle.plant.specs.Held.{residual, other, shift}
use Rattle.stage.specs.States.{SoundArc}
use Rattle.stage.proofs.Cuts.{only}
use Rattle.stage.proofs.Rows.{length_sent, lab_sent, Sent, exc_sent}
use Rattle.stage.proofs.Ends.{Leaves, Enters, Apart, lies, sound_shift}

pub other_in : (n v : ℕ) (l : Arc) → SoundArc n l → (other v l < n) × (other v l ≡ v → ⊥)
other_in n v l s =
    ⊎_elim
    (λ (w : Leaves v l). (rw w.end s.sound.to_in, λ q. w.far (sym w.end ∙ q)))
    (λ (o : Enters v l ⊎ Apart v l). ⊎_elim
    (λ (w : Enters v l). (rw w.end s.sound.from_in, λ q. w.far (sym w.end ∙ q)))
    (λ (w : Apart v l). (rw w.end s.sound.from_in, λ q. w.here (sym w.end ∙ q)))
    o)
    (lies n v l s)

-- the excesses after v sent d by l
pub sent_by : (n v d : ℕ) (l : Arc) (rs : List Row) → length rs ≡ n → v < n → SoundArc n l → Sent v (other v l) d rs
sent_by n v d l rs e k s =
    let o = other_in n v l s in
    exc_sent v (other v l) d rs (omega arith) (omega (arith, o.0)) o.1

-- the excess of each junction after v sent d to w
pub sent_at : (v w d : ℕ) (rs : List Row) → v < length rs → w < length rs → (w ≡ v → ⊥) → (u : ℕ) →
    exc (sent v w d rs) u +ℤ pos (only v u d) ≡ exc rs u +ℤ pos (only w u d)
sent_at v w d rs i j ne u =
    let m = exc_sent v w d rs i j ne in
    ⊎_elim
    (λ (q : u ≡ v).
    let g : exc (sent v w d rs) u ≡ exc rs u +ℤ neg_ℤ (pos d) = rw q m.giver in
    rw (eq-eqb v u (sym q), ne_eqb w u (λ z. ne (z ∙ q))) (omega (arith, ints, g)))
    (λ (q : u ≡ v → ⊥).
    let b = ne_eqb v u (λ z. q (sym z)) in
    ⊎_elim
    (λ (z : u ≡ w).
    let g : exc (sent v w d rs) u ≡ exc rs u +ℤ pos d = rw z m.taker in
    rw (b, eq-eqb w u (sym z)) (omega (arith, ints, g)))
    (λ (z : u ≡ w → ⊥). rw (b, ne_eqb w u (λ y. z (sym y))) (omega (arith, ints, m.rest u q z)))
    (cases_eq u w))
    (cases_eq u v)

record Parts (a u x y : ℕ) : Type 0 where
  sum : only a u (x + y) ≡ only a u x + only a u y
  rest : y ≤ x → only a u (x - y) + only a u y ≡ only a u x

parts : (a u x y : ℕ) → Parts a u x y
parts a u x y =
    ⊎_elim
    (λ (e : a ≡ u). let b = eq-eqb a u e in record { sum = rw b refl; rest = λ k. rw b (omega arith) })
    (λ (e : a ≡ u → ⊥). let b = ne_eqb a u e in record { sum = rw b (omega arith); rest = λ k. rw b (omega arith) })
    (cases_eq a u)

-- the excess of a junction changes as the flows do
pub balance_sent : (n v d : ℕ) (l : Arc) (rs : List Row) → length rs ≡ n → v < n → SoundArc n l → d ≤ residual v l → (u : ℕ) →
    exc (sent v (other v l) d rs) u +ℤ pos (only l.line.from u (shift v d l).flow + only l.line.to u l.flow)
    ≡ exc rs u +ℤ pos (only l.line.from u l.flow + only l.line.to u (shift v d l).flow)
balance_sent n v d l rs e k s room u =
    let o = other_in n v l s in
    let a = sent_at v (other v l) d rs (omega arith) (omega (arith, o.0)) o.1 u in
    let pf = parts l.line.from u l.flow d in
    let pt = parts l.line.to u l.flow d in
    ⊎_elim
    (λ (w : Leaves v l).
    rw (w.flows d) (omega (arith, ints, a, pf.sum, pt.sum, ap (λ x. only x u d) w.here, ap (λ x. only x u d) w.end)))
    (λ (o : Enters v l ⊎ Apart v l). ⊎_elim
    (λ (w : Enters v l).
    let j : d ≤ l.flow = omega (arith, room, w.room) in
    rw (w.flows d) (omega (arith, ints, a, pf.rest j, pt.rest j, ap (λ x. only x u d) w.here, ap (λ x. only x u d) w.end)))
    (λ (w : Apart v l).
    let z : d ≡ 0 = omega (arith, room, w.room) in
    let f : (shift v d l).flow ≡ l.flow = omega (arith, w.flows d) in
    rw f (omega (arith, ints, a, none v d z, none (other v l) d z)))
    o)
    (lies n v l s)
  where
    none : (x d : ℕ) → d ≡ 0 → only x u d ≡ 0
    none x d z = ⊎_elim (λ (q : x ≡ u). rw (eq-eqb x u q) z) (λ (q : x ≡ u → ⊥). rw (ne_eqb x u q) refl) (cases_eq x u)

-- of all junctions only v loses excess
pub record Given (v : ℕ) (rs rs' : List Row) : Type 0 where
  pub fewer : exc rs' v ≤ℤ exc rs v
  pub more : (u : ℕ) → (u ≡ v → ⊥) → exc rs u ≤ℤ exc rs' u

pub given_none : (v : ℕ) (rs : List Row) → Given v rs rs
given_none v rs = record { fewer = omega (arith, ints); more = λ u q. omega (arith, ints) }

pub given_then : (v : ℕ) (rs rs₁ rs₂ : List Row) → Given v rs rs₁ → Given v rs₁ rs₂ → Given v rs rs₂
given_then v rs rs₁ rs₂ a b = record { fewer = omega (arith, ints, a.fewer, b.fewer); more = λ u q. omega (arith, ints, a.more u q, b.more u q) }

pub given_sent : (n v d : ℕ) (l : Arc) (rs : List Row) → length rs ≡ n → v < n → SoundArc n l → Given v rs (sent v (other v l) d rs)
given_sent n v d l rs e k s =
    let m = sent_by n v d l rs e k s in
    record {
      fewer = omega (arith, ints, m.giver);
      more = λ u q. ⊎_elim
          (λ (z : u ≡ other v l). rw z (omega (arith, ints, m.taker)))
          (λ (z : u ≡ other v l → ⊥). omega (arith, ints, m.rest u q z))
          (cases_eq u (other v l));
    }

module _ (v : ℕ) (d : Arc → List Row → ℕ) where
  pub swept_lines : (ls : List Arc) (rs : List Row) → lines_of (swept_arcs v d ls rs) ≡ lines_of ls
  swept_lines [] rs = refl
  swept_lines (l ∷ ls) rs = ap (λ ks. l.line ∷ ks) (swept_lines ls (sent v (other v l) (d l rs) rs))

  pub swept_length : (ls : List Arc) (rs : List Row) → length (swept_rows v d ls rs) ≡ length rs
  swept_length [] rs = refl
  swept_length (l ∷ ls) rs = swept_length ls (sent v (other v l) (d l rs) rs) ∙ length_sent v (other v l) (d l rs) rs

  pub swept_lab : (ls : List Arc) (rs : List Row) (x : ℕ) → lab (swept_rows v d ls rs) x ≡ lab rs x
  swept_lab [] rs x = refl
  swept_lab (l ∷ ls) rs x = swept_lab ls (sent v (other v l) (d l rs) rs) x ∙ lab_sent v (other v l) (d l rs) rs x

  pub swept_given : (n : ℕ) (ls : List Arc) (rs : List Row) → length rs ≡ n → v < n → AllByRecursion (SoundArc n) ls → Given v rs (swept_rows v d ls rs)
  swept_given n [] rs e k s = given_none v rs
  swept_given n (l ∷ ls) rs e k s =
      let rs₁ = sent v (other v l) (d l rs) rs in
      given_then v rs rs₁ (swept_rows v d ls rs₁) (given_sent n v (d l rs) l rs e k s.0)
      (swept_given n ls rs₁ (length_sent v (other v l) (d l rs) rs ∙ e) k s.1)

module _ (v : ℕ) (d : Arc → List Row → ℕ) (fits : (l : Arc) (rs : List Row) → d l rs ≤ residual v l) where
  pub swept_sound : (n : ℕ) (ls : List Arc) (rs : List Row) → AllByRecursion (SoundArc n) ls → AllByRecursion (SoundArc n) (swept_arcs v d ls rs)
  swept_sound n [] rs s = tt
  swept_sound n (l ∷ ls) rs s = (sound_shift n v (d l rs) l s.0 (fits l rs), swept_sound n ls (sent v (other v l) (d l rs) rs) s.1)

  -- the excesses change as the flows do
  pub swept_balance : (n : ℕ) (ls : List Arc) (rs : List Row) → length rs ≡ n → v < n → AllByRecursion (SoundArc n) ls → (u : ℕ) →
      exc (swept_rows v d ls rs) u +ℤ pos (gone (swept_arcs v d ls rs) u + come ls u) ≡ exc rs u +ℤ pos (gone ls u + come (swept_arcs v d ls rs) u)
  swept_balance n [] rs e k s u = refl
  swept_balance n (l ∷ ls) rs e k s u =
      let a = balance_sent n v (d l rs) l rs e k s.0 (fits l rs) u in
      let b = swept_balance n ls (sent v (other v l) (d l rs) rs) (length_sent v (other v l) (d l rs) rs ∙ e) k s.1 u in
      omega (arith, ints, a, b)
