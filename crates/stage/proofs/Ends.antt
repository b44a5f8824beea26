-- How a line lies to a junction, and what a push by it does.
use Rattle.std.proofs.Common.{◌≡◌, ℕ, ◌+◌, ◌-◌, ◌<◌, ◌≤◌, min, ◌⊎◌, List, sym, ap, ◌∙◌, inl, inr, ⊎_elim, arith}
use borrow.Author.Differences.{up}
use Rattle.std.proofs.lemmas.Bool.{cases_eq, eq-eqb, ne_eqb, cases_lt}
use Rattle.plant.specs.Plants.{low_of, high_of}
use Rattle.plant.specs.Held.{Arc}
use Rattle.stage.specs.declared.Row.{Row}
use Rattle.stage.specs.Model.{exc, lab, amount}
use Rattle.plant.specs.Held.{residual, other, shift}
use Rattle.stage.specs.States.{SoundArc, Valid}

pub record Leaves (v : ℕ) (l : Arc) : Type 0 where
  pub here : l.line.from ≡ v
  pub far : l.line.to ≡ v → ⊥
  pub room : residual v l ≡ high_of l.line - l.flow
  pub end : other v l ≡ l.line.to
  pub flows : (d : ℕ) → (shift v d l).flow ≡ l.flow + d

pub record Enters (v : ℕ) (l : Arc) : Type 0 where
  pub here : l.line.to ≡ v
  pub far : l.line.from ≡ v → ⊥
  pub room : residual v l ≡ l.flow - low_of l.line
  pub end : other v l ≡ l.line.from
  pub flows : (d : ℕ) → (shift v d l).flow ≡ l.flow - d

pub record Apart (v : ℕ) (l : Arc) : Type 0 where
  pub here : l.line.from ≡ v → ⊥
  pub far : l.line.to ≡ v → ⊥
  pub room : residual v l ≡ 0
  pub end : other v l ≡ l.line.from
  pub flows : (d : ℕ) → (shift v d l).flow ≡ l.flow - d

abbrev pub Lies : ℕ → Arc → Type 0
Lies v l = Leaves v l ⊎ (Enters v l ⊎ Apart v l)

pub lies : (n v : ℕ) (l : Arc) → SoundArc n l → Lies v l
lies n v l s =
    ⊎_elim
    (λ (e : l.line.from ≡ v).
    let b = eq-eqb l.line.from v e in
    inl (record { here = e; far = λ q. s.sound.apart (e ∙ sym q); room = rw b; end = rw b; flows = λ d. rw b }))
    (λ (e : l.line.from ≡ v → ⊥).
    let b = ne_eqb l.line.from v e in
    ⊎_elim
    (λ (f : l.line.to ≡ v). let c = eq-eqb l.line.to v f in inr (inl (record { here = f; far = e; room = rw (b, c); end = rw b; flows = λ d. rw b })))
    (λ (f : l.line.to ≡ v → ⊥). let c = ne_eqb l.line.to v f in inr (inr (record { here = e; far = f; room = rw (b, c); end = rw b; flows = λ d. rw b })))
    (cases_eq l.line.to v))
    (cases_eq l.line.from v)

pub sound_shift : (n v d : ℕ) (l : Arc) → SoundArc n l → d ≤ residual v l → SoundArc n (shift v d l)
sound_shift n v d l s k =
    ⊎_elim
    (λ (w : Leaves v l). record {
      sound = s.sound;
      above = omega (arith, w.flows d);
      below = omega (arith, w.flows d);
    })
    (λ (o : Enters v l ⊎ Apart v l). ⊎_elim
    (λ (w : Enters v l). record {
      sound = s.sound;
      above = omega (arith, w.flows d);
      below = omega (arith, w.flows d);
    })
    (λ (w : Apart v l). record {
      sound = s.sound;
      above = omega (arith, w.flows d);
      below = omega (arith, w.flows d);
    })
    o)
    (lies n v l s)

-- a push by which the labels fall by one keeps the labels valid
pub valid_shift : (n v d : ℕ) (h : ℕ → ℕ) (l : Arc) → SoundArc n l → Valid h l → d ≤ residual v l → (0 < d → h v ≡ h (other v l) + 1) → Valid h (shift v d l)
valid_shift n v d h l s st k down =
    ⊎_elim
    (λ (w : Leaves v l).
    let hv : h l.line.from ≡ h v = ap h w.here in
    let hw : h (other v l) ≡ h l.line.to = ap h w.end in
    record {
      on = λ q. st.on (omega (arith, w.flows d));
      back = λ q. ⊎_elim (λ (z : 0 < d). omega (arith, down z)) (λ (z : d ≤ 0). st.back (omega (arith, w.flows d))) (cases_lt 0 d);
    })
    (λ (o : Enters v l ⊎ Apart v l). ⊎_elim
    (λ (w : Enters v l).
    let hv : h l.line.to ≡ h v = ap h w.here in
    let hw : h (other v l) ≡ h l.line.from = ap h w.end in
    record {
      on = λ q. ⊎_elim (λ (z : 0 < d). omega (arith, down z)) (λ (z : d ≤ 0). st.on (omega (arith, w.flows d))) (cases_lt 0 d);
      back = λ q. st.back (omega (arith, w.flows d));
    })
    (λ (w : Apart v l). record { on = λ q. st.on (omega (arith, w.flows d)); back = λ q. st.back (omega (arith, w.flows d)) })
    o)
    (lies n v l s)

-- the amount pushed
pub record Pushed (v : ℕ) (l : Arc) (rs : List Row) : Type 0 where
  pub in_hand : amount v l rs ≤ up (exc rs v)
  pub in_room : amount v l rs ≤ residual v l
  pub falls : 0 < amount v l rs → lab rs v ≡ lab rs (other v l) + 1
  pub most : lab rs v ≡ lab rs (other v l) + 1 → amount v l rs ≡ min (up (exc rs v)) (residual v l)
  pub none : (lab rs v ≡ lab rs (other v l) + 1 → ⊥) → amount v l rs ≡ 0

pub pushed : (v : ℕ) (l : Arc) (rs : List Row) → Pushed v l rs
unfolding amount
pushed v l rs =
    ⊎_elim
    (λ (e : lab rs v ≡ lab rs (other v l) + 1).
    let b = eq-eqb (lab rs v) (lab rs (other v l) + 1) e in
    record { in_hand = rw b (omega arith); in_room = rw b (omega arith); falls = λ q. e; most = λ q. rw b; none = λ q. absurd (q e) })
    (λ (e : lab rs v ≡ lab rs (other v l) + 1 → ⊥).
    let b = ne_eqb (lab rs v) (lab rs (other v l) + 1) e in
    record { in_hand = rw b (omega arith); in_room = rw b (omega arith); falls = λ q. absurd (omega (arith, (let z : 0 < 0 = rw b at q in z))); most = λ q. absurd (e q); none = λ q. rw b })
    (cases_eq (lab rs v) (lab rs (other v l) + 1))
