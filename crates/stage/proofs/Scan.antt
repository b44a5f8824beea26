-- What a scan of the lines keeps.
use Rattle.std.proofs.Common.{◌≡◌, ℕ, ◌+◌, ◌-◌, ◌<◌, ◌≤◌, min, List, [], ◌∷◌, length, pos, ◌≤ℤ◌, refl, ap, ◌∙◌, ⊎_elim, arith}
use borrow.Author.Differences.{up}
use Rattle.std.specs.List.{AllByRecursion}
use Rattle.std.proofs.lemmas.Int.{ints}
use Rattle.std.proofs.lemmas.Bool.{cases_eq, eq-eqb, ne_eqb}
use Rattle.plant.specs.Held.{Arc}
use Rattle.stage.specs.declared.Row.{Row}
use Rattle.stage.specs.Model.{exc, lab, amount, moved, scan_arcs, scan_rows}
use Rattle.plant.specs.Held.{residual, other, shift}
use Rattle.stage.specs.States.{SoundArc, Valid}
use Rattle.stage.proofs.Rows.{one_sided, length_sent, lab_sent}
use Rattle.stage.proofs.Ends.{valid_shift, pushed}
use Rattle.stage.proofs.Sweeps.{sent_by, swept_given}

pub amount_fits : (v : ℕ) (l : Arc) (rs : List Row) → amount v l rs ≤ residual v l
amount_fits v l rs = (pushed v l rs).in_room

pub scan_valid : (n v : ℕ) (h : ℕ → ℕ) (ls : List Arc) (rs : List Row) → ((x : ℕ) → lab rs x ≡ h x) → AllByRecursion (SoundArc n) ls → AllByRecursion (Valid h) ls → AllByRecursion (Valid h) (scan_arcs v ls rs)
scan_valid n v h [] rs e s st = tt
scan_valid n v h (l ∷ ls) rs e s st =
    let p = pushed v l rs in (
      valid_shift n v (amount v l rs) h l s.0 st.0 p.in_room (λ z. omega (arith, p.falls z, e v, e (other v l))),
      scan_valid n v h ls (moved v l rs) (λ x. lab_sent v (other v l) (amount v l rs) rs x ∙ e x) s.1 st.1,
    )

-- v gives no more than it has
pub scan_kept : (n v : ℕ) (ls : List Arc) (rs : List Row) → length rs ≡ n → v < n → AllByRecursion (SoundArc n) ls → pos 0 ≤ℤ exc rs v → pos 0 ≤ℤ exc (scan_rows v ls rs) v
scan_kept n v [] rs e k s q = q
scan_kept n v (l ∷ ls) rs e k s q =
    let m = sent_by n v (amount v l rs) l rs e k s.0 in
    scan_kept n v ls (moved v l rs) (length_sent v (other v l) (amount v l rs) rs ∙ e) k s.1
    (omega (arith, ints, m.giver, (pushed v l rs).in_hand, one_sided (exc rs v)))

-- where excess is left, no further push is possible
abbrev pub Spent : (ℕ → ℕ) → ℕ → Arc → Type 0
Spent h v l = 0 < residual v l → h v ≡ h (other v l) + 1 → ⊥

residual_shift : (n v d : ℕ) (l : Arc) → SoundArc n l → d ≤ residual v l → (residual v (shift v d l) ≡ residual v l - d) × (other v (shift v d l) ≡ other v l)
residual_shift n v d l s k =
    ⊎_elim
    (λ (e : l.line.from ≡ v). let b = eq-eqb l.line.from v e in (rw b (omega arith), refl))
    (λ (e : l.line.from ≡ v → ⊥). let b = ne_eqb l.line.from v e in
    ⊎_elim
    (λ (f : l.line.to ≡ v). let c = eq-eqb l.line.to v f in (rw (b, c) (omega arith), refl))
    (λ (f : l.line.to ≡ v → ⊥). let c = ne_eqb l.line.to v f in (rw (b, c) (omega arith), refl))
    (cases_eq l.line.to v))
    (cases_eq l.line.from v)

pub scan_spent : (n v : ℕ) (h : ℕ → ℕ) (ls : List Arc) (rs : List Row) → ((x : ℕ) → lab rs x ≡ h x) → length rs ≡ n → v < n → AllByRecursion (SoundArc n) ls →
    0 < up (exc (scan_rows v ls rs) v) → AllByRecursion (Spent h v) (scan_arcs v ls rs)
scan_spent n v h [] rs e z k s q = tt
scan_spent n v h (l ∷ ls) rs e z k s q =
    let d = amount v l rs in
    let p = pushed v l rs in
    let m = sent_by n v (amount v l rs) l rs z k s.0 in
    let z' : length (moved v l rs) ≡ n = length_sent v (other v l) (amount v l rs) rs ∙ z in
    let r = swept_given v (amount v) n ls (moved v l rs) z' k s.1 in
    let g = residual_shift n v d l s.0 p.in_room in
    let left : d < up (exc rs v) = omega (arith, ints, r.fewer, m.giver, q, one_sided (exc (scan_rows v ls (moved v l rs)) v)) in (
      (λ x y.
          let o : h (other v (shift v d l)) ≡ h (other v l) = ap h g.1 in
          let f : d ≡ min (up (exc rs v)) (residual v l) = p.most (omega (arith, e v, e (other v l))) in
          omega (arith, g.0)),
      scan_spent n v h ls (moved v l rs) (λ x. lab_sent v (other v l) (amount v l rs) rs x ∙ e x) z' k s.1 q,
    )
