-- A scan may stop when the excess is zero.
use Rattle.std.proofs.Common.{◌≡◌, ℕ, ◌+◌, ◌-◌, Bool, true, false, not, ◌&&◌, List, [], ◌∷◌, refl, ap, ⊎_elim, arith}
use Rattle.std.proofs.lemmas.Bool.{cases_eq, eq-eqb, ne_eqb}
use Rattle.plant.specs.Held.{Arc}
use Rattle.stage.specs.declared.Row.{Row}
use Rattle.stage.specs.Model.{active, amount, moved, wakes}
use Rattle.plant.specs.Held.{other, shift}
use Rattle.stage.specs.Laws.{ScanStops}
use Rattle.stage.proofs.Rows.{sent_none}
use Rattle.stage.proofs.Ends.{pushed}

-- a push of nothing changes nothing and wakes nobody
pub record Still (s t v : ℕ) (l : Arc) (rs : List Row) : Type 0 where
  pub arc : shift v (amount v l rs) l ≡ l
  pub rows : moved v l rs ≡ rs
  pub none : wakes s t v l rs ≡ false

pub still : (s t v : ℕ) (l : Arc) (rs : List Row) → amount v l rs ≡ 0 → Still s t v l rs
unfolding wakes
still s t v l rs e =
    let m : moved v l rs ≡ rs = rw e (sent_none v (other v l) rs) in
    record { arc = rw e (unshifted v l); rows = m; none = rw m (apart (active s t rs (other v l))) }
  where
    apart : (b : Bool) → (b && not b) ≡ false
    apart true = refl
    apart false = refl

    unshifted : (v : ℕ) (l : Arc) → shift v 0 l ≡ l
    unshifted v l = ⊎_elim
        (λ (q : l.line.from ≡ v). let f : l.flow + 0 ≡ l.flow = omega arith in rw (eq-eqb l.line.from v q, f))
        (λ (q : l.line.from ≡ v → ⊥). let f : l.flow - 0 ≡ l.flow = omega arith in rw (ne_eqb l.line.from v q, f))
        (cases_eq l.line.from v)

pub scan_stops : ScanStops
scan_stops s t v [] rs e = (refl, refl, refl)
scan_stops s t v (l ∷ ls) rs e =
    let m = still s t v l rs (omega (arith, (pushed v l rs).in_hand)) in
    let i = scan_stops s t v ls rs e in
    (rw (m.rows, m.arc) (ap (λ x. l ∷ x) i.0), rw m.rows i.1, rw (m.none, m.rows) i.2)
