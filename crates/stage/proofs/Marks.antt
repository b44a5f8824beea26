-- Pushes that leave no residual are few.
use Rattle.std.proofs.Common.{◌≡◌, ℕ, ◌+◌, ◌*◌, ◌<◌, ◌≤◌, cond, eqb, ltb, ◌⊎◌, List, [], ◌∷◌, length, refl, ap, ◌∙◌, ⊎_elim, add-mul, one-mul, arith}
use Rattle.std.specs.List.{AllByRecursion}
use Rattle.std.proofs.lemmas.Bool.{cases_lt, eq-eqb, ne_eqb, lt-ltb, le-ltb}
use Rattle.plant.specs.Plants.{low_of, high_of}
use Rattle.plant.specs.Held.{Arc}
use Rattle.stage.specs.declared.Row.{Row}
use Rattle.stage.specs.Model.{lab, amount, moved, scan_arcs}
use Rattle.plant.specs.Held.{residual, other, shift}
use Rattle.stage.specs.States.{SoundArc}
use Rattle.stage.proofs.Rows.{lab_sent}
use Rattle.stage.proofs.Ends.{Leaves, Enters, Apart, lies, pushed}

-- 1 for a push that leaves no residual, 0 for another and for none
unfoldable pub sat : ℕ → Arc → List Row → ℕ
sat v l rs = cond (ltb 0 (amount v l rs)) (cond (eqb (amount v l rs) (residual v l)) 1 0) 0

-- how many of them a scan makes
abbrev pub scan_sats : ℕ → List Arc → List Row → ℕ
scan_sats v [] rs = 0
scan_sats v (l ∷ ls) rs = sat v l rs + scan_sats v ls (moved v l rs)

-- a count for each line, and the counts after a scan
abbrev pub scan_marks : ℕ → List Arc → List Row → List ℕ → List ℕ
scan_marks v [] rs cs = []
scan_marks v (l ∷ ls) rs [] = []
scan_marks v (l ∷ ls) rs (c ∷ cs) = (c + sat v l rs) ∷ scan_marks v ls (moved v l rs) cs

abbrev pub total : List ℕ → ℕ
total [] = 0
total (c ∷ cs) = c + total cs

-- a count that is at most the label at the far end of each residual of the line
pub record Mark (n : ℕ) (h : ℕ → ℕ) (l : Arc) (c : ℕ) : Type 0 where
  pub on : l.flow < high_of l.line → c ≤ h l.line.to
  pub back : low_of l.line < l.flow → c ≤ h l.line.from
  pub few : c < 2 * n

abbrev pub Marked : ℕ → (ℕ → ℕ) → List Arc → List ℕ → Type 0
Marked n h [] [] = Unit {0}
Marked n h [] (c ∷ cs) = ⊥
Marked n h (l ∷ ls) [] = ⊥
Marked n h (l ∷ ls) (c ∷ cs) = Mark n h l c × Marked n h ls cs

pub record Sat (v : ℕ) (l : Arc) (rs : List Row) : Type 0 where
  pub none : amount v l rs ≡ 0 → sat v l rs ≡ 0
  pub one : 0 < amount v l rs → amount v l rs ≡ residual v l → sat v l rs ≡ 1
  pub part : amount v l rs < residual v l → sat v l rs ≡ 0

pub sat_is : (v : ℕ) (l : Arc) (rs : List Row) → Sat v l rs
unfolding sat
sat_is v l rs =
    let d = amount v l rs in
    record {
      none = λ q. rw (le-ltb 0 d (omega arith));
      one = λ q e. rw (lt-ltb 0 d q, eq-eqb d (residual v l) e);
      part = λ q. ⊎_elim
          (λ (z : 0 < d). rw (lt-ltb 0 d z, ne_eqb d (residual v l) (omega arith)))
          (λ (z : d ≤ 0). rw (le-ltb 0 d z))
          (cases_lt 0 d);
    }

mark_shift : (n v c : ℕ) (h : ℕ → ℕ) (l : Arc) (rs : List Row) → ((x : ℕ) → lab rs x ≡ h x) → ((x : ℕ) → x < n → h x < 2 * n) → v < n → SoundArc n l → Mark n h l c →
    Mark n h (shift v (amount v l rs) l) (c + sat v l rs)
mark_shift n v c h l rs e roof k s m =
    let d = amount v l rs in
    let p = pushed v l rs in
    let a = sat_is v l rs in
    let f : 0 < d → h v ≡ h (other v l) + 1 = λ z. omega (arith, p.falls z, e v, e (other v l)) in
    ⊎_elim
    (λ (w : Leaves v l).
    let hv : h l.line.from ≡ h v = ap h w.here in
    let hw : h (other v l) ≡ h l.line.to = ap h w.end in
    let fl = w.flows d in
    ⊎_elim
    (λ (z : 0 < d).
    let g = f z in
    let c₀ : c ≤ h l.line.to = m.on (omega (arith, p.in_room, w.room)) in
    ⊎_elim
    (λ (y : d < residual v l).
    let b = a.part y in
    record { on = λ q. omega arith; back = λ q. omega arith; few = omega (arith, m.few) })
    (λ (y : residual v l ≤ d).
    let b = a.one z (omega (arith, p.in_room)) in
    record { on = λ q. absurd (omega (arith, w.room, s.below)); back = λ q. omega arith; few = omega (arith, roof v k) })
    (cases_lt d (residual v l)))
    (λ (z : d ≤ 0).
    let b = a.none (omega arith) in
    record { on = λ q. omega (arith, m.on (omega arith)); back = λ q. omega (arith, m.back (omega arith)); few = omega (arith, m.few) })
    (cases_lt 0 d))
    (λ (o : Enters v l ⊎ Apart v l). ⊎_elim
    (λ (w : Enters v l).
    let hv : h l.line.to ≡ h v = ap h w.here in
    let hw : h (other v l) ≡ h l.line.from = ap h w.end in
    let fl = w.flows d in
    ⊎_elim
    (λ (z : 0 < d).
    let g = f z in
    let c₀ : c ≤ h l.line.from = m.back (omega (arith, p.in_room, w.room)) in
    ⊎_elim
    (λ (y : d < residual v l).
    let b = a.part y in
    record { on = λ q. omega arith; back = λ q. omega arith; few = omega (arith, m.few) })
    (λ (y : residual v l ≤ d).
    let b = a.one z (omega (arith, p.in_room)) in
    record { on = λ q. omega arith; back = λ q. absurd (omega (arith, w.room, s.above)); few = omega (arith, roof v k) })
    (cases_lt d (residual v l)))
    (λ (z : d ≤ 0).
    let b = a.none (omega arith) in
    record { on = λ q. omega (arith, m.on (omega arith)); back = λ q. omega (arith, m.back (omega arith)); few = omega (arith, m.few) })
    (cases_lt 0 d))
    (λ (w : Apart v l).
    let fl = w.flows d in
    let d₀ : d ≡ 0 = omega (arith, p.in_room, w.room) in
    let b = a.none d₀ in
    record { on = λ q. omega (arith, m.on (omega arith)); back = λ q. omega (arith, m.back (omega arith)); few = omega (arith, m.few) })
    o)
    (lies n v l s)

pub scan_marked : (n v : ℕ) (h : ℕ → ℕ) (ls : List Arc) (rs : List Row) (cs : List ℕ) → ((x : ℕ) → lab rs x ≡ h x) → ((x : ℕ) → x < n → h x < 2 * n) → v < n → AllByRecursion (SoundArc n) ls →
    Marked n h ls cs → Marked n h (scan_arcs v ls rs) (scan_marks v ls rs cs) × (total (scan_marks v ls rs cs) ≡ total cs + scan_sats v ls rs)
scan_marked n v h [] rs [] e roof k s m = (tt, refl)
scan_marked n v h [] rs (c ∷ cs) e roof k s m = absurd m
scan_marked n v h (l ∷ ls) rs [] e roof k s m = absurd m
scan_marked n v h (l ∷ ls) rs (c ∷ cs) e roof k s m =
    let r = scan_marked n v h ls (moved v l rs) cs (λ x. lab_sent v (other v l) (amount v l rs) rs x ∙ e x) roof k s.1 m.1 in
    ((mark_shift n v c h l rs e roof k s.0 m.0, r.0), omega (arith, r.1))

-- labels that only grow keep the marks
pub marked_grows : (n : ℕ) (h h' : ℕ → ℕ) (ls : List Arc) (cs : List ℕ) → ((x : ℕ) → h x ≤ h' x) → Marked n h ls cs → Marked n h' ls cs
marked_grows n h h' [] [] g m = tt
marked_grows n h h' [] (c ∷ cs) g m = absurd m
marked_grows n h h' (l ∷ ls) [] g m = absurd m
marked_grows n h h' (l ∷ ls) (c ∷ cs) g m = (
  record { on = λ q. omega (arith, m.0.on q, g l.line.to); back = λ q. omega (arith, m.0.back q, g l.line.from); few = m.0.few },
  marked_grows n h h' ls cs g m.1,
)

pub marked_total : (n k : ℕ) (h : ℕ → ℕ) (ls : List Arc) (cs : List ℕ) → 2 * n ≡ k + 1 → Marked n h ls cs → total cs ≤ length ls * k
marked_total n k h [] [] e m = omega arith
marked_total n k h [] (c ∷ cs) e m = absurd m
marked_total n k h (l ∷ ls) [] e m = absurd m
marked_total n k h (l ∷ ls) (c ∷ cs) e m =
    let a : (1 + length ls) * k ≡ k + length ls * k = add-mul 1 (length ls) k ∙ ap (λ x. x + length ls * k) (one-mul k) in
    let b : length (l ∷ ls) * k ≡ (1 + length ls) * k = ap (λ x. x * k) (omega arith) in
    omega (arith, marked_total n k h ls cs e m.1, m.0.few)
