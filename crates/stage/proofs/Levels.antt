-- A free level parts the junctions.
use Rattle.std.proofs.Common.{◌≡◌, ℕ, ◌+◌, ◌*◌, ◌<◌, ◌≤◌, true, ltb, ◌≢◌, List, [], ◌∷◌, map, length, ap, ◌∙◌, ⊎_elim, arith}
use Rattle.std.specs.List.{AllByRecursion}
use Rattle.std.proofs.lemmas.List.{length-map, get_or-map}
use Rattle.std.proofs.ByRecursion.{All-get_or}
use Rattle.std.proofs.lemmas.Bool.{cases_lt, ltb-true, ltb-false, lt-ltb, le-ltb}
use Rattle.plant.specs.Plants.{Junctions, low_of, high_of}
use Rattle.plant.specs.Held.{Arc, lines_of}
use Rattle.stage.specs.declared.Row.{Row}
use Rattle.stage.specs.Model.{row0, lab, come, gone}
use Rattle.stage.specs.States.{SoundArc, Valid, Tight, Balanced, Standing}
use Rattle.stage.specs.Laws.{StartParted}
use Rattle.stage.proofs.Gap.{gap}
use Rattle.stage.proofs.Cuts.{no_excess}

-- the junctions with a label above g
abbrev above : List Row → ℕ → Junctions
above rs g u = ltb g (lab rs u)

-- a level from a to a + n that is the label of no junction
free_level : (n a : ℕ) (rs : List Row) → length rs ≡ n → (g : ℕ) × (a ≤ g) × (g ≤ a + n) × ((u : ℕ) → u < n → lab rs u ≡ g → ⊥)
free_level n a rs e =
    let hs : List ℕ = map (λ (r : Row). r.label) rs in
    let k : length hs ≡ length rs = length-map rs (λ (r : Row). r.label) in
    let r = gap n a hs (omega arith) in (
      r.0,
      r.1,
      r.2,
      λ u h q.
          All-get_or (λ x. x ≡ r.0 → ⊥) hs u 0 (omega arith) r.3 (get_or-map (λ (r : Row). r.label) rs u row0 0 (omega arith) ∙ q),
    )

tight : (n g : ℕ) (rs : List Row) (l : Arc) → ((u : ℕ) → u < n → lab rs u ≡ g → ⊥) → SoundArc n l → Valid (lab rs) l → Tight (above rs g) l
tight n g rs l none s h =
    record {
      out = λ x y.
          let p : g < lab rs l.line.from = ltb-true g (lab rs l.line.from) x in
          let q : lab rs l.line.to ≤ g = ltb-false g (lab rs l.line.to) y in
          let r : lab rs l.line.to ≡ g → ⊥ = none l.line.to s.sound.to_in in
          ⊎_elim (λ (f : l.flow < high_of l.line). absurd (omega (arith, h.on f))) (λ (f : high_of l.line ≤ l.flow). omega (arith, s.below)) (cases_lt l.flow (high_of l.line));
      back = λ x y.
          let p : g < lab rs l.line.to = ltb-true g (lab rs l.line.to) x in
          let q : lab rs l.line.from ≤ g = ltb-false g (lab rs l.line.from) y in
          let r : lab rs l.line.from ≡ g → ⊥ = none l.line.from s.sound.from_in in
          ⊎_elim (λ (f : low_of l.line < l.flow). absurd (omega (arith, h.back f))) (λ (f : l.flow ≤ low_of l.line). omega (arith, s.above)) (cases_lt (low_of l.line) l.flow);
    }

all_tight : (n g : ℕ) (rs : List Row) (ls : List Arc) → ((u : ℕ) → u < n → lab rs u ≡ g → ⊥) → AllByRecursion (SoundArc n) ls → AllByRecursion (Valid (lab rs)) ls → AllByRecursion (Tight (above rs g)) ls
all_tight n g rs [] none s h = tt
all_tight n g rs (l ∷ ls) none s h = (tight n g rs l none s.0 h.0, all_tight n g rs ls none s.1 h.1)

pub start_parted : StartParted
start_parted n s t ls rs st =
    let f = free_level n 0 rs st.size in
    let g : ℕ = f.0 in (
      above rs g,
      lt-ltb g (lab rs s) (omega (arith, f.2, f.3 s st.start_in)),
      le-ltb g (lab rs t) (omega arith),
      all_tight n g rs ls f.3 st.lines st.valid,
    )

-- A junction with excess has a label below 2n.
pub labels_bounded : (n s t : ℕ) (ls ms : List Arc) (rs : List Row) → Standing n s t ls rs → Balanced n s t ms → lines_of ls ≡ lines_of ms →
    ((u : ℕ) → u < n → u ≢ s → u ≢ t → gone ls u ≤ come ls u) →
    (v : ℕ) → v < n → v ≢ s → v ≢ t → gone ls v < come ls v → lab rs v < 2 * n
labels_bounded n s t ls ms rs st bal alike pre v k vs vt ex =
    let f = free_level n n rs st.size in
    let g : ℕ = f.0 in
    ⊎_elim
    (λ (b : lab rs v < 2 * n). b)
    (λ (b : 2 * n ≤ lab rs v).
    let off-s : (u : ℕ) → above rs g u ≡ true → u ≡ s → ⊥ = λ u x e.
    let p : g < lab rs u = ltb-true g (lab rs u) x in
    omega (arith, f.1, ap (lab rs) e, st.start_label) in
    let off-t : (u : ℕ) → above rs g u ≡ true → u ≡ t → ⊥ = λ u x e.
    let p : g < lab rs u = ltb-true g (lab rs u) x in
    omega (arith, f.1, ap (lab rs) e, st.goal_label) in
    let c : come ls v ≤ gone ls v =
    no_excess n (above rs g) ls ms st.lines bal.lines alike (all_tight n g rs ls f.3 st.lines st.valid)
    (λ u j x. bal.even u j (off-s u x) (off-t u x))
    (λ u j x. pre u j (off-s u x) (off-t u x))
    v k (lt-ltb g (lab rs v) (omega (arith, f.2, f.3 v k))) in
    absurd (omega arith))
    (cases_lt (lab rs v) (2 * n))
