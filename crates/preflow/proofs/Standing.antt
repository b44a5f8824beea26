-- The numbers of a stage that stands leave room to add.
use Rattle.std.proofs.Common.{◌≡◌, ℕ, ◌*◌, ◌^◌, ◌<◌, ◌≤◌, true, List, length, ap, ⊎_elim, arith}
use Rattle.std.specs.List.{AllByRecursion}
use Rattle.std.proofs.lemmas.List.{get_or_past, take_all}
use Rattle.std.proofs.lemmas.Int.{ints}
use Rattle.std.proofs.lemmas.Bool.{cases_lt}
use Rattle.plant.specs.Held.{Arc, lines_of}
use Rattle.plant.specs.Plants.{every, high_of, summed}
use Rattle.stage.specs.declared.Row.{Row}
use Rattle.stage.specs.Model.{State, active, amount, begun_arcs, begun_rows, discharged_arcs, discharged_rows, first_rows, lab, row0, scan_arcs, scan_rows, whole}
use Rattle.stage.specs.States.{Balanced, Bounded, Holds, SoundArc}
use Rattle.stage.proofs.Actives.{active_true}
use Rattle.stage.proofs.Begins.{beginning_holds, first}
use Rattle.stage.proofs.Bounds.{excess_bounded}
use Rattle.stage.proofs.Firsts.{first_bounded}
use Rattle.stage.proofs.Halves.{Half, half_bounded}
use Rattle.stage.proofs.Keeps.{kept, scan_holds}
use Rattle.stage.proofs.Sweeps.{swept_lines}
use Rattle.preflow.specs.Stages.{Light, Roomy, Stands}

pub weaker : (b d : ℕ) (rs : List Row) → b ≤ d → Bounded b rs → Bounded d rs
weaker b d rs k h u = (omega (arith, ints, (h u).0), omega (arith, ints, (h u).1))

-- labels below 2n, and none where there is no row
pub low_labels : (n : ℕ) (rs : List Row) → n ≤ 252 → length rs ≡ n → ((u : ℕ) → u < n → lab rs u < 2 * n) → (u : ℕ) → lab rs u < 2 ^ 31
low_labels n rs cap e roof u =
    ⊎_elim
    (λ (k : u < n). omega (arith, roof u k))
    (λ (k : n ≤ u). omega (arith, ap (λ (r : Row). r.label) (get_or_past rs u row0 (omega arith))))
    (cases_lt u n)

pub roomy : (n s t : ℕ) (ms ls : List Arc) (rs : List Row) → n ≤ 252 → Holds n s t ms ls rs → Light ls → Roomy rs
roomy n s t ms ls rs cap h light =
    record { bounded = weaker (summed every high_of (lines_of ls)) (2 ^ 40) rs light (excess_bounded n s t ms ls rs h); labels = low_labels n rs cap h.standing.size h.roof }

-- the sum of the highs stays
pub light_still : (ls ls' : List Arc) → lines_of ls' ≡ lines_of ls → Light ls → Light ls'
light_still ls ls' e h = omega (arith, ap (summed every high_of) e)

-- in the midst of a scan
pub scan_roomy : (n s t v k : ℕ) (ms ls₀ : List Arc) (rs₀ : List Row) (ls : List Arc) (rs : List Row) → n ≤ 252 → Holds n s t ms ls₀ rs₀ → Light ls₀ → active s t rs₀ v ≡ true →
    Half v (amount v) k ls₀ rs₀ ls rs → Roomy rs
scan_roomy n s t v k ms ls₀ rs₀ ls rs cap h light on half =
    let w = active_true n s t rs₀ v h.standing.size on in
    let r₀ = roomy n s t ms ls₀ rs₀ cap h light in
    let r₁ = roomy n s t ms (scan_arcs v ls₀ rs₀) (scan_rows v ls₀ rs₀) cap (scan_holds n s t ms ls₀ rs₀ v h w) (light_still ls₀ (scan_arcs v ls₀ rs₀) (swept_lines v (amount v) ls₀ rs₀) light) in
    record {
      bounded = half_bounded v (amount v) (2 ^ 40) k ls₀ rs₀ ls rs (omega (arith, w.inside, h.standing.size)) r₀.bounded r₁.bounded half;
      labels = λ u. omega (arith, half.labels u, r₀.labels u);
    }

-- in the midst of the beginning
pub begin_bounded : (n s t k : ℕ) (ls₀ : List Arc) (rs₀ : List Row) (ls : List Arc) (rs : List Row) → n ≤ 252 → s < n → t < n → (s ≡ t → ⊥) → Balanced n s t ls₀ → Light ls₀ →
    rs₀ ≡ first_rows n s ls₀ → Half s (whole s) k ls₀ rs₀ ls rs → Bounded (2 ^ 40) rs
begin_bounded n s t k ls₀ rs₀ ls rs cap js jt differ bal light e half =
    let h = beginning_holds n s t ls₀ js jt differ bal in
    let rs₁ = begun_rows s ls₀ (first_rows n s ls₀) in
    let b₀ = excess_start in
    let b₁ = (roomy n s t ls₀ (begun_arcs s ls₀ (first_rows n s ls₀)) rs₁ cap h (light_still ls₀ (begun_arcs s ls₀ (first_rows n s ls₀)) (swept_lines s (whole s) ls₀ (first_rows n s ls₀)) light)).bounded in
    let half' : Half s (whole s) k ls₀ (first_rows n s ls₀) ls rs = rw e at half in
    half_bounded s (whole s) (2 ^ 40) k ls₀ (first_rows n s ls₀) ls rs (omega (arith, (first n s ls₀).size)) b₀ b₁ half'
  where
    excess_start : Bounded (2 ^ 40) (first_rows n s ls₀)
    excess_start = weaker (summed every high_of (lines_of ls₀)) (2 ^ 40) (first_rows n s ls₀) light (rw (take_all (length ls₀) ls₀ (omega arith)) at (first_bounded n s (length ls₀) ls₀ bal.lines))

-- after a discharge
pub discharged_stands : (n s t v : ℕ) (st : State) → Stands n s t st → active s t st.rows v ≡ true →
    Stands n s t (record { arcs = discharged_arcs v st.arcs st.rows; rows = discharged_rows n v st.arcs st.rows })
discharged_stands n s t v st h on =
    record {
      flow = h.flow;
      holds = (kept n s t h.flow st.arcs st.rows v h.holds (active_true n s t st.rows v h.holds.standing.size on)).holds;
      light = light_still st.arcs (discharged_arcs v st.arcs st.rows) (swept_lines v (amount v) st.arcs st.rows) h.light;
    }

-- after the beginning
pub begun_stands : (n s t : ℕ) (ls : List Arc) → s < n → t < n → (s ≡ t → ⊥) → Balanced n s t ls → Light ls →
    Stands n s t (record { arcs = begun_arcs s ls (first_rows n s ls); rows = begun_rows s ls (first_rows n s ls) })
begun_stands n s t ls js jt differ bal light =
    record {
      flow = ls;
      holds = beginning_holds n s t ls js jt differ bal;
      light = light_still ls (begun_arcs s ls (first_rows n s ls)) (swept_lines s (whole s) ls (first_rows n s ls)) light;
    }

pub sound_like : (n m : ℕ) (ls ls' : List Arc) → n ≡ m → ls ≡ ls' → AllByRecursion (SoundArc m) ls' → AllByRecursion (SoundArc n) ls
sound_like n m ls ls' e f a = rw (e, f) a

pub light_like : (ls ls' : List Arc) → ls ≡ ls' → Light ls' → Light ls
light_like ls ls' e h = rw e h
