-- The first rows as the code makes them.
use Rattle.std.proofs.Common.{◌≡◌, ℕ, ◌+◌, ◌^◌, ◌<◌, ◌≤◌, List, [], length, get_or, take, replicate, refl, ap, ◌∙◌, ⊎_elim, arith}
use Rattle.std.specs.List.{AllByRecursion}
use Rattle.std.proofs.lemmas.List.{length-map, length-replicate, take_all, get_or-replicate, get_or-set_same, get_or-set_other}
use Rattle.std.proofs.lemmas.Bool.{cases_eq, eq-eqb, ne_eqb}
use Rattle.plant.specs.declared.held.HeldLine.{HeldLine}
use Rattle.plant.specs.Held.{arc, arcs, lines_of}
use Rattle.plant.specs.Plants.{every, high_of, summed}
use Rattle.stage.specs.declared.Row.{Row}
use Rattle.stage.specs.Model.{exc, first_rows, labelled, row0, sent}
use Rattle.stage.specs.States.{Bounded, SoundArc}
use Rattle.stage.proofs.Begins.{rows_first}
use Rattle.stage.proofs.Firsts.{first_bounded, first_more}
use Rattle.stage.proofs.Rows.{length_labelled}
use Rattle.preflow.specs.Stages.{Light}
use Rattle.preflow.proofs.Scans.{item_all, item_is}
use Rattle.preflow.proofs.Standing.{weaker}

-- blank rows, with label n at s
pub first_none : (n s : ℕ) (rs : List Row) → s < n → rs ≡ replicate n row0 → labelled s n rs ≡ first_rows n s []
first_none n s rs j blank =
    rows_first n s [] (labelled s n rs) (length_labelled rs s n ∙ size)
    (λ u i. ⊎_elim
    (λ (q : u ≡ s).
    let x : exc rs s ≡ row0.excess = ap (λ (r : Row). r.excess) (at s j) in
    rw (q, eq-eqb s s refl) (get_or-set_same rs s (record { excess = exc rs s; label = n }) row0 (omega (arith, size)) ∙ rw x refl))
    (λ (q : u ≡ s → ⊥). rw (ne_eqb u s q) (get_or-set_other rs s u (record { excess = exc rs s; label = n }) row0 q ∙ at u i))
    (cases_eq u s))
  where
    size : length rs ≡ n
    size = ap length blank ∙ length-replicate n row0

    at : (u : ℕ) → u < n → get_or rs u row0 ≡ row0
    at u i = ap (λ (xs : List Row). get_or xs u row0) blank ∙ get_or-replicate n u row0 row0 i

-- one line more
pub first_step : (hs : List HeldLine) (i : ℕ) (x : HeldLine) → i < length hs → x ≡ get_or hs i x → (n s : ℕ) (rs rs' : List Row) → AllByRecursion (SoundArc n) (arcs hs) →
    rs ≡ first_rows n s (take i (arcs hs)) → rs' ≡ sent x.line.from x.line.to x.flow rs → rs' ≡ first_rows n s (take (i + 1) (arcs hs))
first_step hs i x j e n s rs rs' all q r =
    r ∙ ap (sent x.line.from x.line.to x.flow) q
    ∙ first_more n s i (arcs hs) (arc x) (rw (length-map hs arc) j) (item_is hs i x j e) (item_all hs i x j e (SoundArc n) all)

-- all lines
pub first_all : (hs : List HeldLine) (i n s : ℕ) (rs : List Row) → length hs ≤ i → rs ≡ first_rows n s (take i (arcs hs)) → rs ≡ first_rows n s (arcs hs)
first_all hs i n s rs j q = q ∙ ap (first_rows n s) (take_all i (arcs hs) (rw (length-map hs arc) j))

-- the rows so far are bounded
pub first_small : (hs : List HeldLine) (i n s : ℕ) (rs : List Row) → AllByRecursion (SoundArc n) (arcs hs) → Light (arcs hs) → rs ≡ first_rows n s (take i (arcs hs)) → Bounded (2 ^ 40) rs
first_small hs i n s rs all light q =
    rw q (weaker (summed every high_of (lines_of (arcs hs))) (2 ^ 40) (first_rows n s (take i (arcs hs))) light (first_bounded n s i (arcs hs) all))
