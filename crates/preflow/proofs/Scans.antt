-- A scan in its midst, beside a chooser.
use Rattle.std.proofs.Common.{◌≡◌, ℕ, ◌+◌, ◌<◌, ◌≤◌, Bool, List, [], ◌∷◌, ◌++◌, length, get_or, drop, set, sym, refl, ap, ◌∙◌, add-one}
use borrow.Author.Differences.{up}
use Rattle.std.specs.List.{AllByRecursion}
use Rattle.std.proofs.lemmas.List.{drop_all, drop_more, get_or-map, length-map, map-set}
use Rattle.std.proofs.ByRecursion.{All-get_or}
use Rattle.plant.specs.declared.held.HeldLine.{HeldLine}
use Rattle.plant.specs.Held.{Arc, arc, arcs, other, shift}
use Rattle.stage.specs.declared.Row.{Row}
use Rattle.stage.specs.Model.{active, amount, begin_puts, exc, lab, lower, lowest, moved, put_if, scan_arcs, scan_puts, scan_rows, sent, wakes}
use Rattle.stage.specs.Runs.{PutAll}
use Rattle.stage.specs.States.{SoundArc}
use Rattle.stage.proofs.Chains.{puts_then}
use Rattle.stage.proofs.Halves.{Half, HalfPuts, half_all, half_here, half_more, half_none, half_puts_all, half_puts_more, half_puts_stops, half_stops}
use Rattle.preflow.specs.Choosers.{Puts}

-- the held line at place k, whatever stands for none
pub held_at : (hs : List HeldLine) (k : ℕ) (x : HeldLine) → k < length hs → (k < length (arcs hs)) × (get_or (arcs hs) k (arc (get_or hs k x)) ≡ arc (get_or hs k x))
held_at hs k x j = (rw (length-map hs arc) j, get_or-map arc hs k x (arc (get_or hs k x)) j)

-- an item of a loop over held lines
module _ (hs : List HeldLine) (i : ℕ) (x : HeldLine) (j : i < length hs) (e : x ≡ get_or hs i x) where
  pub item_is : get_or (arcs hs) i (arc x) ≡ arc x
  item_is = get_or-map arc hs i x (arc x) j ∙ ap arc (sym e)

  pub item_all : (P : Arc → Type 0) → AllByRecursion P (arcs hs) → P (arc x)
  item_all P a = rw item_is at (All-get_or P (arcs hs) i (arc x) (rw (length-map hs arc) j) a)

  pub item_drop : drop i (arcs hs) ≡ arc x ∷ drop (i + 1) (arcs hs)
  item_drop = drop_more (arcs hs) i (arc x) (rw (length-map hs arc) j) ∙ ap (λ y. y ∷ drop (i + 1) (arcs hs)) item_is

  -- the lowest label, one line more
  pub lowest_more : (v : ℕ) (rs : List Row) (best next m : ℕ) → next ≡ lower v (arc x) rs best → lowest v (drop i (arcs hs)) rs best ≡ m → lowest v (drop (i + 1) (arcs hs)) rs next ≡ m
  lowest_more v rs best next m q h = let a : lowest v (arc x ∷ drop (i + 1) (arcs hs)) rs best ≡ m = rw item_drop at h in rw q a

pub arcs_done : (hs : List HeldLine) (i : ℕ) → length hs ≤ i → drop i (arcs hs) ≡ []
arcs_done hs i j = drop_all i (arcs hs) (rw (length-map hs arc) j)

pub lowest_all : (hs : List HeldLine) (i v : ℕ) (rs : List Row) (best m : ℕ) → length hs ≤ i → lowest v (drop i (arcs hs)) rs best ≡ m → best ≡ m
lowest_all hs i v rs best m j h = rw (arcs_done hs i j) at h

module _ (v : ℕ) (d : Arc → List Row → ℕ) (k : ℕ) (ls₀ : List Arc) (rs₀ : List Row) (hs : List HeldLine) (rs : List Row) (x : HeldLine) (j : k < length hs) (h : Half v d k ls₀ rs₀ (arcs hs) rs) where
  -- a sweep of held lines: the line at place k, and one line more
  pub sweep_here : SoundArc (length rs) (arc (get_or hs k x))
  sweep_here = let a = held_at hs k x j in half_here v d k ls₀ rs₀ (arcs hs) rs (arc (get_or hs k x)) a.0 a.1 h

  pub sweep_more : (y : HeldLine) (rs' : List Row) → v < length rs₀ → arc y ≡ shift v (d (arc (get_or hs k x)) rs) (arc (get_or hs k x)) →
      rs' ≡ sent v (other v (arc (get_or hs k x))) (d (arc (get_or hs k x)) rs) rs → Half v d (k + 1) ls₀ rs₀ (arcs (set hs k y)) rs'
  sweep_more y rs' i ey er =
      let a = held_at hs k x j in
      rw (map-set arc hs k y) (half_more v d k ls₀ rs₀ (arcs hs) rs (arc (get_or hs k x)) (arc y) rs' i a.0 a.1 ey er h)

module _ {C : Type 0} (has : C → ℕ → Bool) (puts : C → ℕ → ℕ → C → Type 0) where
  -- v has done k lines, with these puts
  pub record Going (s t v k : ℕ) (ls₀ : List Arc) (rs₀ : List Row) (c₀ : C) (ls : List Arc) (rs : List Row) (c : C) : Type 0 where
    pub half : Half v (amount v) k ls₀ rs₀ ls rs
    pub put : List (ℕ × ℕ)
    pub half_puts : HalfPuts s t v k ls₀ rs₀ ls rs put
    pub made : PutAll (Puts has puts) c₀ put c

  pub going_none : (s t v : ℕ) (ls : List Arc) (rs : List Row) (c : C) → AllByRecursion (SoundArc (length rs)) ls → Going s t v 0 ls rs c ls rs c
  going_none s t v ls rs c a = record { half = half_none v (amount v) ls rs a; put = []; half_puts = refl; made = refl }

  pub going_more : (s t v k : ℕ) (ls₀ : List Arc) (rs₀ : List Row) (c₀ : C) (hs : List HeldLine) (rs : List Row) (c : C) (x y : HeldLine) (rs' : List Row) (c' : C) →
      v < length rs₀ → k < length hs → arc y ≡ shift v (amount v (arc (get_or hs k x)) rs) (arc (get_or hs k x)) → rs' ≡ moved v (arc (get_or hs k x)) rs →
      PutAll (Puts has puts) c (put_if (wakes s t v (arc (get_or hs k x)) rs) (other v (arc (get_or hs k x))) (lab rs (other v (arc (get_or hs k x))))) c' →
      Going s t v k ls₀ rs₀ c₀ (arcs hs) rs c → Going s t v (k + 1) ls₀ rs₀ c₀ (arcs (set hs k y)) rs' c'
  going_more s t v k ls₀ rs₀ c₀ hs rs c x y rs' c' i j ey er p g =
      let a = held_at hs k x j in
      let z : Arc = arc (get_or hs k x) in
      let q = put_if (wakes s t v z rs) (other v z) (lab rs (other v z)) in
      record {
        half = sweep_more v (amount v) k ls₀ rs₀ hs rs x j g.half y rs' i ey er;
        put = g.put ++ q;
        half_puts = rw (map-set arc hs k y) (half_puts_more s t v k ls₀ rs₀ (arcs hs) rs g.put z (arc y) rs' a.0 a.1 er g.half_puts);
        made = puts_then (Puts has puts) g.put q c₀ c c' g.made p;
      }

  -- what a whole scan gives
  pub record Scanned (s t v : ℕ) (ls₀ : List Arc) (rs₀ : List Row) (c₀ : C) (ls : List Arc) (rs : List Row) (c : C) : Type 0 where
    pub arcs_are : ls ≡ scan_arcs v ls₀ rs₀
    pub rows_are : rs ≡ scan_rows v ls₀ rs₀
    pub put : PutAll (Puts has puts) c₀ (scan_puts s t v ls₀ rs₀) c

  pub going_all : (s t v k : ℕ) (ls₀ : List Arc) (rs₀ : List Row) (c₀ : C) (ls : List Arc) (rs : List Row) (c : C) → length ls ≤ k → Going s t v k ls₀ rs₀ c₀ ls rs c →
      Scanned s t v ls₀ rs₀ c₀ ls rs c
  going_all s t v k ls₀ rs₀ c₀ ls rs c j g =
      let a = half_all v (amount v) k ls₀ rs₀ ls rs j g.half in
      let e = half_puts_all s t v k ls₀ rs₀ ls rs g.put j g.half_puts in
      record { arcs_are = a.0; rows_are = a.1; put = rw e at g.made }

  pub going_stops : (s t v k : ℕ) (ls₀ : List Arc) (rs₀ : List Row) (c₀ : C) (ls : List Arc) (rs : List Row) (c : C) → up (exc rs v) ≡ 0 → Going s t v k ls₀ rs₀ c₀ ls rs c →
      Scanned s t v ls₀ rs₀ c₀ ls rs c
  going_stops s t v k ls₀ rs₀ c₀ ls rs c z g =
      let a = half_stops v k ls₀ rs₀ ls rs z g.half in
      let e = half_puts_stops s t v k ls₀ rs₀ ls rs g.put z g.half_puts in
      record { arcs_are = a.0; rows_are = a.1; put = rw e at g.made }

  -- one junction more at the beginning
  pub begin_more : (s t v : ℕ) (rs : List Row) (c₀ c c' : C) → PutAll (Puts has puts) c₀ (begin_puts v s t rs) c →
      PutAll (Puts has puts) c (put_if (active s t rs v) v (lab rs v)) c' → PutAll (Puts has puts) c₀ (begin_puts (v + 1) s t rs) c'
  begin_more s t v rs c₀ c c' p q = rw (add-one v) (puts_then (Puts has puts) (begin_puts v s t rs) (put_if (active s t rs v) v (lab rs v)) c₀ c c' p q)
