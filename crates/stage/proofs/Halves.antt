-- A sweep that has done k lines: what a loop over the lines keeps.
use Rattle.std.proofs.Common.{◌≡◌, ℕ, ◌+◌, ◌<◌, ◌≤◌, List, [], ◌∷◌, ◌++◌, length, get_or, take, drop, set, sym, refl, ap, ◌∙◌, arith}
use borrow.Author.Differences.{up}
use Rattle.std.specs.List.{AllByRecursion}
use Rattle.std.proofs.lemmas.List.{length-set, drop_more, take_more_set, drop-set-lt, append_assoc, append-nil, take_all, drop_all, take-append-drop}
use Rattle.plant.specs.Held.{Arc}
use Rattle.stage.specs.declared.Row.{Row}
use Rattle.stage.specs.Model.{exc, lab, amount, sent, moved, swept_arcs, swept_rows, scan_arcs, scan_rows, wakes, put_if, scan_puts}
use Rattle.plant.specs.Held.{other, shift}
use Rattle.stage.specs.States.{SoundArc, Bounded}
use Rattle.stage.proofs.Rows.{length_sent, lab_sent}
use Rattle.stage.proofs.Sweeps.{Given, given_none, given_then, given_sent, swept_given}
use Rattle.stage.proofs.Bounds.{between_bounded}
use Rattle.stage.proofs.Stops.{scan_stops}

-- v began over ls₀ and rs₀, k lines are done, and ls and rs stand now
pub record Half (v : ℕ) (d : Arc → List Row → ℕ) (k : ℕ) (ls₀ : List Arc) (rs₀ : List Row) (ls : List Arc) (rs : List Row) : Type 0 where
  pub size : length ls ≡ length ls₀
  pub rows_size : length rs ≡ length rs₀
  pub arcs_left : take k ls ++ swept_arcs v d (drop k ls) rs ≡ swept_arcs v d ls₀ rs₀
  pub rows_left : swept_rows v d (drop k ls) rs ≡ swept_rows v d ls₀ rs₀
  pub sound : AllByRecursion (SoundArc (length rs₀)) (drop k ls)
  pub labels : (u : ℕ) → lab rs u ≡ lab rs₀ u
  pub given : Given v rs₀ rs

-- the lines from k on, where x is at place k
drop_at : (ls : List Arc) (k : ℕ) (x : Arc) → k < length ls → get_or ls k x ≡ x → drop k ls ≡ x ∷ drop (k + 1) ls
drop_at ls k x j here = drop_more ls k x j ∙ ap (λ y. y ∷ drop (k + 1) ls) here

module _ (v : ℕ) (d : Arc → List Row → ℕ) where
  pub half_none : (ls : List Arc) (rs : List Row) → AllByRecursion (SoundArc (length rs)) ls → Half v d 0 ls rs ls rs
  half_none ls rs s = record { size = refl; rows_size = refl; arcs_left = refl; rows_left = refl; sound = s; labels = λ u. refl; given = given_none v rs }

  -- one line more, x at place k
  pub half_more : (k : ℕ) (ls₀ : List Arc) (rs₀ : List Row) (ls : List Arc) (rs : List Row) (x l : Arc) (rs' : List Row) → v < length rs₀ → k < length ls → get_or ls k x ≡ x →
      l ≡ shift v (d x rs) x → rs' ≡ sent v (other v x) (d x rs) rs → Half v d k ls₀ rs₀ ls rs → Half v d (k + 1) ls₀ rs₀ (set ls k l) rs'
  half_more k ls₀ rs₀ ls rs x l rs' i j here el er h =
      let w = other v x in
      let rs₁ = sent v w (d x rs) rs in
      let dm : drop k ls ≡ x ∷ drop (k + 1) ls = drop_at ls k x j here in
      let ds : drop (k + 1) (set ls k l) ≡ drop (k + 1) ls = drop-set-lt (k + 1) ls k l (omega arith) in
      let tm : take (k + 1) (set ls k l) ≡ take k ls ++ l ∷ [] = take_more_set ls k l j in
      let all : AllByRecursion (SoundArc (length rs₀)) (x ∷ drop (k + 1) ls) = rw dm at h.sound in
      let ln : take k ls ++ (shift v (d x rs) x ∷ swept_arcs v d (drop (k + 1) ls) rs₁) ≡ swept_arcs v d ls₀ rs₀ = rw dm at h.arcs_left in
      let rn : swept_rows v d (drop (k + 1) ls) rs₁ ≡ swept_rows v d ls₀ rs₀ = rw dm at h.rows_left in
      record {
        size = length-set ls k l ∙ h.size;
        rows_size = ap length er ∙ length_sent v w (d x rs) rs ∙ h.rows_size;
        arcs_left = rw (tm, ds, er, el) (append_assoc (take k ls) (shift v (d x rs) x ∷ []) (swept_arcs v d (drop (k + 1) ls) rs₁) ∙ ln);
        rows_left = rw (ds, er) rn;
        sound = rw ds all.1;
        labels = λ u. ap (λ (r : List Row). lab r u) er ∙ lab_sent v w (d x rs) rs u ∙ h.labels u;
        given = given_then v rs₀ rs rs' h.given (rw er (given_sent (length rs₀) v (d x rs) x rs h.rows_size i all.0));
      }

  -- the line at place k is sound still
  pub half_here : (k : ℕ) (ls₀ : List Arc) (rs₀ : List Row) (ls : List Arc) (rs : List Row) (x : Arc) → k < length ls → get_or ls k x ≡ x → Half v d k ls₀ rs₀ ls rs → SoundArc (length rs) x
  half_here k ls₀ rs₀ ls rs x j here h =
      let all : AllByRecursion (SoundArc (length rs₀)) (x ∷ drop (k + 1) ls) = rw (drop_at ls k x j here) at h.sound in
      rw h.rows_size all.0

  -- rows in the midst are bounded as those before and after are
  pub half_bounded : (b k : ℕ) (ls₀ : List Arc) (rs₀ : List Row) (ls : List Arc) (rs : List Row) → v < length rs₀ → Bounded b rs₀ → Bounded b (swept_rows v d ls₀ rs₀) →
      Half v d k ls₀ rs₀ ls rs → Bounded b rs
  half_bounded b k ls₀ rs₀ ls rs i p q h =
      let g : Given v rs (swept_rows v d (drop k ls) rs) = swept_given v d (length rs₀) (drop k ls) rs h.rows_size i h.sound in
      between_bounded b v rs₀ rs (swept_rows v d ls₀ rs₀) p q h.given (rw h.rows_left at g)

  -- all lines are done
  pub half_all : (k : ℕ) (ls₀ : List Arc) (rs₀ : List Row) (ls : List Arc) (rs : List Row) → length ls ≤ k → Half v d k ls₀ rs₀ ls rs →
      (ls ≡ swept_arcs v d ls₀ rs₀) × (rs ≡ swept_rows v d ls₀ rs₀)
  half_all k ls₀ rs₀ ls rs j h =
      let t : take k ls ≡ ls = take_all k ls j in
      let e : drop k ls ≡ [] = drop_all k ls j in
      let a : ls ++ [] ≡ swept_arcs v d ls₀ rs₀ = rw (t, e) at h.arcs_left in
      let b : rs ≡ swept_rows v d ls₀ rs₀ = rw e at h.rows_left in
      (sym (append-nil ls) ∙ a, b)

-- the excess is spent, so nothing is left to do
pub half_stops : (v k : ℕ) (ls₀ : List Arc) (rs₀ : List Row) (ls : List Arc) (rs : List Row) → up (exc rs v) ≡ 0 → Half v (amount v) k ls₀ rs₀ ls rs →
    (ls ≡ scan_arcs v ls₀ rs₀) × (rs ≡ scan_rows v ls₀ rs₀)
half_stops v k ls₀ rs₀ ls rs e h =
    let q = scan_stops 0 0 v (drop k ls) rs e in
    let a : take k ls ++ drop k ls ≡ scan_arcs v ls₀ rs₀ = rw q.0 at h.arcs_left in
    (sym (take-append-drop k ls) ∙ a, sym q.1 ∙ h.rows_left)

-- The puts of a scan that has done k lines: ps so far.
abbrev pub HalfPuts : ℕ → ℕ → ℕ → ℕ → List Arc → List Row → List Arc → List Row → List (ℕ × ℕ) → Type 0
HalfPuts s t v k ls₀ rs₀ ls rs ps = ps ++ scan_puts s t v (drop k ls) rs ≡ scan_puts s t v ls₀ rs₀

module _ (s t v k : ℕ) (ls₀ : List Arc) (rs₀ : List Row) (ls : List Arc) (rs : List Row) (ps : List (ℕ × ℕ)) where
  pub half_puts_more : (x l : Arc) (rs' : List Row) → k < length ls → get_or ls k x ≡ x → rs' ≡ moved v x rs → HalfPuts s t v k ls₀ rs₀ ls rs ps →
      HalfPuts s t v (k + 1) ls₀ rs₀ (set ls k l) rs' (ps ++ put_if (wakes s t v x rs) (other v x) (lab rs (other v x)))
  half_puts_more x l rs' j here er h =
      let p = put_if (wakes s t v x rs) (other v x) (lab rs (other v x)) in
      let dm : drop k ls ≡ x ∷ drop (k + 1) ls = drop_at ls k x j here in
      let ds : drop (k + 1) (set ls k l) ≡ drop (k + 1) ls = drop-set-lt (k + 1) ls k l (omega arith) in
      let pn : ps ++ (p ++ scan_puts s t v (drop (k + 1) ls) (moved v x rs)) ≡ scan_puts s t v ls₀ rs₀ = rw dm at h in
      rw (ds, er) (append_assoc ps p (scan_puts s t v (drop (k + 1) ls) (moved v x rs)) ∙ pn)

  pub half_puts_all : length ls ≤ k → HalfPuts s t v k ls₀ rs₀ ls rs ps → ps ≡ scan_puts s t v ls₀ rs₀
  half_puts_all j h =
      let e : drop k ls ≡ [] = drop_all k ls j in
      let a : ps ++ [] ≡ scan_puts s t v ls₀ rs₀ = rw e at h in
      sym (append-nil ps) ∙ a

  pub half_puts_stops : up (exc rs v) ≡ 0 → HalfPuts s t v k ls₀ rs₀ ls rs ps → ps ≡ scan_puts s t v ls₀ rs₀
  half_puts_stops e h =
      let a : ps ++ [] ≡ scan_puts s t v ls₀ rs₀ = rw (scan_stops s t v (drop k ls) rs e).2 at h in
      sym (append-nil ps) ∙ a
