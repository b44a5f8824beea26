-- The lines of stage one: sound, and how many and how large they are.
use Rattle.std.proofs.Common.{◌≡◌, ℕ, zero, suc, ◌+◌, ◌-◌, ◌<◌, ◌≤◌, Bool, true, false, cond, eqb, ltb, List, [], ◌∷◌, ◌++◌, map, length, get_or, sym, refl, ap, ◌∙◌, inl, inr, arith}
use borrow.Author.Differences.{up, down}
use Rattle.std.specs.List.{AllByRecursion}
use Rattle.std.proofs.ByRecursion.{All-append, All-from_get_or, All-map, All-weaker}
use Rattle.std.proofs.lemmas.List.{length-append, length-map}
use Rattle.std.proofs.lemmas.Int.{ints}
use Rattle.std.proofs.lemmas.Bool.{cases_order, lt-ltb, le-ltb, eq-eqb, ne_eqb}
use Rattle.plant.specs.declared.line.Line.{Line}
use Rattle.plant.specs.Plants.{Plant, Sound, SoundLine, no_line, carried, summed, every, leaves, ends, low_of, high_of, surplus}
use Rattle.plant.specs.Held.{lines_of, flows_of}
use Rattle.cuts.proofs.Sums.{over, all, cond_zero, over_same, over_carried, summed_every, summed_le}
use Rattle.stage.proofs.Begins.{beginning_holds}
use Rattle.stage.proofs.Rows.{one_sided}
use Rattle.stage.specs.Model.{begun}
use Rattle.stage.specs.States.{SoundArc, Holds}
use Rattle.stage.specs.First.{shifted, added_line, back_line, surplus_line, surplus_lines, first_lines, empty_arc, first_arcs}
use Rattle.first.specs.Theorems.{uneven, FirstBegins, FirstCount}

-- the lows into a junction, and out of it
abbrev pub lows_in : List Line → ℕ → ℕ
lows_in ls v = summed (ends v) low_of ls

abbrev pub lows_out : List Line → ℕ → ℕ
lows_out ls v = summed (leaves v) low_of ls

pub up_is : (ls : List Line) (v : ℕ) → up (surplus ls v) ≡ lows_in ls v - lows_out ls v
up_is ls v = omega (arith, ints, one_sided (surplus ls v))

pub down_is : (ls : List Line) (v : ℕ) → down (surplus ls v) ≡ lows_out ls v - lows_in ls v
down_is ls v = omega (arith, ints, one_sided (surplus ls v))

-- the lines for a junction, case by case
pub data Surplus (n : ℕ) (ls : List Line) (v : ℕ) : List Line → Type 0 where
  source : lows_out ls v < lows_in ls v → Surplus n ls v (added_line n v (lows_in ls v - lows_out ls v) ∷ [])
  sink : lows_in ls v < lows_out ls v → Surplus n ls v (added_line v (n + 1) (lows_out ls v - lows_in ls v) ∷ [])
  same : lows_in ls v ≡ lows_out ls v → Surplus n ls v []

pub surplus_kind : (n : ℕ) (ls : List Line) (v : ℕ) → Surplus n ls v (surplus_line n ls v)
surplus_kind n ls v = rw (up_is ls v, down_is ls v) (go (lows_in ls v) (lows_out ls v) refl refl)
  where
    go : (a b : ℕ) → lows_in ls v ≡ a → lows_out ls v ≡ b →
        Surplus n ls v (cond (ltb 0 (lows_in ls v - lows_out ls v)) (added_line n v (lows_in ls v - lows_out ls v) ∷ []) (cond (ltb 0 (lows_out ls v - lows_in ls v)) (added_line v (n + 1) (lows_out ls v - lows_in ls v) ∷ []) []))
    go a b p q = elim (cases_order a b) [
      | inl e ↦ rw (le-ltb 0 (lows_in ls v - lows_out ls v) (omega arith), le-ltb 0 (lows_out ls v - lows_in ls v) (omega arith)) (same (omega arith))
      | inr o ↦ elim o [
        | inl l ↦ rw (le-ltb 0 (lows_in ls v - lows_out ls v) (omega arith), lt-ltb 0 (lows_out ls v - lows_in ls v) (omega arith)) (sink (omega arith))
        | inr l ↦ rw (lt-ltb 0 (lows_in ls v - lows_out ls v) (omega arith)) (source (omega arith))
      ]
    ]

-- what holds of the lines for each junction holds of all
all_surplus : (Q : Line → Type 0) (n : ℕ) (ls : List Line) (m : ℕ) → ((v : ℕ) (xs : List Line) → v < m → Surplus n ls v xs → AllByRecursion Q xs) → AllByRecursion Q (surplus_lines n ls m)
all_surplus Q n ls zero h = tt
all_surplus Q n ls (suc m) h =
    All-append Q (surplus_lines n ls m) (surplus_line n ls m) (all_surplus Q n ls m (λ v xs j. h v xs (omega arith))) (h m (surplus_line n ls m) (omega arith) (surplus_kind n ls m))

-- ---- the lines are sound, and nothing flows at first
record FirstLine (n : ℕ) (l : Line) : Type 0 where
  sound : SoundLine (n + 2) l
  no_low : low_of l ≡ 0

surplus_sound : (n : ℕ) (ls : List Line) (v : ℕ) (xs : List Line) → v < n → Surplus n ls v xs → AllByRecursion (FirstLine n) xs
surplus_sound n ls v xs j (source h) = (record { sound = record { from_in = omega arith; to_in = omega arith; apart = λ e. omega arith; ordered = omega arith }; no_low = refl }, tt)
surplus_sound n ls v xs j (sink h) = (record { sound = record { from_in = omega arith; to_in = omega arith; apart = λ e. omega arith; ordered = omega arith }; no_low = refl }, tt)
surplus_sound n ls v xs j (same e) = tt

first_sound : (P : Plant) → Sound P → AllByRecursion (FirstLine P.junctions) (first_lines P)
first_sound P sound =
    let n = P.junctions in
    let ls = P.lines in
    All-append (FirstLine n) (map shifted ls) (back_line ls ∷ surplus_lines n ls n)
    (All-map (FirstLine n) shifted ls (All-from_get_or (λ l. FirstLine n (shifted l)) ls no_line (λ k j.
    let s = sound.each k j in
    record { sound = record { from_in = omega arith; to_in = omega arith; apart = s.apart; ordered = omega arith }; no_low = refl }))) (
      record { sound = record { from_in = omega (arith, sound.both); to_in = omega arith; apart = λ e. omega arith; ordered = omega arith }; no_low = refl },
      all_surplus (FirstLine n) n ls n (surplus_sound n ls),
    )

empty_lines : (ls : List Line) → lines_of (map empty_arc ls) ≡ ls
empty_lines [] = refl
empty_lines (l ∷ ls) = ap (λ k. l ∷ k) (empty_lines ls)

carries_nothing : (p : Line → Bool) (ls : List Line) → carried p (lines_of (map empty_arc ls)) (flows_of (map empty_arc ls)) ≡ 0
carries_nothing p [] = refl
carries_nothing p (l ∷ ls) = omega (arith, cond_zero (p l), carries_nothing p ls)

empty_sound : (n : ℕ) (l : Line) → FirstLine n l → SoundArc (n + 2) (empty_arc l)
empty_sound n l s = record { sound = s.sound; above = omega (arith, s.no_low); below = omega arith }

pub first_begins : FirstBegins
first_begins P sound =
    let n = P.junctions in
    record {
      balanced = record {
        lines = All-map (SoundArc (n + 2)) empty_arc (first_lines P) (All-weaker (FirstLine n) (λ l. SoundArc (n + 2) (empty_arc l)) (empty_sound n) (first_lines P) (first_sound P sound));
        even = λ u k p q. carries_nothing (ends u) (first_lines P) ∙ sym (carries_nothing (leaves u) (first_lines P));
      };
      lines = empty_lines (first_lines P);
    }

-- so the stage may begin
pub first_holds : (P : Plant) → Sound P → Holds (P.junctions + 2) P.junctions (P.junctions + 1) (first_arcs P) (begun (P.junctions + 2) P.junctions (first_arcs P)).arcs (begun (P.junctions + 2) P.junctions (first_arcs P)).rows
first_holds P sound =
    beginning_holds (P.junctions + 2) P.junctions (P.junctions + 1) (first_arcs P) (omega arith) (omega arith) (λ e. omega arith) (first_begins P sound).balanced

-- ---- how many and how large
surplus_length : (n : ℕ) (ls : List Line) (v : ℕ) (xs : List Line) → Surplus n ls v xs → length xs ≡ cond (eqb (lows_in ls v) (lows_out ls v)) 0 1
surplus_length n ls v xs (source h) = rw (ne_eqb (lows_in ls v) (lows_out ls v) (λ e. omega arith))
surplus_length n ls v xs (sink h) = rw (ne_eqb (lows_in ls v) (lows_out ls v) (λ e. omega arith))
surplus_length n ls v xs (same e) = rw (eq-eqb (lows_in ls v) (lows_out ls v) e)

surplus_count : (n : ℕ) (ls : List Line) (m : ℕ) → length (surplus_lines n ls m) ≡ uneven ls m
surplus_count n ls zero = refl
surplus_count n ls (suc m) = length-append (surplus_lines n ls m) (surplus_line n ls m) ∙ omega (arith, surplus_count n ls m, surplus_length n ls m (surplus_line n ls m) (surplus_kind n ls m))

uneven_le : (ls : List Line) (n : ℕ) → uneven ls n ≤ n
uneven_le ls zero = omega arith
uneven_le ls (suc v) = omega (arith, one (eqb (lows_in ls v) (lows_out ls v)), uneven_le ls v)
  where
    one : (b : Bool) → cond b 0 1 ≤ 1
    one true = omega arith
    one false = omega arith

pub summed_append : (p : Line → Bool) (g : Line → ℕ) (xs ys : List Line) → summed p g (xs ++ ys) ≡ summed p g xs + summed p g ys
summed_append p g [] ys = omega arith
summed_append p g (x ∷ xs) ys = omega (arith, summed_append p g xs ys)

-- a limit as a flow
summed_carried : (p : Line → Bool) (g : Line → ℕ) (ls : List Line) → carried p ls (map g ls) ≡ summed p g ls
summed_carried p g [] = refl
summed_carried p g (l ∷ ls) = omega (arith, summed_carried p g ls)

-- the sum by junctions is the sum by lines
by_junctions : (a : Line → ℕ) (n : ℕ) (ls : List Line) → ((k : ℕ) → k < length ls → a (get_or ls k no_line) < n) → over all (λ v. summed (λ l. eqb (a l) v) low_of ls) n ≡ summed every low_of ls
by_junctions a n ls h =
    over_same all (λ v. summed (λ l. eqb (a l) v) low_of ls) (λ v. carried (λ l. eqb (a l) v) ls (map low_of ls)) n (λ v j t. sym (summed_carried (λ l. eqb (a l) v) low_of ls))
    ∙ over_carried a all n ls (map low_of ls) h
    ∙ summed_carried every low_of ls

surplus_high : (n : ℕ) (ls : List Line) (v : ℕ) (xs : List Line) → Surplus n ls v xs → summed every high_of xs ≤ lows_in ls v + lows_out ls v
surplus_high n ls v xs (source h) = omega arith
surplus_high n ls v xs (sink h) = omega arith
surplus_high n ls v xs (same e) = omega arith

surplus_highs : (n : ℕ) (ls : List Line) (m : ℕ) → summed every high_of (surplus_lines n ls m) ≤ over all (lows_in ls) m + over all (lows_out ls) m
surplus_highs n ls zero = omega arith
surplus_highs n ls (suc m) =
    omega (arith, summed_append every high_of (surplus_lines n ls m) (surplus_line n ls m), surplus_highs n ls m, surplus_high n ls m (surplus_line n ls m) (surplus_kind n ls m))

shifted_highs : (n : ℕ) (ls : List Line) → AllByRecursion (SoundLine n) ls → summed every high_of (map shifted ls) + summed every low_of ls ≡ summed every high_of ls
shifted_highs n [] s = refl
shifted_highs n (l ∷ ls) s = omega (arith, s.0.ordered, shifted_highs n ls s.1)

shifted_each : (b : ℕ) (ls : List Line) → summed every high_of ls ≤ b → AllByRecursion (λ l. high_of l ≤ b) (map shifted ls)
shifted_each b [] h = tt
shifted_each b (l ∷ ls) h = (omega arith, shifted_each b ls (omega arith))

surplus_each : (n b : ℕ) (ls : List Line) → summed every low_of ls ≤ b → (v : ℕ) (xs : List Line) → Surplus n ls v xs → AllByRecursion (λ l. high_of l ≤ b) xs
surplus_each n b ls h v xs (source l) = (omega (arith, summed_every (ends v) low_of ls), tt)
surplus_each n b ls h v xs (sink l) = (omega (arith, summed_every (leaves v) low_of ls), tt)
surplus_each n b ls h v xs (same e) = tt

pub first_count : FirstCount
first_count P sound =
    let n = P.junctions in
    let ls = P.lines in
    let b = summed every high_of ls in
    let low = summed_le low_of high_of ls (λ k j. (sound.each k j).ordered) in
    let own = shifted_highs n ls (All-from_get_or (SoundLine n) ls no_line sound.each) in
    record {
      count = length-append (map shifted ls) (back_line ls ∷ surplus_lines n ls n) ∙ omega (arith, length-map ls shifted, surplus_count n ls n);
      few = uneven_le ls n;
      each = All-append (λ l. high_of l ≤ b) (map shifted ls) (back_line ls ∷ surplus_lines n ls n) (shifted_each b ls (omega arith)) (
        omega arith,
        all_surplus (λ l. high_of l ≤ b) n ls n (λ v xs j s. surplus_each n b ls low v xs s),
      );
      sum =
          let a = summed_append every high_of (map shifted ls) (back_line ls ∷ surplus_lines n ls n) in
          let c = surplus_highs n ls n in
          let d = by_junctions (λ l. l.to) n ls (λ k j. (sound.each k j).to_in) in
          let e = by_junctions (λ l. l.from) n ls (λ k j. (sound.each k j).from_in) in
          omega arith;
    }
