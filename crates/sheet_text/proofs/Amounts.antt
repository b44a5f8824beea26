-- How much a plant can carry, and how much it can fall short.
use Rattle.std.proofs.Common.{◌≡◌, ℕ, suc, ◌*◌, ◌<◌, ◌≤◌, Bool, true, false, cond, List, [], ◌∷◌, length, get_or, pos, refl, arith}
use Rattle.std.proofs.lemmas.Int.{ints}
use Rattle.std.proofs.lemmas.Bool.{ne_eqb}
use Rattle.cuts.specs.Theorems.{Outward}
use Rattle.plant.specs.declared.line.Line.{Line}
use Rattle.plant.specs.Plants.{Flow, Junctions, Plant, at, carried, ends, leads_in, leaves, low_of, no_line, shortfall_over, summed, total}

at_most : (b : Bool) (x : ℕ) → cond b x 0 ≤ x
at_most true x = omega arith
at_most false x = omega arith

-- at most 1,000,000 for each line
pub carried_small : (p : Line → Bool) (ls : List Line) (f : Flow) → ((k : ℕ) → k < length ls → at f k ≤ 1000000) → carried p ls f ≤ 1000000 * length ls
carried_small p [] f h = omega arith
carried_small p (l ∷ ls) [] h = omega arith
carried_small p (l ∷ ls) (x ∷ f) h = omega (arith, carried_small p ls f (λ k j. h (suc k) (omega arith)), at_most (p l) x, h 0 (omega arith))

pub summed_small : (p : Line → Bool) (ls : List Line) → ((k : ℕ) → k < length ls → low_of (get_or ls k no_line) ≤ 1000000) → summed p low_of ls ≤ 1000000 * length ls
summed_small p [] h = omega arith
summed_small p (l ∷ ls) h = omega (arith, summed_small p ls (λ k j. h (suc k) (omega arith)), at_most (p l) (low_of l), h 0 (omega arith))

-- nothing where no line is picked
none_carried : (p : Line → Bool) (ls : List Line) (f : Flow) → ((k : ℕ) → k < length ls → p (get_or ls k no_line) ≡ false) → carried p ls f ≡ 0
none_carried p [] f h = refl
none_carried p (l ∷ ls) [] h = refl
none_carried p (l ∷ ls) (x ∷ f) h =
    let a : cond (p l) x 0 ≡ 0 = rw (h 0 (omega arith)) refl in
    omega (arith, none_carried p ls f (λ k j. h (suc k) (omega arith)))

-- where no line ends at the header, the total is what leaves it
pub total_out : (P : Plant) (f : Flow) → Outward P → total P f ≡ pos (carried (leaves 0) P.lines f)
total_out P f o =
    let n : carried (ends 0) P.lines f ≡ 0 = none_carried (ends 0) P.lines f (λ k j. ne_eqb (get_or P.lines k no_line).to 0 (o k j)) in
    rw n (omega (arith, ints))

pub shortfall_small : (ls : List Line) (S : Junctions) → ((k : ℕ) → k < length ls → low_of (get_or ls k no_line) ≤ 1000000) → shortfall_over ls S ≤ 1000000 * length ls
shortfall_small ls S h = omega (arith, summed_small (leads_in S) ls h)
