-- No excess is beyond the sum of the highs.
use Rattle.std.proofs.Common.{◌≡◌, ℕ, ◌<◌, ◌≤◌, Bool, true, false, cond, List, [], ◌∷◌, length, pos, ◌+ℤ◌, ⊎_elim, arith}
use Rattle.std.specs.List.{AllByRecursion}
use Rattle.std.proofs.lemmas.Int.{ints}
use Rattle.std.proofs.lemmas.Bool.{cases_eq, cases_lt}
use Rattle.plant.specs.Plants.{summed, every, high_of, leaves, ends}
use Rattle.plant.specs.Held.{Arc, lines_of}
use Rattle.plant.specs.declared.line.Line.{Line}
use Rattle.stage.specs.declared.Row.{Row}
use Rattle.stage.specs.Model.{exc, come, gone}
use Rattle.stage.specs.States.{SoundArc, Bounded}
use Rattle.stage.specs.Laws.{ExcessBounded}
use Rattle.stage.proofs.Actives.{exc_past}
use Rattle.stage.proofs.Cuts.{carries}
use Rattle.stage.proofs.Sweeps.{Given}

-- lines carry no more than their highs
pub carries_le : (n : ℕ) (p : Line → Bool) (ls : List Arc) → AllByRecursion (SoundArc n) ls → carries p ls ≤ summed every high_of (lines_of ls)
carries_le n p [] s = omega arith
carries_le n p (l ∷ ls) s = omega (arith, one (p l.line), carries_le n p ls s.1)
  where
    one : (b : Bool) → cond b l.flow 0 ≤ high_of l.line
    one true = s.0.below
    one false = omega arith

-- rows that tell what comes in less what goes out are bounded
pub true_bounded : (n : ℕ) (ls : List Arc) (rs : List Row) → length rs ≡ n → AllByRecursion (SoundArc n) ls → ((u : ℕ) → u < n → exc rs u +ℤ pos (gone ls u) ≡ pos (come ls u)) →
    Bounded (summed every high_of (lines_of ls)) rs
true_bounded n ls rs e s truth u =
    ⊎_elim
    (λ (k : u < n).
    let a = carries_le n (ends u) ls s in
    let b = carries_le n (leaves u) ls s in
    (omega (arith, ints, truth u k, a, b), omega (arith, ints, truth u k, a, b)))
    (λ (k : n ≤ u).
    let z = exc_past rs u (omega arith) in
    (omega (arith, ints, z), omega (arith, ints, z)))
    (cases_lt u n)

pub excess_bounded : ExcessBounded
excess_bounded n s t ms ls rs h = true_bounded n ls rs h.standing.size h.standing.lines h.truth

-- rows between two that are bounded
pub between_bounded : (b v : ℕ) (rs₀ rs rs₁ : List Row) → Bounded b rs₀ → Bounded b rs₁ → Given v rs₀ rs → Given v rs rs₁ → Bounded b rs
between_bounded b v rs₀ rs rs₁ p q g h u =
    ⊎_elim
    (λ (e : u ≡ v). rw e (omega (arith, ints, (q v).0, h.fewer), omega (arith, ints, (p v).1, g.fewer)))
    (λ (e : u ≡ v → ⊥). (omega (arith, ints, (p u).0, g.more u e), omega (arith, ints, (q u).1, h.more u e)))
    (cases_eq u v)
