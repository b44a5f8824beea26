-- What settles the small plants.
use Rattle.std.proofs.Common.{◌≡◌, ℕ, zero, suc, ◌+◌, ◌<◌, ◌≤◌, Bool, true, false, cond, not, ◌&&◌, ◌||◌, eqb, ◌≢◌, [], ◌∷◌, pos, ◌-ℤ◌, ◌≤ℤ◌, sym, refl, ap, ◌∙◌, inl, inr, arith}
use Rattle.cuts.proofs.Bests.{meets_best}
use Rattle.cuts.proofs.Examples.{blocked_worked}
use Rattle.cuts.specs.Examples.{ends_only}
use Rattle.law.specs.Phases.{Impossible, Plan, Question, Solved}
use Rattle.plant.specs.declared.aim.Aim.TheVariants.{Greatest, Least}
use Rattle.plant.specs.Plants.{Best, Cut, Feasible, Flow, Junctions, Plant, Sound, SoundLine, Subset, Tightest, at, bound, high_of, inflow, line, low_of, outflow, total}
use Rattle.std.proofs.lemmas.Int.{ints}
use Rattle.std.proofs.lemmas.Bool.{both_ways, eqb-true, false≢true, or_cases, true≢false}
use Rattle.transcripts.specs.Plants.{D_lines, H_lines}

-- 0 → 2 with high x, 2 → 1 from y to z
abbrev pub chain : ℕ → ℕ → ℕ → Plant
chain x y z = record { junctions = 3; lines = record { from = 0; to = 2; low = 0; high = x } ∷ record { from = 2; to = 1; low = y; high = z } ∷ [] }

abbrev pub three : Flow
three = 3 ∷ 3 ∷ []

abbrev pub only_0 : Junctions
only_0 v = eqb v 0

abbrev pub also_2 : Junctions
also_2 v = eqb v 0 || eqb v 2

two : (Q : ℕ → Type 0) → Q 0 → Q 1 → (k : ℕ) → k < 2 → Q k
two Q a b zero h = a
two Q a b (suc zero) h = b
two Q a b (suc (suc k)) h = absurd (omega arith)

past_2 : (v : ℕ) → also_2 (suc (suc (suc v))) ≡ true → ⊥
past_2 v h = elim (or_cases (eqb (suc (suc (suc v))) 0) (eqb (suc (suc (suc v))) 2) h) [
  | inl a ↦ omega (arith, eqb-true (suc (suc (suc v))) 0 a)
  | inr b ↦ omega (arith, eqb-true (suc (suc (suc v))) 2 b)
]

in_also_2 : (v : ℕ) → also_2 v ≡ true → v < 3
in_also_2 zero h = omega arith
in_also_2 (suc zero) h = omega arith
in_also_2 (suc (suc zero)) h = omega arith
in_also_2 (suc (suc (suc v))) h = absurd (past_2 v h)

-- the bound of a cut, by whether junction 2 is in it
sums : (x y z : ℕ) (a b c : Bool) → a ≡ true → b ≡ false → pos (cond (a && not c) x 0 + (cond (c && not b) z 0 + 0)) -ℤ pos (cond (c && not a) 0 0 + (cond (b && not c) y 0 + 0)) ≡ cond c (pos z) (pos x)
sums x y z true false true p q = omega (arith, ints)
sums x y z true false false p q = omega (arith, ints)
sums x y z true true c p q = absurd (true≢false q)
sums x y z false b c p q = absurd (false≢true p)

-- a plant of this form that carries three litres and no more
module _ (x y z : ℕ) (fits : (3 ≤ x) × (y ≤ 3) × (3 ≤ z)) where
  pub chain_sound : Sound (chain x y z)
  chain_sound = record { both = omega arith; each = two (λ k. SoundLine 3 (line (chain x y z) k)) (omega arith) (omega (arith, fits.1, fits.2)) }

  kept : (v : ℕ) → v < 3 → v ≢ 0 → v ≢ 1 → inflow (chain x y z) three v ≡ outflow (chain x y z) three v
  kept zero h a b = absurd (a refl)
  kept (suc zero) h a b = absurd (b refl)
  kept (suc (suc zero)) h a b = refl
  kept (suc (suc (suc v))) h a b = absurd (omega arith)

  pub three_feasible : Feasible (chain x y z) three
  three_feasible = record {
    within = record { each = refl; above = two (λ k. low_of (line (chain x y z) k) ≤ at three k) (omega arith) fits.1; below = two (λ k. at three k ≤ high_of (line (chain x y z) k)) fits.0 fits.2 };
    kept = kept;
  }

  chain_bound : (R : Junctions) → Cut (chain x y z) R → bound Greatest (chain x y z) R ≡ cond (R 2) (pos z) (pos x)
  chain_bound R c = sums x y z (R 0) (R 1) (R 2) c.header c.tank

  cut_0 : Cut (chain x y z) only_0
  cut_0 = record { inside = λ v h. omega (arith, eqb-true v 0 h); header = refl; tank = refl }

  cut_2 : Cut (chain x y z) also_2
  cut_2 = record { inside = in_also_2; header = refl; tank = refl }

  -- a cut that three litres fill
  module _ (S : Junctions) (cut : Cut (chain x y z) S) (met : bound Greatest (chain x y z) S ≡ pos 3) where
    three_best : Best Greatest (chain x y z) three
    three_best = meets_best Greatest (chain x y z) three S chain_sound three_feasible cut (sym met)

    pub tightest : Tightest Greatest (chain x y z) S
    tightest = record { cut = cut; tight = λ R c. omega (arith, ints, met, chain_bound R c, at_least (R 2)) }
      where
        at_least : (b : Bool) → pos 3 ≤ℤ cond b (pos z) (pos x)
        at_least true = omega (arith, ints, fits.2)
        at_least false = omega (arith, ints, fits.0)

    -- a tightest cut has no larger bound
    tight_bound : (R : Junctions) → Tightest Greatest (chain x y z) R → cond (R 2) (pos z) (pos x) ≤ℤ pos 3
    tight_bound R t = let b = t.tight S cut in omega (arith, ints, met, chain_bound R t.cut)

  from_0 : (R : Junctions) → Cut (chain x y z) R → Subset only_0 R
  from_0 R c v h = ap R (eqb-true v 0 h) ∙ c.header

  to_2 : (R : Junctions) → Cut (chain x y z) R → Subset R also_2
  to_2 R c zero h = refl
  to_2 R c (suc zero) h = absurd (both_ways (R 1) c.tank h)
  to_2 R c (suc (suc zero)) h = refl
  to_2 R c (suc (suc (suc v))) h = absurd (omega (arith, c.inside (suc (suc (suc v))) h))

-- plant D
abbrev pub D : Question
D = record { plant = record { junctions = 3; lines = D_lines }; aim = Greatest }

fit_D : (3 ≤ 3) × (0 ≤ 3) × (3 ≤ 3)
fit_D = (omega arith, omega arith, omega arith)

abbrev pub D_plan : Plan
D_plan = record { flow = three; near = only_0; far = also_2 }

pub D_sound : Sound D.plant
D_sound = chain_sound 3 0 3 fit_D

pub D_feasible : Feasible D.plant three
D_feasible = three_feasible 3 0 3 fit_D

pub D_tight_2 : Tightest Greatest D.plant also_2
D_tight_2 = tightest 3 0 3 fit_D also_2 (cut_2 3 0 3 fit_D) refl

pub D_solved : Solved D D_plan
D_solved =
    let c0 = cut_0 3 0 3 fit_D in
    record {
      best = three_best 3 0 3 fit_D only_0 c0 refl;
      near = record { tightest = tightest 3 0 3 fit_D only_0 c0 refl; smallest = λ R t. from_0 3 0 3 fit_D R t.cut };
      far = record { tightest = D_tight_2; largest = λ R t. to_2 3 0 3 fit_D R t.cut };
      meets = refl;
    }

-- plant D with line 0 at 0..4
abbrev pub D' : Question
D' = record { plant = chain 4 0 3; aim = Greatest }

fit_D' : (3 ≤ 4) × (0 ≤ 3) × (3 ≤ 3)
fit_D' = (omega arith, omega arith, omega arith)

abbrev pub D'_plan : Plan
D'_plan = record { flow = three; near = also_2; far = also_2 }

pub D'_solved : Solved D' D'_plan
D'_solved =
    let c2 = cut_2 4 0 3 fit_D' in
    let t2 = tightest 4 0 3 fit_D' also_2 c2 refl in
    record {
      best = three_best 4 0 3 fit_D' also_2 c2 refl;
      near = record { tightest = t2; smallest = within };
      far = record { tightest = t2; largest = λ R t. to_2 4 0 3 fit_D' R t.cut };
      meets = refl;
    }
  where
    two_in : (b : Bool) → cond b (pos 3) (pos 4) ≤ℤ pos 3 → b ≡ true
    two_in true h = refl
    two_in false h = absurd (omega (arith, ints))

    within : (R : Junctions) → Tightest Greatest D'.plant R → Subset also_2 R
    within R t zero h = t.cut.header
    within R t (suc zero) h = absurd (false≢true h)
    within R t (suc (suc zero)) h = two_in (R 2) (tight_bound 4 0 3 fit_D' also_2 (cut_2 4 0 3 fit_D') refl R t)
    within R t (suc (suc (suc v))) h = absurd (past_2 v h)

-- plant H
abbrev pub H : Question
H = record { plant = record { junctions = 3; lines = H_lines }; aim = Greatest }

pub H_impossible : Impossible H ends_only
H_impossible = record { none = blocked_worked.1; worst = blocked_worked.2 }

-- plant H with line 0 at 0..3
abbrev pub H' : Question
H' = record { plant = chain 3 3 5; aim = Greatest }

fit_H' : (3 ≤ 3) × (3 ≤ 3) × (3 ≤ 5)
fit_H' = (omega arith, omega arith, omega arith)

abbrev pub H'_plan : Plan
H'_plan = record { flow = three; near = only_0; far = only_0 }

pub H'_solved : Solved H' H'_plan
H'_solved =
    let c0 = cut_0 3 3 5 fit_H' in
    let t0 = tightest 3 3 5 fit_H' only_0 c0 refl in
    record {
      best = three_best 3 3 5 fit_H' only_0 c0 refl;
      near = record { tightest = t0; smallest = λ R t. from_0 3 3 5 fit_H' R t.cut };
      far = record { tightest = t0; largest = largest };
      meets = refl;
    }
  where
    two_out : (b : Bool) → cond b (pos 5) (pos 3) ≤ℤ pos 3 → b ≡ true → ⊥
    two_out true h e = omega (arith, ints)
    two_out false h e = false≢true e

    largest : (R : Junctions) → Tightest Greatest H'.plant R → Subset R only_0
    largest R t zero h = refl
    largest R t (suc zero) h = absurd (both_ways (R 1) t.cut.tank h)
    largest R t (suc (suc zero)) h = absurd (two_out (R 2) (tight_bound 3 3 5 fit_H' only_0 (cut_0 3 3 5 fit_H') refl R t) h)
    largest R t (suc (suc (suc v))) h = absurd (omega (arith, t.cut.inside (suc (suc (suc v))) h))

-- one line from the header to the tank with low x, under the least
abbrev pub least_of : ℕ → Question
least_of x = record { plant = record { junctions = 2; lines = record { from = 0; to = 1; low = x; high = 9 } ∷ [] }; aim = Least }

abbrev pub least_plan : ℕ → Plan
least_plan x = record { flow = x ∷ []; near = only_0; far = only_0 }

module _ (x : ℕ) (fits : x ≤ 9) where
  one : (Q : ℕ → Type 0) → Q 0 → (k : ℕ) → k < 1 → Q k
  one Q a zero h = a
  one Q a (suc k) h = absurd (omega arith)

  pub least_sound : Sound (least_of x).plant
  least_sound = record { both = omega arith; each = one (λ k. SoundLine 2 (line (least_of x).plant k)) (omega arith) }

  least_kept : (v : ℕ) → v < 2 → v ≢ 0 → v ≢ 1 → inflow (least_of x).plant (x ∷ []) v ≡ outflow (least_of x).plant (x ∷ []) v
  least_kept zero h a b = absurd (a refl)
  least_kept (suc zero) h a b = absurd (b refl)
  least_kept (suc (suc v)) h a b = absurd (omega arith)

  least_feasible : Feasible (least_of x).plant (x ∷ [])
  least_feasible = record {
    within = record { each = refl; above = one (λ k. low_of (line (least_of x).plant k) ≤ at (x ∷ []) k) (omega arith); below = one (λ k. at (x ∷ []) k ≤ high_of (line (least_of x).plant k)) fits };
    kept = least_kept;
  }

  least_sums : (a b : Bool) → a ≡ true → b ≡ false → pos (cond (a && not b) x 0 + 0) -ℤ pos (cond (b && not a) 9 0 + 0) ≡ pos x
  least_sums true false p q = omega (arith, ints)
  least_sums true true p q = absurd (true≢false q)
  least_sums false b p q = absurd (false≢true p)

  least_bound : (R : Junctions) → Cut (least_of x).plant R → bound Least (least_of x).plant R ≡ pos x
  least_bound R c = least_sums (R 0) (R 1) c.header c.tank

  least_cut : Cut (least_of x).plant only_0
  least_cut = record { inside = λ v h. omega (arith, eqb-true v 0 h); header = refl; tank = refl }

  least_tight : Tightest Least (least_of x).plant only_0
  least_tight = record { cut = least_cut; tight = λ R c. omega (arith, ints, least_bound R c, least_bound only_0 least_cut) }

  least_largest : (R : Junctions) → Tightest Least (least_of x).plant R → Subset R only_0
  least_largest R t zero h = refl
  least_largest R t (suc zero) h = absurd (both_ways (R 1) t.cut.tank h)
  least_largest R t (suc (suc v)) h = absurd (omega (arith, t.cut.inside (suc (suc v)) h))

  least_meets : total (least_of x).plant (x ∷ []) ≡ bound Least (least_of x).plant only_0
  least_meets = omega (arith, ints, least_bound only_0 least_cut)

  pub least_solved : Solved (least_of x) (least_plan x)
  least_solved = record {
    best = meets_best Least (least_of x).plant (x ∷ []) only_0 least_sound least_feasible least_cut least_meets;
    near = record { tightest = least_tight; smallest = λ R t v h. ap R (eqb-true v 0 h) ∙ t.cut.header };
    far = record { tightest = least_tight; largest = least_largest };
    meets = least_meets;
  }
