-- The two small plants.
use Rattle.std.proofs.Common.{◌≡◌, ℕ, zero, suc, ◌+◌, ◌-◌, ◌<◌, ◌≤◌, Bool, true, false, cond, not, ◌&&◌, ◌||◌, eqb, ◌≢◌, sym, refl, subst, inl, inr, arith}
use Rattle.std.proofs.lemmas.Bool.{both_ways, or_cases, eqb-true}
use Rattle.plant.specs.declared.aim.Aim.{Aim}
use Rattle.plant.specs.declared.aim.Aim.TheVariants.{Greatest, Least}
use Rattle.plant.specs.Plants.{Plant, Flow, Junctions, Sound, SoundLine, Feasible, Cut, NearCut, FarCut, Hurdle, WorstHurdle, more, less, Step, Reaches, here, on, line, at, low_of, high_of, inflow, outflow, bound, total, shortfall}
use Rattle.cuts.specs.Examples.{small, full, near, far, scant, without_2, Small, blocked, ends_only, Blocked}
use Rattle.cuts.proofs.Duality.{fills}
use Rattle.cuts.proofs.Search.{stays}
use Rattle.cuts.proofs.Reach.{filled_closed}
use Rattle.cuts.proofs.Bests.{meets_best, near_smallest, far_largest}
use Rattle.cuts.proofs.Hurdles.{no_flow}

-- what holds of 0 to 4, or of 0 to 3, holds below 5, or below 4
five : (Q : ℕ → Type 0) → Q 0 → Q 1 → Q 2 → Q 3 → Q 4 → (k : ℕ) → k < 5 → Q k
five Q a b c d e zero h = a
five Q a b c d e (suc zero) h = b
five Q a b c d e (suc (suc zero)) h = c
five Q a b c d e (suc (suc (suc zero))) h = d
five Q a b c d e (suc (suc (suc (suc zero)))) h = e
five Q a b c d e (suc (suc (suc (suc (suc k))))) h = absurd (omega arith)

four : (Q : ℕ → Type 0) → Q 0 → Q 1 → Q 2 → Q 3 → (v : ℕ) → v < 4 → Q v
four Q a b c d v h = five (λ v. v < 4 → Q v) (λ i. a) (λ i. b) (λ i. c) (λ i. d) (λ i. absurd (omega arith)) v (omega arith) h

small_sound : Sound small
small_sound = record { both = omega arith; each = five (λ k. SoundLine 4 (line small k)) (omega arith) (omega arith) (omega arith) (omega arith) (omega arith) }

full_feasible : Feasible small full
full_feasible = record {
  within = record {
    each = refl;
    above = five (λ k. low_of (line small k) ≤ at full k) (omega arith) (omega arith) (omega arith) (omega arith) (omega arith);
    below = five (λ k. at full k ≤ high_of (line small k)) (omega arith) (omega arith) (omega arith) (omega arith) (omega arith);
  };
  kept = four (λ v. v ≢ 0 → v ≢ 1 → inflow small full v ≡ outflow small full v) (λ a b. absurd (a refl)) (λ a b. absurd (b refl)) (λ a b. refl) (λ a b. refl);
}

scant_feasible : Feasible small scant
scant_feasible = record {
  within = record {
    each = refl;
    above = five (λ k. low_of (line small k) ≤ at scant k) (omega arith) (omega arith) (omega arith) (omega arith) (omega arith);
    below = five (λ k. at scant k ≤ high_of (line small k)) (omega arith) (omega arith) (omega arith) (omega arith) (omega arith);
  };
  kept = four (λ v. v ≢ 0 → v ≢ 1 → inflow small scant v ≡ outflow small scant v) (λ a b. absurd (a refl)) (λ a b. absurd (b refl)) (λ a b. refl) (λ a b. refl);
}

one_of : (Q : ℕ → Type 0) (a b : ℕ) → Q a → Q b → (v : ℕ) → (eqb v a || eqb v b) ≡ true → Q v
one_of Q a b p q v t = elim (or_cases (eqb v a) (eqb v b) t) [ inl e ↦ subst Q (sym (eqb-true v a e)) p | inr e ↦ subst Q (sym (eqb-true v b e)) q ]

-- a set that meets the total and is reached, or whose rest reaches the tank
module _ (aim : Aim) (P : Plant) (f : Flow) (S : Junctions) (sound : Sound P) (feasible : Feasible P f) (cut : Cut P S) (met : total P f ≡ bound aim P S) where
  keeps : (v : ℕ) {w : ℕ} → S v ≡ true → Reaches (Step aim P f) v w → S w ≡ true
  keeps v t r = stays (Step aim P f) S (filled_closed aim P f S (fills aim P f S sound feasible cut met)) v t r

  is_near : ((v : ℕ) → S v ≡ true → Reaches (Step aim P f) 0 v) → NearCut aim P S
  is_near inside = (near_smallest aim P f S sound (meets_best aim P f S sound feasible cut met) (record {
    below = cut.inside;
    inside = inside;
    outside = λ v i u r. both_ways (S v) u (keeps 0 cut.header r);
  })).0

  is_far : ((v : ℕ) → v < P.junctions → S v ≡ false → Reaches (Step aim P f) v 1) → FarCut aim P S
  is_far outside = (far_largest aim P f S sound (meets_best aim P f S sound feasible cut met) (record {
    below = cut.inside;
    inside = λ v t r. both_ways (S 1) cut.tank (keeps v t r);
    outside = outside;
  })).0

near_cut : Cut small near
near_cut = record { inside = one_of (λ v. v < 4) 0 2 (omega arith) (omega arith); header = refl; tank = refl }

far_cut : Cut small far
far_cut = record {
  inside = λ v t. elim (or_cases (eqb v 0) (eqb v 2 || eqb v 3) t) [ inl e ↦ omega (arith, eqb-true v 0 e) | inr e ↦ one_of (λ v. v < 4) 2 3 (omega arith) (omega arith) v e ];
  header = refl;
  tank = refl;
}

without_cut : Cut small without_2
without_cut = record { inside = one_of (λ v. v < 4) 0 3 (omega arith) (omega arith); header = refl; tank = refl }

pub small_worked : Small
small_worked = (
  small_sound,
  meets_best Greatest small full near small_sound full_feasible near_cut refl,
  refl,
  refl,
  refl,
  refl,
  is_near Greatest small full near small_sound full_feasible near_cut refl (one_of (λ v. Reaches (Step Greatest small full) 0 v) 0 2 here (on here (more 0 (omega arith) refl refl (omega arith)))),
  is_far Greatest small full far small_sound full_feasible far_cut refl (four (λ v. far v ≡ false → Reaches (Step Greatest small full) v 1) (λ u. absurd (both_ways true u refl)) (λ u. here) (λ u. absurd (both_ways true u refl)) (λ u. absurd (both_ways true u refl))),
  meets_best Least small scant without_2 small_sound scant_feasible without_cut refl,
  refl,
  is_near Least small scant without_2 small_sound scant_feasible without_cut refl (one_of (λ v. Reaches (Step Least small scant) 0 v) 0 3 here (on here (less 2 (omega arith) refl refl (omega arith)))),
  is_far Least small scant without_2 small_sound scant_feasible without_cut refl (four (λ v. without_2 v ≡ false → Reaches (Step Least small scant) v 1) (λ u. absurd (both_ways true u refl)) (λ u. here) (λ u. on here (less 1 (omega arith) refl refl (omega arith))) (λ u. absurd (both_ways true u refl))),
)

-- ---- the blocked plant
two : (Q : ℕ → Type 0) → Q 0 → Q 1 → (k : ℕ) → k < 2 → Q k
two Q a b k h = five (λ k. k < 2 → Q k) (λ i. a) (λ i. b) (λ i. absurd (omega arith)) (λ i. absurd (omega arith)) (λ i. absurd (omega arith)) k (omega arith) h

blocked_sound : Sound blocked
blocked_sound = record { both = omega arith; each = two (λ k. SoundLine 3 (line blocked k)) (omega arith) (omega arith) }

-- a set with a shortfall holds 0 and 1 and not 2
abbrev in_lows : Bool → Bool → Bool → ℕ
in_lows a b c = cond (c && not a) 0 0 + (cond (b && not c) 3 0 + 0)

abbrev out_highs : Bool → Bool → Bool → ℕ
out_highs a b c = cond (a && not c) 2 0 + (cond (c && not b) 5 0 + 0)

just : (a b c : Bool) → (b ≡ true → a ≡ true) → out_highs a b c < in_lows a b c → (a ≡ true) × (b ≡ true) × (in_lows a b c - out_highs a b c ≡ 1)
just true true true t h = absurd (omega arith)
just true true false t h = (refl, refl, refl)
just true false true t h = absurd (omega arith)
just true false false t h = absurd (omega arith)
just false true c t h = absurd (both_ways false refl (t refl))
just false false true t h = absurd (omega arith)
just false false false t h = absurd (omega arith)

of_hurdle : (R : Junctions) → Hurdle blocked R → (R 0 ≡ true) × (R 1 ≡ true) × (shortfall blocked R ≡ 1)
of_hurdle R h = just (R 0) (R 1) (R 2) h.tank h.short

blocked_worst : WorstHurdle blocked ends_only
blocked_worst = record {
  hurdle = record { inside = one_of (λ v. v < 3) 0 1 (omega arith) (omega arith); tank = λ t. refl; short = omega arith };
  largest = λ R h. omega (arith, (of_hurdle R h).2);
  smallest = λ R h e. one_of (λ v. R v ≡ true) 0 1 (of_hurdle R h).0 (of_hurdle R h).1;
}

pub blocked_worked : Blocked
blocked_worked = (
  blocked_sound,
  λ f feasible. no_flow blocked ends_only f blocked_sound (two (λ k. (line blocked k).to ≢ 0) (λ e. omega arith) (λ e. omega arith)) blocked_worst.hurdle feasible,
  blocked_worst,
  refl,
)
