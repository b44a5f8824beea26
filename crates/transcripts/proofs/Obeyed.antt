-- The transcripts that obey the law, step by step.
use Rattle.plant.specs.declared.line.Trial as limits
use Rattle.std.proofs.Common.{◌≡◌, ℕ, ◌+◌, ◌*◌, ◌<◌, List, [], ◌∷◌, length, drop, None, sym, refl, ap, subst, inl, inr, arith}
use Rattle.cuts.specs.Examples.{ends_only}
use Rattle.first.specs.Theorems.{uneven}
use Rattle.law.proofs.Settled.{widening_derived}
use Rattle.law.proofs.Steps.{accepts}
use Rattle.law.specs.declared.script.Answer.TheVariants as told
use Rattle.law.specs.declared.script.Call.TheVariants.{Start, Trial}
use Rattle.law.specs.declared.script.Given.{Given}
use Rattle.law.specs.Law.{Follows, Run, Settles}
use Rattle.law.specs.Phases.{Counts, Limited, Phase, Plan, Question, Solved, blocked, flowing, idle, no_counts, question, tried, working}
use Rattle.law.specs.Promises.{Rightly}
use Rattle.law.specs.Refusal.{passing, refusal}
use Rattle.planner.specs.declared.answer.Outcome.{Outcome}
use Rattle.planner.specs.declared.answer.Outcome.TheVariants as outcome
use Rattle.plant.specs.declared.aim.Aim.{Aim}
use Rattle.plant.specs.declared.aim.Aim.TheVariants.{Greatest, Least}
use Rattle.plant.specs.declared.line.Line.{Line}
use Rattle.plant.specs.Plants.{Junctions, Sound, with_limits}
use Rattle.plant.specs.Tests.{test_trial, tested}
use Rattle.reach.specs.Sets.{bits_from, bytes_from, set_bytes, size}
use Rattle.transcripts.proofs.Small.{D, D_plan, D_solved, D_sound, D', D'_plan, D'_solved, H, H_impossible, H', H'_plan, H'_solved, least_of, least_plan, least_solved, least_sound}
use Rattle.transcripts.specs.Obeying.{BObeys, DObeys, D_script, HObeys}
use Rattle.transcripts.specs.Plants.{B_lines, D_lines, H_lines, Lines, Numbers, given, tally}

-- ---- starts and trials: all that is known of the list is its lines
abbrev pub on : ℕ → Aim → List Line → Question
on n aim ls = record { plant = record { junctions = n; lines = ls }; aim = aim }

pub start_passes : (p : Phase) (n a : ℕ) (v : Lines) (ls : List Line) → v.items ≡ ls → passing (tested n ls a) None ≡ None → refusal p (Start (given n v a)) ≡ None
start_passes p n a v ls e t = subst (λ (ms : List Line). passing (tested n ms a) None ≡ None) (sym e) t

trial_passes : (p : Phase) (n a : ℕ) (lim : limits.Trial) (v : Lines) (ls : List Line) → v.items ≡ ls → passing (tested n ls a) (test_trial (length ls) lim.line lim.low lim.high) ≡ None → refusal p (Trial (given n v a) lim) ≡ None
trial_passes p n a lim v ls e t = subst (λ (ms : List Line). passing (tested n ms a) (test_trial (length ms) lim.line lim.low lim.high) ≡ None) (sym e) t

starts : (p : Phase) (n a : ℕ) (v : Lines) (b : Question) → refusal p (Start (given n v a)) ≡ None → b ≡ question (given n v a) → Follows p (Start (given n v a)) told.Started (working b 0 no_counts)
starts p n a v b t e = accepts p (Start (given n v a)) told.Started (working b 0 no_counts) t (refl, ap (λ (c : Question). working c 0 no_counts) e)

tries : (p q : Phase) (g : Given) (lim : limits.Trial) (b : Question) (o : Outcome) → refusal p (Trial g lim) ≡ None → b ≡ tried g lim → Rightly p → Settles b o q → Follows p (Trial g lim) (told.Tried o) q
tries p q g lim b o t e right s =
    let s' = subst (λ (c : Question). Settles c o q) e s in
    accepts p (Trial g lim) (told.Tried o) q t (o, refl, s', widening_derived p q (tried g lim) o right s')

-- where a flow is settled, it is rightly settled
right_flow : (a : Question) (s : Plan) (t : Counts) → Sound a.plant → Solved a s → Rightly (flowing a s t)
right_flow a s t sound solved b r u e =
    let i : a ≡ b = cc in
    let j : s ≡ r = cc in
    (subst (λ (c : Question). Sound c.plant) i sound, subst (λ (c : Question). Solved c r) i (subst (Solved a) j solved))

right_blocked : (a : Question) (H : Junctions) (t : Counts) → Rightly (blocked a H t)
right_blocked a H t b r u e = let z : ◌≡◌ {A = ℕ} 0 1 = cc in absurd (omega arith)

-- ---- plant D
abbrev counts : ℕ → ℕ → ℕ → ℕ → Counts
counts r d r' d' = record { one = tally r d; two = tally r' d' }

D_limited : (r d : ℕ) → r < 18 → d < 108 → Limited D.plant (counts 0 0 r d)
D_limited r d h i = record { first = record { relabels_few = omega arith; discharges_few = omega arith }; second = record { relabels_few = omega arith; discharges_few = omega arith } }

D'_limited : Limited D'.plant (counts 0 0 2 3)
D'_limited = record { first = record { relabels_few = omega arith; discharges_few = omega arith }; second = record { relabels_few = omega arith; discharges_few = omega arith } }

abbrev in_D : Phase
in_D = working D 1 (counts 0 0 1 1)

abbrev at_D : Phase
at_D = flowing D D_plan (counts 0 0 1 2)

abbrev at_D' : Phase
at_D' = flowing D' D'_plan (counts 0 0 2 3)

-- the readings of plant D, from its flow on
D_reads : (v : Lines) (w : Numbers) → v.items ≡ D_lines → w.items ≡ 1 ∷ [] → Run at_D (drop 6 (D_script v w)) at_D'
unfolding set_bytes bytes_from bits_from size
D_reads v w e f = (
  at_D,
  (refl, D, D_plan, counts 0 0 1 2, refl, refl),
  (
    at_D,
    (refl, D, D_plan, counts 0 0 1 2, refl, refl),
    (
      at_D,
      (refl, D, D_plan, counts 0 0 1 2, refl, refl),
      (
        at_D,
        (refl, refl),
        (
          at_D,
          (refl, D, D_plan, counts 0 0 1 2, refl, refl),
          (
            at_D,
            (refl, refl),
            (
              at_D,
              (refl, D, D_plan, counts 0 0 1 2, refl, refl),
              (
                at_D,
                (refl, D, D_plan, counts 0 0 1 2, refl, (w, refl, f)),
                (
                  at_D,
                  (refl, refl),
                  (
                    at_D',
                    tries at_D at_D' (given 3 v 1) (record { line = 0; low = 0; high = 4 }) D' outcome.Flow (trial_passes at_D 3 1 (record { line = 0; low = 0; high = 4 }) v D_lines e refl) (ap (λ (ls : List Line). record { plant = with_limits (record { junctions = 3; lines = ls }) 0 0 4; aim = Greatest }) (sym e))
                        (right_flow D D_plan (counts 0 0 1 2) D_sound D_solved) (D'_plan, counts 0 0 2 3, refl, D'_solved, D'_limited),
                    (
                      at_D',
                      (refl, D', D'_plan, counts 0 0 2 3, refl, refl),
                      (
                        at_D',
                        (refl, refl),
                        (
                          at_D',
                          (refl, refl),
                          refl,
                        ),
                      ),
                    ),
                  ),
                ),
              ),
            ),
          ),
        ),
      ),
    ),
  ),
)

pub d_obeys : DObeys
d_obeys v w e f = (
  at_D',
  (
    idle,
    (refl, refl),
    (
      working D 0 no_counts,
      starts idle 3 1 v D (start_passes idle 3 1 v D_lines e refl) (ap (on 3 Greatest) (sym e)),
      (
        working D 0 no_counts,
        (refl, refl),
        (
          in_D,
          (
            outcome.InWork,
            1,
            refl,
            (
              D,
              0,
              no_counts,
              refl,
              (counts 0 0 1 1, refl, refl, D_limited 1 1 (omega arith) (omega arith), omega arith, inr (D_plan.flow, D_solved.best.feasible)),
              record { relabels_one = omega arith; relabels_two = omega arith; discharges_one = omega arith; discharges_two = omega arith; made = refl },
            ),
          ),
          (
            in_D,
            (refl, refl),
            (
              at_D,
              (
                outcome.Flow,
                1,
                refl,
                (
                  D,
                  1,
                  counts 0 0 1 1,
                  refl,
                  ((D_plan, counts 0 0 1 2, refl, D_solved, D_limited 1 2 (omega arith) (omega arith)), omega arith),
                  record { relabels_one = omega arith; relabels_two = omega arith; discharges_one = omega arith; discharges_two = omega arith; made = refl },
                ),
              ),
              D_reads v w e f,
            ),
          ),
        ),
      ),
    ),
  ),
)

-- ---- plant H
abbrev at_H : Phase
at_H = blocked H ends_only (counts 9 17 0 0)

abbrev at_H' : Phase
at_H' = flowing H' H'_plan (counts 3 6 0 0)

H_limited : Limited H.plant (counts 9 17 0 0)
H_limited = record { first = record { relabels_few = omega arith; discharges_few = omega arith }; second = record { relabels_few = omega arith; discharges_few = omega arith } }

H'_limited : Limited H'.plant (counts 3 6 0 0)
H'_limited = record { first = record { relabels_few = omega arith; discharges_few = omega arith }; second = record { relabels_few = omega arith; discharges_few = omega arith } }

pub h_obeys : HObeys
unfolding set_bytes bytes_from bits_from size
h_obeys v w e f = (
  at_H',
  (
    working H 0 no_counts,
    starts idle 3 1 v H (start_passes idle 3 1 v H_lines e refl) (ap (on 3 Greatest) (sym e)),
    (
      at_H,
      (
        outcome.Impossible,
        17,
        refl,
        (
          H,
          0,
          no_counts,
          refl,
          ((ends_only, counts 9 17 0 0, refl, H_impossible, H_limited, refl), omega arith),
          record { relabels_one = omega arith; relabels_two = omega arith; discharges_one = omega arith; discharges_two = omega arith; made = refl },
        ),
      ),
      (
        at_H,
        (refl, refl),
        (
          at_H,
          (refl, refl),
          (
            at_H,
            (refl, H, ends_only, counts 9 17 0 0, refl, refl),
            (
              at_H,
              (refl, refl),
              (
                at_H',
                tries at_H at_H' (given 3 v 1) (record { line = 0; low = 0; high = 3 }) H' outcome.Flow (trial_passes at_H 3 1 (record { line = 0; low = 0; high = 3 }) v H_lines e refl) (ap (λ (ls : List Line). record { plant = with_limits (record { junctions = 3; lines = ls }) 0 0 3; aim = Greatest }) (sym e))
                    (right_blocked H ends_only (counts 9 17 0 0)) (H'_plan, counts 3 6 0 0, refl, H'_solved, H'_limited),
                (
                  at_H',
                  (refl, H', H'_plan, counts 3 6 0 0, refl, refl),
                  (
                    at_H',
                    (refl, refl),
                    (
                      at_H',
                      (refl, H', H'_plan, counts 3 6 0 0, refl, (w, refl, f)),
                      (
                        at_H',
                        (refl, refl),
                        refl,
                      ),
                    ),
                  ),
                ),
              ),
            ),
          ),
        ),
      ),
    ),
  ),
)

-- ---- plant B
abbrev at_B : ℕ → Phase
at_B x = flowing (least_of x) (least_plan x) (counts 2 4 0 0)

B_limited : (x r d : ℕ) → r < 32 → d < 192 → Limited (least_of x).plant (counts r d 0 0)
B_limited x r d h i = record { first = record { relabels_few = omega arith; discharges_few = mul_lt d (uneven (least_of x).plant.lines 2) i }; second = record { relabels_few = omega arith; discharges_few = omega arith } }
  where
    mul_lt : (d u : ℕ) → d < 192 → d < 4 * (4 * 4) * (1 + 1 + u + 1)
    mul_lt d u i = omega arith

pub b_obeys : BObeys
unfolding set_bytes bytes_from bits_from size
b_obeys v e = (
  at_B 3,
  (
    working (least_of 4) 0 no_counts,
    starts idle 2 2 v (least_of 4) (start_passes idle 2 2 v B_lines e refl) (ap (on 2 Least) (sym e)),
    (
      working (least_of 4) 1 (counts 1 1 0 0),
      (
        outcome.InWork,
        1,
        refl,
        (
          least_of 4,
          0,
          no_counts,
          refl,
          (counts 1 1 0 0, refl, refl, B_limited 4 1 1 (omega arith) (omega arith), omega arith, inl refl),
          record { relabels_one = omega arith; relabels_two = omega arith; discharges_one = omega arith; discharges_two = omega arith; made = refl },
        ),
      ),
      (
        at_B 4,
        (
          outcome.Flow,
          3,
          refl,
          (
            least_of 4,
            1,
            counts 1 1 0 0,
            refl,
            ((least_plan 4, counts 2 4 0 0, refl, least_solved 4 (omega arith), B_limited 4 2 4 (omega arith) (omega arith)), omega arith),
            record { relabels_one = omega arith; relabels_two = omega arith; discharges_one = omega arith; discharges_two = omega arith; made = refl },
          ),
        ),
        (
          at_B 4,
          (refl, least_of 4, least_plan 4, counts 2 4 0 0, refl, refl),
          (
            at_B 4,
            (refl, least_of 4, least_plan 4, counts 2 4 0 0, refl, refl),
            (
              at_B 3,
              tries (at_B 4) (at_B 3) (given 2 v 2) (record { line = 0; low = 3; high = 9 }) (least_of 3) outcome.Flow (trial_passes (at_B 4) 2 2 (record { line = 0; low = 3; high = 9 }) v B_lines e refl) (ap (λ (ls : List Line). record { plant = with_limits (record { junctions = 2; lines = ls }) 0 3 9; aim = Least }) (sym e))
                  (right_flow (least_of 4) (least_plan 4) (counts 2 4 0 0) (least_sound 4 (omega arith)) (least_solved 4 (omega arith))) (least_plan 3, counts 2 4 0 0, refl, least_solved 3 (omega arith), B_limited 3 2 4 (omega arith) (omega arith)),
              (
                at_B 3,
                (refl, least_of 3, least_plan 3, counts 2 4 0 0, refl, refl),
                refl,
              ),
            ),
          ),
        ),
      ),
    ),
  ),
)
