-- Questions that pass the tests: each has a settlement, of which only the flow is open, and the widening rule follows from it.
use Rattle.plant.specs.declared.line.Trial as limits
use Rattle.std.proofs.Common.{◌≡◌, ℕ, ◌+◌, ◌*◌, ◌<◌, ◌≤◌, ◌↔◌, length, Some, None, Ok, Err, Option, Result, sym, refl, subst, inl, inr, mul-pos, arith}
use Rattle.cuts.proofs.Bests.{best_exists, far_largest, far_same, near_same, near_smallest}
use Rattle.cuts.proofs.Hurdles.{feasible_or, no_flow, worst_same}
use Rattle.cuts.proofs.Reach.{no_better_both, reached_exists, unreaching_exists}
use Rattle.cuts.proofs.Widenings.{widening, widening_keeps}
use Rattle.cuts.specs.Theorems.{Outward}
use Rattle.first.proofs.Network.{first_count}
use Rattle.law.specs.declared.script.Given.{Given}
use Rattle.law.specs.Law.{Settles, Widens}
use Rattle.law.specs.Phases.{Limited, Phase, Plan, Question, Solved, blocked, flowing, lines_one, no_counts, question, tried}
use Rattle.law.specs.Promises.{EverySettled, LimitsSame, ReadingsFixed, WideningDerived}
use Rattle.law.specs.Refusal.{passing, test_given}
use Rattle.planner.proofs.Tried.{limited_tested}
use Rattle.planner.specs.declared.answer.Outcome.{Outcome}
use Rattle.planner.specs.declared.answer.Outcome.TheVariants as outcome
use Rattle.planner.specs.declared.answer.Tally.{Tally}
use Rattle.planner.specs.Limits.{limited}
use Rattle.planner.specs.Standing.{Few, WithinLimits}
use Rattle.plant.proofs.Tested.{Passed, passed}
use Rattle.plant.specs.declared.aim.Aim.{Aim}
use Rattle.plant.specs.declared.decline.Decline.{Decline}
use Rattle.plant.specs.Plants.{Best, Feasible, Flow, Leads, Plant, Sound, line, total, widened}
use Rattle.plant.specs.Tests.{test_trial, tested}

-- what the tests leave of a question
pub record Fit (a : Question) : Type 0 where
  pub sound : Sound a.plant
  pub outward : Outward a.plant
  pub few : a.plant.junctions ≤ 250

fit : (a : Question) → Passed a.plant.junctions a.plant.lines → Fit a
fit a p = record {
  sound = record { both = omega (arith, p.least); each = λ k j. let l = p.fine k j in record { from_in = l.0; to_in = l.1; apart = l.2; ordered = l.3 } };
  outward = p.outward;
  few = p.most;
}

no_some : {d : Decline} {X : Type 0} → Some d ≡ None → X
no_some {d} e = absurd (let z : ◌≡◌ {A = ℕ} 0 1 = cc in omega arith)

-- where no test declines, there is an aim, and the next tests do not decline either
past : (r : Result Aim Decline) (on : Option Decline) → passing r on ≡ None → (aim : Aim) × (r ≡ Ok aim) × (on ≡ None)
past (Ok aim) on e = (aim, refl, e)
past (Err d) on e = no_some e

pub fit_given : (g : Given) (on : Option Decline) → test_given g on ≡ None → Fit (question g)
fit_given g on e =
    let p = past (tested g.n g.lines.items g.aim) on e in
    fit (question g) (passed g.n g.aim g.lines.items p.0 (sym p.1))

pub fit_tried : (g : Given) (lim : limits.Trial) → test_given g (test_trial (length g.lines.items) lim.line lim.low lim.high) ≡ None → Fit (tried g lim)
unfolding limited
fit_tried g lim e =
    let p = past (tested g.n g.lines.items g.aim) (test_trial (length g.lines.items) lim.line lim.low lim.high) e in
    let t = limited_tested g.n g.aim lim.line lim.low lim.high g.lines.items p.0 p.1 p.2 in
    fit (tried g lim) (passed g.n g.aim (limited g.lines.items lim.line lim.low lim.high) p.0 (sym t))

-- no stage has counted yet
none_few : (n m : ℕ) → 0 < n → Few n m no_counts.one
none_few n m h =
    let a : 0 < n * n = mul-pos h h in
    record { relabels_few = omega arith; discharges_few = mul-pos {m = 4 * (n * n)} {n = m + 1} (omega arith) (omega arith) }

pub none_limited : (a : Question) → Fit a → Limited a.plant no_counts
none_limited a f =
    let P = a.plant in
    record { first = none_few (P.junctions + 2) (lines_one P) (omega arith); second = none_few P.junctions (length P.lines) (omega (arith, f.sound.both)) }

-- the limits that the planner keeps are these
pub within_limited : (P : Plant) (one two : Tally) → Sound P → WithinLimits P one two → Limited P (record { one = one; two = two })
within_limited P one two s w = record { first = subst (λ (m : ℕ). Few (P.junctions + 2) m one) (first_count P s).count w.first; second = w.second }

pub limits_same : LimitsSame
limits_same P one two s = (within_limited P one two s, λ l. record { first = subst (λ (m : ℕ). Few (P.junctions + 2) m one) (sym (first_count P s).count) l.first; second = l.second })

-- ---- a settlement
pub settled_flow : (a : Question) (f : Flow) → Sound a.plant → Best a.aim a.plant f → (s : Plan) × Solved a s
settled_flow a f sound best =
    let n = reached_exists a.aim a.plant f sound in
    let u = unreaching_exists a.aim a.plant f sound in
    let near = near_smallest a.aim a.plant f n.0 sound best n.1 in
    let far = far_largest a.aim a.plant f u.0 sound best u.1 in
    (record { flow = f; near = n.0; far = u.0 }, record { best = best; near = near.0; far = far.0; meets = near.1 })

settlement : (a : Question) → Fit a → (o : Outcome) × (q : Phase) × Settles a o q
settlement a h = elim (feasible_or a.plant h.sound) [
  | inl x ↦
      let b = (best_exists a.aim a.plant h.sound).1 (x.0, x.1) in
      let s = settled_flow a b.0 h.sound b.1 in
      (outcome.Flow, flowing a s.0 no_counts, (s.0, no_counts, refl, s.1, none_limited a h))
  | inr x ↦ (
    outcome.Impossible,
    blocked a x.0 no_counts,
    (x.0, no_counts, refl, record { none = λ f. no_flow a.plant x.0 f h.sound h.outward x.1.hurdle; worst = x.1 }, none_limited a h, refl),
  )
]

pub every_settled : EverySettled
every_settled = (λ p g e. settlement (question g) (fit_given g None e), λ p g lim e. settlement (tried g lim) (fit_tried g lim e))

-- ---- what is fixed
pub readings_fixed : ReadingsFixed
readings_fixed a = record {
  apart = λ s H x y. y.none s.flow x.best.feasible;
  totals = λ s r x y. no_better_both a.aim (total a.plant s.flow) (total a.plant r.flow) (y.best.best s.flow x.best.feasible) (x.best.best r.flow y.best.feasible);
  nears = λ s r x y. near_same a.aim a.plant s.near r.near x.near y.near;
  fars = λ s r x y. far_same a.aim a.plant s.far r.far x.far y.far;
  hurdles = λ H K x y. worst_same a.plant H K x.worst y.worst;
}

-- ---- the widening rule
module _ (a b : Question) (k : ℕ) (s : Plan) (w : Widens a k b) (sound : Sound a.plant) (old : Solved a s) where
  totals_kept : (f : Flow) → Best b.aim b.plant f → total b.plant f ≡ total a.plant s.flow ↔ (Leads s.near s.far (line a.plant k) → ⊥)
  totals_kept f best =
      let best' : Best a.aim (widened a.aim a.plant k w.limit) f
      = subst (λ (P : Plant). Best a.aim P f) w.plant (subst (λ (x : Aim). Best x b.plant f) w.aim best) in
      subst (λ (P : Plant). total P f ≡ total a.plant s.flow ↔ (Leads s.near s.far (line a.plant k) → ⊥)) (sym w.plant)
      (widening a.aim a.plant s.flow f s.near s.far k w.limit sound old.best old.near old.far w.inside w.wider best')

  flow_kept : Feasible b.plant s.flow
  flow_kept = subst (λ (P : Plant). Feasible P s.flow) (sym w.plant) (widening_keeps a.aim a.plant s.flow k w.limit w.inside w.wider old.best.feasible)

pub widening_derived : WideningDerived
widening_derived p q b outcome.InWork right settles = absurd settles
widening_derived p q b outcome.Flow right (r, u, e, new, l) = λ a s t k is w. let old = right a s t is in (r, u, e, totals_kept a b k s w old.0 old.1 r.flow new.best)
widening_derived p q b outcome.Impossible right (H, u, e, new, l, z) = λ a s t k is w. let old = right a s t is in absurd (new.none s.flow (flow_kept a b k s w old.0 old.1))
