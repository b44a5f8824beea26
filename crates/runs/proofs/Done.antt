-- Starts, works and trials of a planner follow the law.
use Rattle.plant.specs.declared.line.Trial as limits
use Rattle.std.proofs.Common.{◌≡◌, ℕ, ◌+◌, ◌<◌, Bool, true, false, cond, eqb, List, length, Some, None, Ok, Err, Option, Result, sym, refl, ap, ◌∙◌, subst, inl, inr, arith}
use Rattle.cuts.proofs.Bests.{best_meets, near_far}
use Rattle.cuts.proofs.Hurdles.{worst_exists}
use Rattle.law.proofs.Steps.{accepts, declines}
use Rattle.law.proofs.Settled.{widening_derived, within_limited}
use Rattle.law.specs.declared.script.Answer.TheVariants as told
use Rattle.law.specs.declared.script.Call.TheVariants.{Start, Trial, Work}
use Rattle.law.specs.declared.script.Given.{Given}
use Rattle.law.specs.Law.{Follows, Settles}
use Rattle.law.specs.Phases.{Begun, Counted, Counts, Limited, Phase, Plan, Question, Solved, aim_of, blocked, counts_of, flowing, limit, no_counts, question, tried, working}
use Rattle.law.specs.Promises.{Rightly}
use Rattle.law.specs.Refusal.{passing, refusal, test_work}
use Rattle.planner.specs.declared.answer.Outcome.{Outcome}
use Rattle.planner.specs.declared.answer.Outcome.TheVariants as outcome
use Rattle.planner.specs.declared.answer.Tally.{Tally}
use Rattle.planner.specs.declared.machine.Planner.{Planner}
use Rattle.planner.specs.declared.machine.State.{State}
use Rattle.planner.specs.declared.machine.State.TheVariants.{Idle, SettledFlow, SettledImpossible, StageOne, StageTwo}
use Rattle.planner.specs.Calls as calls
use Rattle.planner.specs.Calls.{Starts, Started, Trials, Works, TrialFails, bad_work, limits_fail, nothing, number, plant_fails}
use Rattle.planner.specs.Limits.{limited}
use Rattle.planner.specs.Standing.{Sound, Stand, arcs_in, plant_in, stage_in}
use Rattle.planner.specs.Tallies.{more, no_tally}
use Rattle.planner.specs.Works.{Runs, SomeActive, Ways, in_one, in_two, in_work, through}
use Rattle.planner.proofs.Laws.{flow_best, limits, stuck_none}
use Rattle.planner.proofs.Questions.{sound_plant, two_feasible}
use Rattle.plant.specs.declared.aim.Aim.{Aim}
use Rattle.plant.specs.declared.aim.Aim.TheVariants.{Greatest, Least}
use Rattle.plant.specs.declared.decline.Decline.{Decline}
use Rattle.plant.specs.declared.decline.Decline.TheVariants.{AimNumber, NothingInWork, WorkNumber}
use Rattle.plant.specs.declared.held_plant.HeldPlant.{HeldPlant}
use Rattle.plant.specs.declared.line.Line.{Line}
use Rattle.plant.specs.Held.{flows_of, plant_of}
use Rattle.plant.specs.Plants.{Plant, with_limits}
use Rattle.plant.specs.Tests.{test, test_list, test_trial, tested, unless}
use Rattle.runs.specs.Played.{told_by}
use Rattle.runs.specs.Shows.{InPhase, Shows, counts_in, made_in, question_in}

-- a number that passes the tests names its aim
tested_aim : (n a : ℕ) (ls : List Line) (aim : Aim) → tested n ls a ≡ Ok aim → aim_of a ≡ aim
tested_aim n a ls aim e = one (eqb a 1) (eqb a 2) (test_list n ls None) e
  where
    one : (b c : Bool) (t : Option Decline) → ◌≡◌ {A = Result Aim Decline} (elim (cond b (Some Greatest) (cond c (Some Least) None)) [ Some x ↦ unless t x | None ↦ Err AimNumber ]) (Ok aim) → cond b Greatest Least ≡ aim
    one true c None h = cc
    one true c (Some d) h = absurd (let z : ◌≡◌ {A = ℕ} 0 1 = cc in omega arith)
    one false true None h = cc
    one false true (Some d) h = absurd (let z : ◌≡◌ {A = ℕ} 0 1 = cc in omega arith)
    one false false t h = absurd (let z : ◌≡◌ {A = ℕ} 0 1 = cc in omega arith)

both_below : (a b x y : ℕ) → a < x → b < y → a + b < x + y
both_below a b x y h k = omega (arith, h, k)

-- a tally that is left as it is
same_more : (t u : Tally) → u ≡ t → u ≡ more t 0 0
same_more t u e = e ∙ sym (ap (λ (x : ℕ). record { relabels = x; discharges = t.discharges + 0 }) (nothing_more t.relabels) ∙ ap (λ (x : ℕ). record { relabels = t.relabels; discharges = x }) (nothing_more t.discharges))
  where
    nothing_more : (x : ℕ) → x + 0 ≡ x
    nothing_more x = omega arith

-- two tallies that grow by m together
grown : (one two one' two' : Tally) (m₁ m₂ r₁ r₂ m : ℕ) → m ≡ m₁ + m₂ → one' ≡ more one m₁ r₁ → two' ≡ more two m₂ r₂
    → Counted (record { one = one; two = two }) m (record { one = one'; two = two' })
grown one two one' two' m₁ m₂ r₁ r₂ m s e f =
    let a = ap (λ (t : Tally). t.relabels) e in
    let b = ap (λ (t : Tally). t.discharges) e in
    let c = ap (λ (t : Tally). t.relabels) f in
    let d = ap (λ (t : Tally). t.discharges) f in
    record { relabels_one = omega (arith, a); relabels_two = omega (arith, c); discharges_one = omega (arith, b); discharges_two = omega (arith, d); made = omega (arith, b, d, s) }

module _ {C : Type 0} (has : C → ℕ → Bool) where
  -- a planner that is settled with a flow stands in a phase that the law allows
  settled_flow : (p : Planner C) → Sound has p → p.state ≡ SettledFlow → (q : Phase) × Settles (question_in p) outcome.Flow q × Shows has p q × (counts_of q ≡ counts_in p)
  settled_flow p s e =
      let P = plant_in p in
      let f = flows_of (arcs_in p) in
      let best = flow_best has p s e in
      let cuts = near_far p.plant.aim P f (sound_plant p.plant) best.feasible in
      let plan : Plan = record { flow = f; near = cuts.0.0; far = cuts.1.0 } in
      let solved : Solved (question_in p) plan = record { best = best; near = cuts.0.1; far = cuts.1.1; meets = best_meets p.plant.aim P f cuts.0.0 (sound_plant p.plant) best cuts.0.1.tightest } in
      let q = flowing (question_in p) plan (counts_in p) in (
        q,
        (plan, counts_in p, refl, solved, within_limited P p.one p.two (sound_plant p.plant) (limits has p s)),
        record { sound = s; phase = subst (λ (m : State). InPhase m p q) (sym e) (plan, refl, refl, solved) },
        refl,
      )

  -- and one that is settled as impossible
  settled_none : (p : Planner C) → Sound has p → p.state ≡ SettledImpossible → (q : Phase) × Settles (question_in p) outcome.Impossible q × Shows has p q × (counts_of q ≡ counts_in p)
  settled_none p s e =
      let P = plant_in p in
      let none = stuck_none has p s e in
      let worst = worst_exists P (sound_plant p.plant) none in
      let stuck = subst (λ (m : State). Stand m p.plant.aim P (stage_in p) p.one p.two) e s.stand in
      let q = blocked (question_in p) worst.0 (counts_in p) in (
        q,
        (worst.0, counts_in p, refl, record { none = none; worst = worst.1 }, within_limited P p.one p.two (sound_plant p.plant) (limits has p s), stuck.one_done.none),
        record { sound = s; phase = subst (λ (m : State). InPhase m p q) (sym e) (worst.0, refl, record { none = none; worst = worst.1 }) },
        refl,
      )

  settled : (p : Planner C) (o : Outcome) → Sound has p → calls.Settles o p.state → (q : Phase) × Settles (question_in p) o q × Shows has p q × (counts_of q ≡ counts_in p)
  settled p outcome.InWork s e = absurd e
  settled p outcome.Flow s e = settled_flow p s e
  settled p outcome.Impossible s e = settled_none p s e

  -- what a phase says is right
  rightly_by : (p : Planner C) (q : Phase) (m : State) → InPhase m p q → Rightly q
  rightly_by p q Idle ph a s t e = absurd (let z : ◌≡◌ {A = ℕ} 0 1 = cc in omega arith)
  rightly_by p q StageOne ph a s t e = absurd (let z : ◌≡◌ {A = ℕ} 0 1 = cc in omega arith)
  rightly_by p q StageTwo ph a s t e = absurd (let z : ◌≡◌ {A = ℕ} 0 1 = cc in omega arith)
  rightly_by p q SettledFlow ph a s t e =
      let ea : question_in p ≡ a = cc in
      let es : ph.0 ≡ s = cc in
      (rw (sym ea) (sound_plant p.plant), subst (λ (z : Plan). Solved a z) es (subst (λ (z : Question). Solved z ph.0) ea ph.3))
  rightly_by p q SettledImpossible ph a s t e = absurd (let z : ◌≡◌ {A = ℕ} 0 1 = cc in omega arith)

  shows_like : (p p' : Planner C) (q : Phase) → p' ≡ p → Shows has p q → Shows has p' q
  shows_like p p' q e s = subst (λ (x : Planner C). Shows has x q) (sym e) s

  -- a start
  pub start_told : (clears : C → C → Type 0) (puts : C → ℕ → ℕ → C → Type 0) (takes : C → Option ℕ → C → Type 0) (g : Given) (p p' : Planner C) (r : Result (Unit {0}) Decline) (q : Phase)
      → Starts has clears puts takes g.n g.lines.items g.aim p r p' → Sound has p' → Shows has p q → (q' : Phase) × Follows q (Start g) (told_by (λ _. told.Started) r) q' × Shows has p' q'
  start_told clears puts takes g p p' (Err d) q h s z = (q, declines q (Start g) (told.Declined d) q d (ap (λ (x : Result Aim Decline). passing x None) h.0) refl refl, shows_like p p' q h.1 z)
  start_told clears puts takes g p p' (Ok x) q h s z =
      let q' = working (question g) 0 no_counts in
      let ea : question g ≡ question_in p' =
      ap (λ (y : Plant). record { plant = y; aim = aim_of g.aim }) (sym h.plant) ∙ ap (λ (y : Aim). record { plant = plant_in p'; aim = y }) (tested_aim g.n g.aim g.lines.items p'.plant.aim h.tests) in
      let m : made_in p' ≡ 0 = omega (arith, ap (λ (t : Tally). t.discharges) h.one, ap (λ (t : Tally). t.discharges) h.two) in
      let c : no_counts ≡ counts_in p' = ap (λ (t : Tally). record { one = t; two = no_tally }) (sym h.one) ∙ ap (λ (t : Tally). record { one = p'.one; two = t }) (sym h.two) in
      let e : q' ≡ working (question_in p') (made_in p') (counts_in p') =
      ap (λ (a : Question). working a 0 no_counts) ea ∙ ap (λ (n : ℕ). working (question_in p') n no_counts) (sym m) ∙ ap (λ (t : Counts). working (question_in p') (made_in p') t) c in (
        q',
        accepts q (Start g) told.Started q' (ap (λ (x : Result Aim Decline). passing x None) h.tests) (refl, refl),
        record { sound = s; phase = subst (λ (m : State). InPhase m p' q') (sym h.state) e },
      )

  -- a trial
  pub trial_told : (clears : C → C → Type 0) (puts : C → ℕ → ℕ → C → Type 0) (takes : C → Option ℕ → C → Type 0) (g : Given) (lim : limits.Trial) (p p' : Planner C) (r : Result Outcome Decline) (q : Phase)
      → Trials has clears puts takes g.n g.lines.items g.aim lim.line lim.low lim.high p r p' → Sound has p' → Shows has p q
      → (q' : Phase) × Follows q (Trial g lim) (told_by (λ x. told.Tried x) r) q' × Shows has p' q'
  unfolding limited
  trial_told clears puts takes g lim p p' (Err d) q h s z = (q, by h.0, shows_like p p' q h.1 z)
    where
      by : TrialFails g.n g.lines.items g.aim lim.line lim.low lim.high d → Follows q (Trial g lim) (told.Declined d) q
      by (plant_fails e) = declines q (Trial g lim) (told.Declined d) q d (ap (λ (x : Result Aim Decline). passing x (test_trial (length g.lines.items) lim.line lim.low lim.high)) e) refl refl
      by (limits_fail aim e f) =
          declines q (Trial g lim) (told.Declined d) q d (ap (λ (x : Result Aim Decline). passing x (test_trial (length g.lines.items) lim.line lim.low lim.high)) e ∙ f) refl refl
  trial_told clears puts takes g lim p p' (Ok o) q h s z =
      let ea : question_in p' ≡ tried g lim =
      ap (λ (y : Plant). record { plant = y; aim = p'.plant.aim }) h.plant ∙ ap (λ (y : Aim). record { plant = with_limits (question g).plant lim.line lim.low lim.high; aim = y }) (sym (tested_aim g.n g.aim g.lines.items p'.plant.aim h.tests)) in
      let w = settled p' o s h.settles in
      let st : Settles (tried g lim) o w.0 = subst (λ (a : Question). Settles a o w.0) ea w.1 in (
        w.0,
        accepts q (Trial g lim) (told.Tried o) w.0 (ap (λ (x : Result Aim Decline). passing x (test_trial (length g.lines.items) lim.line lim.low lim.high)) h.tests ∙ h.trial_tests)
            (o, refl, st, widening_derived q w.0 (tried g lim) o (rightly_by p q p.state z.phase) st),
        w.2,
      )

  -- a planner in work stands in a phase of work
  in_phase_work : (p : Planner C) (q : Phase) (m : State) → in_work m ≡ true → InPhase m p q → q ≡ working (question_in p) (made_in p) (counts_in p)
  in_phase_work p q Idle e ph = absurd (let z : ◌≡◌ {A = ℕ} 0 1 = cc in omega arith)
  in_phase_work p q StageOne e ph = ph
  in_phase_work p q StageTwo e ph = ph
  in_phase_work p q SettledFlow e ph = absurd (let z : ◌≡◌ {A = ℕ} 0 1 = cc in omega arith)
  in_phase_work p q SettledImpossible e ph = absurd (let z : ◌≡◌ {A = ℕ} 0 1 = cc in omega arith)

  not_in_work : (p : Planner C) (q : Phase) (on : Option Decline) (m : State) → in_work m ≡ false → InPhase m p q → test_work q on ≡ Some NothingInWork
  not_in_work p q on Idle e ph = rw ph refl
  not_in_work p q on StageOne e ph = absurd (let z : ◌≡◌ {A = ℕ} 0 1 = cc in omega arith)
  not_in_work p q on StageTwo e ph = absurd (let z : ◌≡◌ {A = ℕ} 0 1 = cc in omega arith)
  not_in_work p q on SettledFlow e ph = rw ph.1 refl
  not_in_work p q on SettledImpossible e ph = rw ph.1 refl

  still_in_work : (p : Planner C) (m : State) → SomeActive m p → in_work m ≡ true
  still_in_work p Idle a = absurd a
  still_in_work p StageOne a = refl
  still_in_work p StageTwo a = refl
  still_in_work p SettledFlow a = absurd a
  still_in_work p SettledImpossible a = absurd a

  phase_working : (p : Planner C) (q : Phase) (m : State) → in_work m ≡ true → q ≡ working (question_in p) (made_in p) (counts_in p) → InPhase m p q
  phase_working p q Idle e f = absurd (let z : ◌≡◌ {A = ℕ} 0 1 = cc in omega arith)
  phase_working p q StageOne e f = f
  phase_working p q StageTwo e f = f
  phase_working p q SettledFlow e f = absurd (let z : ◌≡◌ {A = ℕ} 0 1 = cc in omega arith)
  phase_working p q SettledImpossible e f = absurd (let z : ◌≡◌ {A = ℕ} 0 1 = cc in omega arith)

  -- stage two is begun only where a flow is feasible
  begun_by : (p : Planner C) → Sound has p → (m : State) → p.state ≡ m → SomeActive m p → Begun (plant_in p) (counts_in p)
  begun_by p s Idle e a = absurd a
  begun_by p s StageOne e a = inl (subst (λ (m : State). Stand m p.plant.aim (plant_in p) (stage_in p) p.one p.two) e s.stand).none
  begun_by p s StageTwo e a =
      let two = subst (λ (m : State). Stand m p.plant.aim (plant_in p) (stage_in p) p.one p.two) e s.stand in
      inr (two_feasible p.plant p.plant.aim (stage_in p) p.one p.two two)
  begun_by p s SettledFlow e a = absurd a
  begun_by p s SettledImpossible e a = absurd a

  module _ (clears : C → C → Type 0) (puts : C → ℕ → ℕ → C → Type 0) (takes : C → Option ℕ → C → Type 0) where
    -- the tallies grow by the discharges made
    counted : (p p' : Planner C) (most m : ℕ) → Ways has clears puts takes p most m p' → Counted (counts_in p) m (counts_in p')
    counted p p' most m (in_one e o) = grown p.one p.two p'.one p'.two m 0 o.relabels 0 m (omega arith) o.one (same_more p.two p'.two o.two)
    counted p p' most m (in_two e o) = grown p.one p.two p'.one p'.two 0 m 0 o.relabels m (omega arith) (same_more p.one p'.one o.one) o.two
    counted p p' most m (through e t) =
        grown p.one p.two p'.one p'.two t.before t.after t.first.relabels t.second.relabels m t.sum (t.second.one ∙ t.opens.one ∙ t.first.one)
        (t.second.two ∙ ap (λ (x : Tally). more x t.after t.second.relabels) (t.opens.two ∙ t.first.two))

    work_by : (p p' : Planner C) (k : ℕ) (o : Outcome) (m : ℕ) (q : Phase) → Runs has clears puts takes p k o m p' → Sound has p' → q ≡ working (question_in p) (made_in p) (counts_in p) → refusal q (Work k) ≡ None
        → (q' : Phase) × Follows q (Work k) (told.Worked o m) q' × Shows has p' q'
    work_by p p' k outcome.InWork m q h s e n =
        let P = plant_in p in
        let c = counted p p' k m h.ways in
        let i = still_in_work p' p'.state h.ends.1 in
        let same : question_in p' ≡ question_in p = ap (λ (x : HeldPlant). record { plant = plant_of x; aim = x.aim }) h.plant in
        let l : Limited P (counts_in p') = subst (λ (x : Plant). Limited x (counts_in p')) (ap plant_of h.plant) (within_limited (plant_in p') p'.one p'.two (sound_plant p'.plant) (limits has p' s)) in
        let begun : Begun P (counts_in p') = subst (λ (x : Plant). Begun x (counts_in p')) (ap plant_of h.plant) (begun_by p' s p'.state refl h.ends.1) in
        let q' = working (question_in p) (made_in p + k) (counts_in p') in
        let asks : made_in p' ≡ made_in p + k = omega (arith, c.made, h.ends.0) in
        let below : made_in p + k < limit P = subst (λ (x : ℕ). x < limit P) asks (both_below p'.one.discharges p'.two.discharges _ _ l.first.discharges_few l.second.discharges_few) in (
          q',
          accepts q (Work k) (told.Worked outcome.InWork m) q' n
              (outcome.InWork, m, refl, (question_in p, made_in p, counts_in p, e, (counts_in p', refl, h.ends.0, l, below, begun), c)),
          record { sound = s; phase = phase_working p' q' p'.state i (ap (λ (a : Question). working a (made_in p + k) (counts_in p')) (sym same) ∙ ap (λ (x : ℕ). working (question_in p') x (counts_in p')) (sym asks)) },
        )
    work_by p p' k outcome.Flow m q h s e n =
        let same : question_in p' ≡ question_in p = ap (λ (x : HeldPlant). record { plant = plant_of x; aim = x.aim }) h.plant in
        let w = settled p' outcome.Flow s h.ends in
        let st = subst (λ (a : Question). Settles a outcome.Flow w.0) same w.1 in
        let c = subst (λ (t : Counts). Counted (counts_in p) m t) (sym w.3) (counted p p' k m h.ways) in
        (w.0, accepts q (Work k) (told.Worked outcome.Flow m) w.0 n (outcome.Flow, m, refl, (question_in p, made_in p, counts_in p, e, (st, h.few), c)), w.2)
    work_by p p' k outcome.Impossible m q h s e n =
        let same : question_in p' ≡ question_in p = ap (λ (x : HeldPlant). record { plant = plant_of x; aim = x.aim }) h.plant in
        let w = settled p' outcome.Impossible s h.ends in
        let st = subst (λ (a : Question). Settles a outcome.Impossible w.0) same w.1 in
        let c = subst (λ (t : Counts). Counted (counts_in p) m t) (sym w.3) (counted p p' k m h.ways) in
        (w.0, accepts q (Work k) (told.Worked outcome.Impossible m) w.0 n (outcome.Impossible, m, refl, (question_in p, made_in p, counts_in p, e, (st, h.few), c)), w.2)

    -- a work
    pub work_told : (k : ℕ) (p p' : Planner C) (r : Result (Outcome × ℕ) Decline) (q : Phase) → Works has clears puts takes k p r p' → Sound has p' → Shows has p q
        → (q' : Phase) × Follows q (Work k) (told_by (λ x. told.Worked x.0 x.1) r) q' × Shows has p' q'
    work_told k p p' (Err d) q h s z = (q, by d h.0, shows_like p p' q h.1 z)
      where
        by : (d : Decline) → calls.WorkFails has clears puts takes k p d → Follows q (Work k) (told.Declined d) q
        by d (nothing e) = declines q (Work k) (told.Declined NothingInWork) q NothingInWork (not_in_work p q (test WorkNumber (bad_work k) None) p.state e z.phase) refl refl
        by d (number e b) =
            declines q (Work k) (told.Declined WorkNumber) q WorkNumber
            (ap (λ (x : Phase). test_work x (test WorkNumber (bad_work k) None)) (in_phase_work p q p.state e z.phase) ∙ ap (λ (f : Bool). test WorkNumber f None) b) refl refl
    work_told k p p' (Ok x) q h s z =
        let e = in_phase_work p q p.state h.opened z.phase in
        work_by p p' k x.0 x.1 q h.runs s e (ap (λ (x : Phase). test_work x (test WorkNumber (bad_work k) None)) e ∙ ap (λ (f : Bool). test WorkNumber f None) h.fits)
