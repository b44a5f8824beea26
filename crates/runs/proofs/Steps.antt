-- What one call does, put together from its parts.
use Rattle.plant.specs.declared.line.Trial as limits
use Rattle.std.proofs.Common.{◌≡◌, ℕ, Bool, true, false, cond, IsOkAnd, MatchResult, Some, None, Ok, Err, Option, Result, refl, ap, ◌∙◌, subst, arith}
use Rattle.law.proofs.Steps.{declines}
use Rattle.law.specs.declared.script.Answer.{Answer}
use Rattle.law.specs.declared.script.Answer.TheVariants as told
use Rattle.law.specs.declared.script.Call.{Call}
use Rattle.law.specs.declared.script.Call.TheVariants.{Crossing, Cut, Flow, Hurdle, Start, Tallies, Total, Trial, Work}
use Rattle.law.specs.declared.script.Given.{Given}
use Rattle.law.specs.Phases.{Phase, Plan, Question}
use Rattle.law.specs.Refusal as Refusal
use Rattle.planner.specs.declared.answer.Outcome.{Outcome}
use Rattle.planner.specs.declared.machine.Planner.{Planner}
use Rattle.planner.specs.declared.machine.State.{State}
use Rattle.planner.specs.declared.machine.State.TheVariants.{Idle, SettledFlow, SettledImpossible, StageOne, StageTwo}
use Rattle.planner.specs.Calls.{Starts, Trials, WorkFails, Works, nothing}
use Rattle.planner.specs.Readings.{test_flow, test_hurdle}
use Rattle.planner.specs.Standing.{Sound}
use Rattle.planner.specs.Works.{in_work}
use Rattle.plant.specs.declared.decline.Decline.{Decline}
use Rattle.plant.specs.declared.decline.Decline.TheVariants.{NothingInWork}
use Rattle.runs.specs.Played.{Played, out_of_turn, SameCall, SameGiven, told_by}
use Rattle.runs.specs.Shows.{InPhase, Lawful, Reads, answered}
use Rattle.runs.proofs.Done.{start_told, trial_told, work_told}

-- a call that only reads
abbrev pub Reading : Call → Type 0
Reading (Start g) = ⊥
Reading (Work k) = ⊥
Reading (Trial g t) = ⊥
Reading Total = Unit {0}
Reading (Flow k) = Unit {0}
Reading (Cut side room) = Unit {0}
Reading (Crossing side room) = Unit {0}
Reading (Hurdle room) = Unit {0}
Reading Tallies = Unit {0}

same_given : (g : Given) → SameGiven g g
same_given g = record { n = refl; lines = refl; aim = refl }

pub same_call : (c : Call) → SameCall c c
same_call (Start g) = (g, refl, same_given g)
same_call (Work k) = refl
same_call (Trial g t) = (g, refl, same_given g)
same_call Total = refl
same_call (Flow k) = refl
same_call (Cut side room) = refl
same_call (Crossing side room) = refl
same_call (Hurdle room) = refl
same_call Tallies = refl

-- a result that is mapped by f, and then told
pub told_is : {A : Type 0} (f : A → Answer) (P : A → Answer → Type 0) (r : Result A Decline) (m : Result Answer Decline) → MatchResult r (λ x. IsOkAnd m (P x)) (λ d. m ≡ Err d) → ((x : A) (a : Answer) → P x a → a ≡ f x)
    → answered m ≡ told_by f r
told_is f P (Ok x) (Ok a) e h = h x a e
told_is f P (Ok x) (Err d) e h = absurd e
told_is f P (Err d) m e h = rw e refl

-- what is answered for it
pub answer_is : (m : Result Answer Decline) (P : Decline → Type 0) (a : Answer) → MatchResult m (λ x. a ≡ x) P → ((d : Decline) → P d → a ≡ told.Declined d) → a ≡ answered m
answer_is (Ok x) P a e h = e
answer_is (Err d) P a e h = h d e

module _ {C : Type 0} (has : C → ℕ → Bool) (clears : C → C → Type 0) (puts : C → ℕ → ℕ → C → Type 0) (takes : C → Option ℕ → C → Type 0) where
  -- call c leads from p to p' and answers a; c' is the same call
  pub record Step (p : Planner C) (c : Call) (a : Answer) (p' : Planner C) (c' : Call) : Type 0 where
    pub sound : Sound has p'
    pub call : SameCall c c'
    pub played : Played has clears puts takes p c a p'
    pub law : Lawful has p c a p'

  reading_played : (p : Planner C) (c : Call) (a : Answer) → Reading c → Played has clears puts takes p c a p
  reading_played p (Start g) a n = absurd n
  reading_played p (Work k) a n = absurd n
  reading_played p (Trial g t) a n = absurd n
  reading_played p Total a n = refl
  reading_played p (Flow k) a n = refl
  reading_played p (Cut side room) a n = refl
  reading_played p (Crossing side room) a n = refl
  reading_played p (Hurdle room) a n = refl
  reading_played p Tallies a n = refl

  -- a reading
  pub read_step : (p p' : Planner C) (c c' c₀ : Call) (m r : Result Answer Decline) → Sound has p → p' ≡ p → c ≡ c₀ → c' ≡ c₀ → Reading c₀ → m ≡ r → Reads has p c₀ r → Step p c (answered m) p' c'
  read_step p p' c c' c₀ m r s e f f' n i h = rw (e, f, f', i) (record { sound = s; call = same_call c₀; played = reading_played p c₀ (answered r) n; law = λ q z. (q, h q z, z) })

  pub start_step : (p p' : Planner C) (c c' : Call) (g : Given) (a : Answer) (r : Result (Unit {0}) Decline)
      → Starts has clears puts takes g.n g.lines.items g.aim p r p' → Sound has p' → c ≡ Start g → c' ≡ Start g → a ≡ told_by (λ _. told.Started) r → Step p c a p' c'
  start_step p p' c c' g a r h s f f' e = rw (f, f', e) (record { sound = s; call = same_call (Start g); played = (r, refl, h); law = λ q z. start_told has clears puts takes g p p' r q h s z })

  pub work_step : (p p' : Planner C) (c c' : Call) (k : ℕ) (a : Answer) (r : Result (Outcome × ℕ) Decline)
      → Works has clears puts takes k p r p' → Sound has p' → c ≡ Work k → c' ≡ Work k → a ≡ told_by (λ x. told.Worked x.0 x.1) r → Step p c a p' c'
  work_step p p' c c' k a r h s f f' e = rw (f, f', e) (record { sound = s; call = same_call (Work k); played = (r, refl, h); law = λ q z. work_told has clears puts takes k p p' r q h s z })

  pub trial_step : (p p' : Planner C) (c c' : Call) (g g' : Given) (lim : limits.Trial) (a : Answer) (r : Result Outcome Decline)
      → Trials has clears puts takes g.n g.lines.items g.aim lim.line lim.low lim.high p r p' → Sound has p' → c ≡ Trial g lim → c' ≡ Trial g' lim → SameGiven g g' → a ≡ told_by (λ x. told.Tried x) r
      → Step p c a p' c'
  trial_step p p' c c' g g' lim a r h s f f' same e = rw (f, f', e) (record { sound = s; call = (g', refl, same); played = (r, refl, h); law = λ q z. trial_told has clears puts takes g lim p p' r q h s z })

  -- what the state declines, the law declines
  flow_refused : (p : Planner C) (q : Phase) (d : Decline) (on : Question → Plan → Option Decline) (m : State) → InPhase m p q → test_flow m ≡ Some d → Refusal.test_flow q on ≡ Some d
  flow_refused p q d on Idle ph e = ap (λ (x : Phase). Refusal.test_flow x on) ph ∙ e
  flow_refused p q d on StageOne ph e = ap (λ (x : Phase). Refusal.test_flow x on) ph ∙ e
  flow_refused p q d on StageTwo ph e = ap (λ (x : Phase). Refusal.test_flow x on) ph ∙ e
  flow_refused p q d on SettledFlow ph e = absurd (let z : ◌≡◌ {A = ℕ} 0 1 = cc in omega arith)
  flow_refused p q d on SettledImpossible ph e = ap (λ (x : Phase). Refusal.test_flow x on) ph.1 ∙ e

  hurdle_refused : (p : Planner C) (q : Phase) (d : Decline) (on : Option Decline) (m : State) → InPhase m p q → test_hurdle m ≡ Some d → Refusal.test_hurdle q on ≡ Some d
  hurdle_refused p q d on Idle ph e = ap (λ (x : Phase). Refusal.test_hurdle x on) ph ∙ e
  hurdle_refused p q d on StageOne ph e = ap (λ (x : Phase). Refusal.test_hurdle x on) ph ∙ e
  hurdle_refused p q d on StageTwo ph e = ap (λ (x : Phase). Refusal.test_hurdle x on) ph ∙ e
  hurdle_refused p q d on SettledFlow ph e = ap (λ (x : Phase). Refusal.test_hurdle x on) ph.1 ∙ e
  hurdle_refused p q d on SettledImpossible ph e = absurd (let z : ◌≡◌ {A = ℕ} 0 1 = cc in omega arith)

  refused_step : (p : Planner C) (c : Call) (d : Decline) → Sound has p → Reading c → ((q : Phase) → InPhase p.state p q → Refusal.refusal q c ≡ Some d) → Step p c (told.Declined d) p c
  refused_step p c d s n h = read_step p p c c c (Err d) (Err d) s refl refl refl n refl (λ q z. declines q c (told.Declined d) q d (h q z.phase) refl refl)

  -- a call out of turn
  pub turn_step : (p : Planner C) (c : Call) (d : Decline) → Sound has p → out_of_turn p.state c ≡ Some d → Step p c (told.Declined d) p c
  turn_step p (Start g) d s e = absurd (let z : ◌≡◌ {A = ℕ} 0 1 = cc in omega arith)
  turn_step p (Work k) d s e = by (in_work p.state) refl e
    where
      by : (f : Bool) → in_work p.state ≡ f → cond f None (Some NothingInWork) ≡ Some d → Step p (Work k) (told.Declined d) p (Work k)
      by true i h = absurd (let z : ◌≡◌ {A = ℕ} 0 1 = cc in omega arith)
      by false i h =
          let same : NothingInWork ≡ d = cc in
          work_step p p (Work k) (Work k) k (told.Declined d) (Err d) (subst (λ (x : Decline). WorkFails has clears puts takes k p x) same (nothing i), refl) s refl refl refl
  turn_step p (Trial g t) d s e = absurd (let z : ◌≡◌ {A = ℕ} 0 1 = cc in omega arith)
  turn_step p Total d s e = refused_step p Total d s tt (λ q ph. flow_refused p q d _ p.state ph e)
  turn_step p (Flow k) d s e = refused_step p (Flow k) d s tt (λ q ph. flow_refused p q d _ p.state ph e)
  turn_step p (Cut side room) d s e = refused_step p (Cut side room) d s tt (λ q ph. flow_refused p q d _ p.state ph e)
  turn_step p (Crossing side room) d s e = refused_step p (Crossing side room) d s tt (λ q ph. flow_refused p q d _ p.state ph e)
  turn_step p (Hurdle room) d s e = refused_step p (Hurdle room) d s tt (λ q ph. hurdle_refused p q d _ p.state ph e)
  turn_step p Tallies d s e = absurd (let z : ◌≡◌ {A = ℕ} 0 1 = cc in omega arith)
