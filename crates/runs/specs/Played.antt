-- The run of the model: what each call does to the planner and its chooser.
use Rattle.std.specs.Prelude.{◌≡◌, ℕ, ◌<◌, Bool, cond, List, [], ◌∷◌, length, Some, None, Ok, Err, Option, Result, slice_index_or}
use Rattle.law.specs.declared.script.Answer.{Answer}
use Rattle.law.specs.declared.script.Answer.TheVariants as told
use Rattle.law.specs.declared.script.Call.{Call}
use Rattle.law.specs.declared.script.Call.TheVariants.{Crossing, Cut, Flow, Hurdle, Start, Tallies, Total, Trial, Work}
use Rattle.law.specs.declared.script.Given.{Given}
use Rattle.planner.specs.declared.answer.Outcome.{Outcome}
use Rattle.planner.specs.declared.machine.Planner.{Planner}
use Rattle.planner.specs.declared.machine.State.{State}
use Rattle.planner.specs.Readings.{test_flow, test_hurdle}
use Rattle.planner.specs.Works.{in_work}
use Rattle.plant.specs.declared.decline.Decline.TheVariants.{NothingInWork}
use Rattle.planner.specs.Calls.{Idles, Starts, Trials, Works}
use Rattle.plant.specs.declared.decline.Decline.{Decline}

-- by which test the state declines a call, if it does: 21 to 24
abbrev pub out_of_turn : State → Call → Option Decline
out_of_turn m (Start g) = None
out_of_turn m (Work k) = cond (in_work m) None (Some NothingInWork)
out_of_turn m (Trial g t) = None
out_of_turn m Total = test_flow m
out_of_turn m (Flow k) = test_flow m
out_of_turn m (Cut side room) = test_flow m
out_of_turn m (Crossing side room) = test_flow m
out_of_turn m (Hurdle room) = test_hurdle m
out_of_turn m Tallies = None

-- the answer that tells what a call gave, or why it was declined
abbrev pub told_by : {A : Type 0} → (A → Answer) → Result A Decline → Answer
told_by f (Ok x) = f x
told_by f (Err d) = told.Declined d

module _ {C : Type 0} (has : C → ℕ → Bool) (clears : C → C → Type 0) (puts : C → ℕ → ℕ → C → Type 0) (takes : C → Option ℕ → C → Type 0) where
  -- one call leads from planner p to p': by the discharges that were made, each of a junction that the chooser gave; a reading leaves it
  abbrev pub Played : Planner C → Call → Answer → Planner C → Type 0
  Played p (Start g) r p' = (s : Result (Unit {0}) Decline) × (r ≡ told_by (λ _. told.Started) s) × Starts has clears puts takes g.n g.lines.items g.aim p s p'
  Played p (Work k) r p' = (s : Result (Outcome × ℕ) Decline) × (r ≡ told_by (λ x. told.Worked x.0 x.1) s) × Works has clears puts takes k p s p'
  Played p (Trial g t) r p' = (s : Result Outcome Decline) × (r ≡ told_by (λ x. told.Tried x) s) × Trials has clears puts takes g.n g.lines.items g.aim t.line t.low t.high p s p'
  Played p Total r p' = p' ≡ p
  Played p (Flow k) r p' = p' ≡ p
  Played p (Cut side room) r p' = p' ≡ p
  Played p (Crossing side room) r p' = p' ≡ p
  Played p (Hurdle room) r p' = p' ≡ p
  Played p Tallies r p' = p' ≡ p

  -- calls with their answers, one after the other, lead from p to p'
  abbrev pub Plays : Planner C → List (Call × Answer) → Planner C → Type 0
  Plays p [] p' = p' ≡ p
  Plays p (x ∷ h) p' = (m : Planner C) × Played p x.0 x.1 m × Plays m h p'

  -- the same from a new planner with chooser c
  abbrev pub PlaysNew : C → List (Call × Answer) → Type 0
  PlaysNew c h = (p : Planner C) × (p' : Planner C) × Idles c p × Plays p h p'

-- the same question handed over
pub record SameGiven (g h : Given) : Type 0 where
  pub n : h.n ≡ g.n
  pub lines : h.lines.items ≡ g.lines.items
  pub aim : h.aim ≡ g.aim

-- the same call
abbrev pub SameCall : Call → Call → Type 0
SameCall (Start g) d = (h : Given) × (d ≡ Start h) × SameGiven g h
SameCall (Work k) d = d ≡ Work k
SameCall (Trial g t) d = (h : Given) × (d ≡ Trial h t) × SameGiven g h
SameCall Total d = d ≡ Total
SameCall (Flow k) d = d ≡ Flow k
SameCall (Cut side room) d = d ≡ Cut side room
SameCall (Crossing side room) d = d ≡ Crossing side room
SameCall (Hurdle room) d = d ≡ Hurdle room
SameCall Tallies d = d ≡ Tallies

-- the same calls, place by place
pub record SameCalls (cs ds : List Call) : Type 0 where
  pub many : length ds ≡ length cs
  pub each : (k : ℕ) → k < length cs → SameCall (slice_index_or cs k Tallies) (slice_index_or ds k Tallies)
