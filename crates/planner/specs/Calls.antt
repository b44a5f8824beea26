-- What a call answers, and what it does to the planner.
use Rattle.std.specs.Prelude.{◌≡◌, ℕ, ◌+◌, Bool, true, false, ◌||◌, List, length, Some, None, Ok, Err, Option, Result, ◌==◌, nat_lt}
use Rattle.plant.specs.declared.aim.Aim.{Aim}
use Rattle.plant.specs.declared.decline.Decline.{Decline}
use Rattle.plant.specs.declared.decline.Decline.TheVariants.{NothingInWork, WorkNumber}
use Rattle.plant.specs.declared.line.Line.{Line}
use Rattle.plant.specs.Tests.{test_trial, tested}
use Rattle.stage.specs.Model.{begin_puts}
use Rattle.preflow.specs.Choosers.{Filled}
use Rattle.planner.specs.declared.answer.Outcome.{Outcome}
use Rattle.planner.specs.declared.answer.Outcome.TheVariants.{Flow, Impossible, InWork}
use Rattle.planner.specs.declared.machine.Planner.{Planner}
use Rattle.planner.specs.declared.machine.State as mode
use Rattle.planner.specs.declared.machine.State.TheVariants.{Idle, SettledFlow, SettledImpossible, StageOne}
use Rattle.planner.specs.Limits.{limited}
use Rattle.planner.specs.Standing.{first_state, stage_in, plant_in}
use Rattle.planner.specs.Tallies.{no_tally}
use Rattle.planner.specs.Works.{Runs, in_work}

-- a planner made with chooser c
pub record Idles {C : Type 0} (c : C) (p : Planner C) : Type 0 where
  pub state : p.state ≡ Idle
  pub chooser : p.network.chooser ≡ c
  pub one : p.one ≡ no_tally
  pub two : p.two ≡ no_tally

-- a number that no work may ask for
abbrev pub bad_work : ℕ → Bool
bad_work k = k == 0 || nat_lt 60000 k

-- the state that a settled outcome leaves
abbrev pub Settles : Outcome → mode.State → Type 0
Settles InWork m = ⊥
Settles Flow m = m ≡ SettledFlow
Settles Impossible m = m ≡ SettledImpossible

-- why a trial of line k of a list is declined
pub data TrialFails (n : ℕ) (ls : List Line) (a k low high : ℕ) (d : Decline) : Type 0 where
  plant_fails : tested n ls a ≡ Err d → TrialFails n ls a k low high d
  limits_fail : (aim : Aim) → tested n ls a ≡ Ok aim → test_trial (length ls) k low high ≡ Some d → TrialFails n ls a k low high d

module _ {C : Type 0} (has : C → ℕ → Bool) (clears : C → C → Type 0) (puts : C → ℕ → ℕ → C → Type 0) (takes : C → Option ℕ → C → Type 0) where
  -- an accepted start: the question is held, and stage one has begun
  pub record Started (n : ℕ) (ls : List Line) (a : ℕ) (p p' : Planner C) : Type 0 where
    pub tests : tested n ls a ≡ Ok p'.plant.aim
    pub plant : plant_in p' ≡ record { junctions = n; lines = ls }
    pub state : p'.state ≡ StageOne
    pub begins : stage_in p' ≡ first_state (plant_in p')
    pub one : p'.one ≡ no_tally
    pub two : p'.two ≡ no_tally
    pub chooser : Filled has clears puts p.network.chooser (begin_puts (p'.plant.n + 2) p'.plant.n (p'.plant.n + 1) (stage_in p').rows) p'.network.chooser

  abbrev pub Starts : ℕ → List Line → ℕ → Planner C → Result (Unit {0}) Decline → Planner C → Type 0
  Starts n ls a p (Ok x) p' = Started n ls a p p'
  Starts n ls a p (Err d) p' = (tested n ls a ≡ Err d) × (p' ≡ p)

  -- why a work is declined
  pub data WorkFails (k : ℕ) (p : Planner C) : Decline → Type 0 where
    nothing : in_work p.state ≡ false → WorkFails k p NothingInWork
    number : in_work p.state ≡ true → bad_work k ≡ true → WorkFails k p WorkNumber

  pub record WorkDone (k : ℕ) (p : Planner C) (r : Outcome × ℕ) (p' : Planner C) : Type 0 where
    pub opened : in_work p.state ≡ true
    pub fits : bad_work k ≡ false
    pub runs : Runs has clears puts takes p k r.0 r.1 p'

  abbrev pub Works : ℕ → Planner C → Result (Outcome × ℕ) Decline → Planner C → Type 0
  Works k p (Ok r) p' = WorkDone k p r p'
  Works k p (Err d) p' = WorkFails k p d × (p' ≡ p)

  -- a trial: the list with the limits is started, and run until it settles
  pub record TrialDone (n : ℕ) (ls : List Line) (a k low high : ℕ) (p : Planner C) (outcome : Outcome) (p' : Planner C) : Type 0 where
    pub started : Planner C
    pub made : ℕ
    pub tests : tested n ls a ≡ Ok p'.plant.aim
    pub trial_tests : test_trial (length ls) k low high ≡ None
    pub starts : Started n (limited ls k low high) a p started
    pub runs : Runs has clears puts takes started 4294967295 outcome made p'
    pub plant : plant_in p' ≡ record { junctions = n; lines = limited ls k low high }
    pub settles : Settles outcome p'.state

  abbrev pub Trials : ℕ → List Line → ℕ → ℕ → ℕ → ℕ → Planner C → Result Outcome Decline → Planner C → Type 0
  Trials n ls a k low high p (Ok o) p' = TrialDone n ls a k low high p o p'
  Trials n ls a k low high p (Err d) p' = TrialFails n ls a k low high d × (p' ≡ p)
