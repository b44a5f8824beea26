-- What the calls of a planner do.
use Rattle.std.specs.Prelude.{◌≡◌, ℕ, ◌+◌, ◌-◌, ◌≤◌, Bool, true, false, Option}
use Rattle.plant.specs.declared.held_plant.HeldPlant.{HeldPlant}
use Rattle.plant.specs.Held.{plant_of}
use Rattle.stage.specs.First.{filled}
use Rattle.stage.specs.Model.{active, begin_puts}
use Rattle.preflow.specs.Choosers.{Filled}
use Rattle.preflow.specs.declared.network.Network.{Network}
use Rattle.preflow.specs.Networks.{state_in}
use Rattle.preflow.specs.Running.{RanOut}
use Rattle.planner.specs.declared.answer.Tally.{Tally}
use Rattle.planner.specs.declared.answer.Outcome.{Outcome}
use Rattle.planner.specs.declared.answer.Outcome.TheVariants.{InWork, Flow, Impossible}
use Rattle.planner.specs.declared.machine.Planner.{Planner}
use Rattle.planner.specs.declared.machine.State as mode
use Rattle.planner.specs.declared.machine.State.TheVariants.{Idle, StageOne, StageTwo, SettledFlow, SettledImpossible}
use Rattle.planner.specs.Standing.{Quiet, arcs_in, first_state, goal_of, plant_in, second_state, stage_in, start_of}
use Rattle.planner.specs.Tallies.{more, no_tally}

-- whether a stage is open
abbrev pub in_work : mode.State → Bool
in_work Idle = false
in_work StageOne = true
in_work StageTwo = true
in_work SettledFlow = false
in_work SettledImpossible = false

-- something is active
abbrev pub SomeActive : {C : Type 0} → mode.State → Planner C → Type 0
SomeActive Idle p = ⊥
SomeActive StageOne p = (v : ℕ) × (active p.plant.n (p.plant.n + 1) (stage_in p).rows v ≡ true)
SomeActive StageTwo p = (v : ℕ) × (active (start_of p.plant.aim) (goal_of p.plant.aim) (stage_in p).rows v ≡ true)
SomeActive SettledFlow p = ⊥
SomeActive SettledImpossible p = ⊥

-- where a run of at most so many discharges ends
abbrev pub Reached : {C : Type 0} → ℕ → Outcome → ℕ → Planner C → Type 0
Reached most InWork m p = (m ≡ most) × SomeActive p.state p
Reached most Flow m p = p.state ≡ SettledFlow
Reached most Impossible m p = p.state ≡ SettledImpossible

-- discharges of a stage, and the tally that counts them
module _ {C : Type 0} (has : C → ℕ → Bool) (puts : C → ℕ → ℕ → C → Type 0) (takes : C → Option ℕ → C → Type 0) where
  pub record RanCounted (n s t : ℕ) (w : Network C) (tally : Tally) (most m : ℕ) (w' : Network C) (tally' : Tally) : Type 0 where
    pub relabels : ℕ
    pub ran : RanOut has puts takes n s t (state_in w) w.chooser most m relabels (state_in w') w'.chooser
    pub counted : tally' ≡ more tally m relabels

module _ {C : Type 0} (has : C → ℕ → Bool) (clears : C → C → Type 0) (puts : C → ℕ → ℕ → C → Type 0) (takes : C → Option ℕ → C → Type 0) where
  -- stage one is opened on a plant
  pub record OpenedOne (h : HeldPlant) (p p' : Planner C) : Type 0 where
    pub plant : p'.plant ≡ h
    pub state : p'.state ≡ StageOne
    pub begins : stage_in p' ≡ first_state (plant_of h)
    pub one : p'.one ≡ no_tally
    pub two : p'.two ≡ no_tally
    pub chooser : Filled has clears puts p.network.chooser (begin_puts (h.n + 2) h.n (h.n + 1) (stage_in p').rows) p'.network.chooser

  -- stage two is opened with the flow that p holds
  pub record OpenedTwo (p p' : Planner C) : Type 0 where
    pub plant : p'.plant ≡ p.plant
    pub state : p'.state ≡ StageTwo
    pub begins : stage_in p' ≡ second_state p.plant.aim (plant_in p) (arcs_in p)
    pub one : p'.one ≡ p.one
    pub two : p'.two ≡ p.two
    pub chooser : Filled has clears puts p.network.chooser (begin_puts p.plant.n (start_of p.plant.aim) (goal_of p.plant.aim) (stage_in p').rows) p'.network.chooser

  -- discharges in stage one
  pub record InOne (p : Planner C) (most m : ℕ) (p' : Planner C) : Type 0 where
    pub relabels : ℕ
    pub ran : RanOut has puts takes (p.plant.n + 2) p.plant.n (p.plant.n + 1) (stage_in p) p.network.chooser most m relabels (stage_in p') p'.network.chooser
    pub few : m ≤ most
    pub plant : p'.plant ≡ p.plant
    pub one : p'.one ≡ more p.one m relabels
    pub two : p'.two ≡ p.two

  -- discharges in stage two
  pub record InTwo (p : Planner C) (most m : ℕ) (p' : Planner C) : Type 0 where
    pub relabels : ℕ
    pub ran : RanOut has puts takes p.plant.n (start_of p.plant.aim) (goal_of p.plant.aim) (stage_in p) p.network.chooser most m relabels (stage_in p') p'.network.chooser
    pub few : m ≤ most
    pub plant : p'.plant ≡ p.plant
    pub one : p'.one ≡ p.one
    pub two : p'.two ≡ more p.two m relabels

  -- stage one is gone through, ends with every line from n full, and stage two goes on
  pub record Through (p : Planner C) (most m : ℕ) (p' : Planner C) : Type 0 where
    pub ended : Planner C
    pub opened : Planner C
    pub before : ℕ
    pub after : ℕ
    pub first : InOne p most before ended
    pub quiet : Quiet ended.plant.n (ended.plant.n + 1) (stage_in ended).rows
    pub full : filled ended.plant.n (arcs_in ended) ≡ true
    pub opens : OpenedTwo ended opened
    pub second : InTwo opened (most - before) after p'
    pub sum : m ≡ before + after

  -- in which stages the discharges of a run are made
  pub data Ways (p : Planner C) (most m : ℕ) (p' : Planner C) : Type 0 where
    in_one : p.state ≡ StageOne → InOne p most m p' → Ways p most m p'
    through : p.state ≡ StageOne → Through p most m p' → Ways p most m p'
    in_two : p.state ≡ StageTwo → InTwo p most m p' → Ways p most m p'

  -- a run
  pub record Runs (p : Planner C) (most : ℕ) (outcome : Outcome) (m : ℕ) (p' : Planner C) : Type 0 where
    pub ways : Ways p most m p'
    pub ends : Reached most outcome m p'
    pub few : m ≤ most
    pub plant : p'.plant ≡ p.plant
