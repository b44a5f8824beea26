-- How a planner stands, in the words of the law.
use Rattle.std.specs.Prelude.{◌≡◌, ℕ, ◌+◌, Bool, Ok, Err, Result}
use Rattle.law.specs.declared.script.Answer.{Answer}
use Rattle.law.specs.declared.script.Answer.TheVariants.{Declined}
use Rattle.law.specs.declared.script.Call.{Call}
use Rattle.law.specs.Law.{Follows}
use Rattle.law.specs.Phases.{Counts, Impossible, Phase, Plan, Question, Solved, blocked, flowing, idle, working}
use Rattle.planner.specs.declared.machine.Planner.{Planner}
use Rattle.planner.specs.declared.machine.State.{State}
use Rattle.planner.specs.declared.machine.State.TheVariants.{Idle, SettledFlow, SettledImpossible, StageOne, StageTwo}
use Rattle.planner.specs.Standing.{Sound, arcs_in, plant_in}
use Rattle.plant.specs.declared.decline.Decline.{Decline}
use Rattle.plant.specs.Held.{flows_of}
use Rattle.plant.specs.Plants.{Junctions}

-- the question that a planner has taken up, its tallies, and the discharges that they count
abbrev pub question_in : {C : Type 0} → Planner C → Question
question_in p = record { plant = plant_in p; aim = p.plant.aim }

abbrev pub counts_in : {C : Type 0} → Planner C → Counts
counts_in p = record { one = p.one; two = p.two }

abbrev pub made_in : {C : Type 0} → Planner C → ℕ
made_in p = p.one.discharges + p.two.discharges

-- the phase in which a planner of that state is
abbrev pub InPhase : {C : Type 0} → State → Planner C → Phase → Type 0
InPhase Idle p q = q ≡ idle
InPhase StageOne p q = q ≡ working (question_in p) (made_in p) (counts_in p)
InPhase StageTwo p q = q ≡ working (question_in p) (made_in p) (counts_in p)
InPhase SettledFlow p q = (s : Plan) × (q ≡ flowing (question_in p) s (counts_in p)) × (s.flow ≡ flows_of (arcs_in p)) × Solved (question_in p) s
InPhase SettledImpossible p q = (H : Junctions) × (q ≡ blocked (question_in p) H (counts_in p)) × Impossible (question_in p) H

-- the answer, or why there is none
abbrev pub answered : Result Answer Decline → Answer
answered (Ok a) = a
answered (Err d) = Declined d

-- a sound planner that stands in phase q
pub record Shows {C : Type 0} (has : C → ℕ → Bool) (p : Planner C) (q : Phase) : Type 0 where
  pub sound : Sound has p
  pub phase : InPhase p.state p q

-- what a reading of p gave follows the law wherever p stands, and leaves it there
abbrev pub Reads : {C : Type 0} → (C → ℕ → Bool) → Planner C → Call → Result Answer Decline → Type 0
Reads has p c r = (q : Phase) → Shows has p q → Follows q c (answered r) q

-- answer a to a call that leads from p to p' follows the law
abbrev pub Lawful : {C : Type 0} → (C → ℕ → Bool) → Planner C → Call → Answer → Planner C → Type 0
Lawful has p c a p' = (q : Phase) → Shows has p q → (q' : Phase) × Follows q c a q' × Shows has p' q'
