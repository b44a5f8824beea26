-- A planner that works until it is settled.
use Rattle.std.proofs.Common.{◌≡◌, ℕ, ◌+◌, ◌<◌, true, false, Option, refl, ap, ◌∙◌, arith}
use Rattle.chooser.specs.declared.fifo.Fifo.{Fifo}
use Rattle.chooser.specs.FifoCalls.{holds}
use Rattle.std.proofs.lemmas.Bool.{both_ways}
use Rattle.plant.specs.declared.decline.Decline.{Decline}
use Rattle.plant.proofs.Tested.{held_front}
use Rattle.planner.specs.Calls.{WorkFails, nothing, number}
use Rattle.planner.specs.declared.answer.Tally.{Tally}
use Rattle.planner.specs.declared.machine.Planner.{Planner}
use Rattle.planner.specs.declared.machine.State.{State}
use Rattle.planner.specs.declared.machine.State.TheVariants.{Idle, StageOne, StageTwo, SettledFlow, SettledImpossible}
use Rattle.planner.specs.Standing.{Sound}
use Rattle.planner.specs.Works.{SomeActive, Ways, in_one, in_two, in_work, through}
use Rattle.planner.proofs.Laws.{limits}
use Rattle.planner.proofs.Questions.{one_count, one_length, roomy}

-- the discharges of both stages
abbrev pub made : Planner Fifo → ℕ
made p = p.one.discharges + p.two.discharges

pub made_few : (p : Planner Fifo) → Sound holds p → made p < 800000000
made_few p s =
    let w = limits holds p s in
    let a = roomy (p.plant.n + 2) _ p.one (omega (arith, p.plant.sized.1)) (omega (arith, one_count p.plant, one_length p.plant)) w.first in
    let b = roomy p.plant.n _ p.two (omega (arith, p.plant.sized.1)) (omega (arith, (held_front p.plant).few)) w.second in
    omega (arith, a.0, b.0)

-- something is active only while a stage is open
pub open_stage : (m : State) (p : Planner Fifo) → SomeActive m p → in_work m ≡ true
open_stage Idle p a = absurd a
open_stage StageOne p a = refl
open_stage StageTwo p a = refl
open_stage SettledFlow p a = absurd a
open_stage SettledImpossible p a = absurd a

abbrev count : Tally → ℕ
count t = t.discharges

module _ (clears : Fifo → Fifo → Type 0) (puts : Fifo → ℕ → ℕ → Fifo → Type 0) (takes : Fifo → Option ℕ → Fifo → Type 0) where
  -- a work of 60,000 is not declined while a stage is open
  pub never_fails : (p : Planner Fifo) (d : Decline) → in_work p.state ≡ true → WorkFails holds clears puts takes 60000 p d → ⊥
  never_fails p d e (nothing f) = both_ways (in_work p.state) f e
  never_fails p d e (number f b) = both_ways false refl b

  -- a run adds its discharges
  pub made_more : (p p' : Planner Fifo) (most m : ℕ) → Ways holds clears puts takes p most m p' → made p' ≡ made p + m
  made_more p p' most m (in_one e o) = omega (arith, ap count o.one, ap count o.two)
  made_more p p' most m (in_two e o) = omega (arith, ap count o.one, ap count o.two)
  made_more p p' most m (through e t) =
      omega (arith, t.sum, ap count (t.second.one ∙ t.opens.one ∙ t.first.one), ap count t.second.two, ap count (t.opens.two ∙ t.first.two))
