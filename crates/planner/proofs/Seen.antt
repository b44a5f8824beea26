-- What a sound planner's readings are, beside what residuals tell of them.
use Rattle.std.specs.Prelude.{◌≡◌, ℕ, Bool, None, Some, Option, ℤ, refl}
use Rattle.std.proofs.Common.{arith}
use Rattle.plant.specs.declared.decline.Decline.{Decline}
use Rattle.plant.specs.Plants.{Junctions, bound_over, crossing, shortfall_over}
use Rattle.reach.specs.Drying.{first_of}
use Rattle.reach.specs.Sets.{set_bytes, size}
use Rattle.planner.specs.declared.answer.Side.{Side}
use Rattle.planner.specs.declared.machine.Planner.{Planner}
use Rattle.planner.specs.Cuts.{CutSet, HurdleSet}
use Rattle.planner.specs.Readings.{CrossingRead, CrossingSeen, CutRead, CutSeen, CutShown, Filled, HurdleRead, HurdleSeen, HurdleShown, Lending, Listed, Unless, test_flow, test_hurdle, test_room}
use Rattle.planner.specs.Standing.{Sound, arcs_in, plant_in}
use Rattle.planner.specs.Views.{view}
use Rattle.planner.proofs.Shown.{cut_shown, hurdle_shown}

-- a set that was read, said to be more where no test failed
more_said : {A : Type 0} (b : Lending A) (o : Option Decline) (P Q R : Junctions → Type 0) → (o ≡ None → (S : Junctions) → P S → Q S)
    → Unless b o ((S : Junctions) × P S × R S) → Unless b o ((S : Junctions) × Q S × R S)
more_said b (Some d) P Q R f r = r
more_said b None P Q R f r = (r.0, f refl r.0 r.1, r.2)

-- where neither of two tests fails, the first does not
first_passes : (o next : Option Decline) → first_of o next ≡ None → o ≡ None
first_passes None next e = refl
first_passes (Some d) next e = absurd (let z : ◌≡◌ {A = ℕ} 0 1 = cc in omega arith)

module _ {C : Type 0} (has : C → ℕ → Bool) where
  pub cut_seen : (p : Planner C) (side : Side) (b : Lending (ℕ × ℤ)) → CutRead (view p) side b → Sound has p → CutSeen (view p) side b
  cut_seen p side b r s =
      more_said b (first_of (test_flow p.state) (test_room b 32)) (CutSet side p.plant.aim (plant_in p).junctions (arcs_in p)) (CutShown (view p) side)
      (λ S. Filled b 32 (set_bytes S) (size S (plant_in p).junctions, bound_over p.plant.aim (plant_in p).lines S))
      (λ e S c. cut_shown has p side S s (first_passes (test_flow p.state) (test_room b 32) e) c) r

  pub crossing_seen : (p : Planner C) (side : Side) (b : Lending ℕ) → CrossingRead (view p) side b → Sound has p → CrossingSeen (view p) side b
  crossing_seen p side b r s =
      more_said b (test_flow p.state) (CutSet side p.plant.aim (plant_in p).junctions (arcs_in p)) (CutShown (view p) side)
      (λ S. Listed b (crossing S 0 (plant_in p).lines)) (λ e S c. cut_shown has p side S s e c) r

  pub hurdle_seen : (p : Planner C) (b : Lending (ℕ × ℕ)) → HurdleRead (view p) b → Sound has p → HurdleSeen (view p) b
  hurdle_seen p b r s =
      more_said b (first_of (test_hurdle p.state) (test_room b 32)) (HurdleSet (plant_in p).junctions (arcs_in p)) (HurdleShown (view p))
      (λ S. Filled b 32 (set_bytes S) (size S (plant_in p).junctions, shortfall_over (plant_in p).lines S))
      (λ e S c. hurdle_shown has p S s (first_passes (test_hurdle p.state) (test_room b 32) e) c) r
