-- The sets that are read, as sets of a plant and its flow.
use Rattle.std.proofs.Common.{◌≡◌, ℕ, ◌<◌, Bool, true, List, refl, ⊎_elim, arith}
use Rattle.plant.specs.declared.aim.Aim.{Aim}
use Rattle.plant.specs.declared.aim.Aim.TheVariants.{Greatest, Least}
use Rattle.plant.specs.declared.held_plant.HeldPlant.{HeldPlant}
use Rattle.plant.specs.Held.{Arc, flows_of, lines_of, plant_of}
use Rattle.plant.specs.Plants.{Junctions, Plant, Reached, Residual, Unreaching}
use Rattle.plant.proofs.Tested.{held_front}
use Rattle.reach.proofs.Paths.{Carries, EndsBelow, reaching, residual_reaches, turned_path, turned_reaches}
use Rattle.reach.specs.Marking.{Reaches}
use Rattle.std.proofs.lemmas.Bool.{both_ways, cases_Bool}
use Rattle.planner.specs.declared.answer.Side.TheVariants.{Near, Far}
use Rattle.planner.specs.Cuts.{CutSet, Missed}

carried_by : (P : Plant) (as' : List Arc) → lines_of as' ≡ P.lines → Carries as' P (flows_of as')
carried_by P as' e = record { lines = e; flows = refl }

-- the near cut is what residuals reach from the header
pub near_reached : (aim : Aim) (P : Plant) (as' : List Arc) (S : Junctions) → lines_of as' ≡ P.lines → EndsBelow P.junctions P → 1 < P.junctions
    → CutSet Near aim P.junctions as' S → Reached aim P (flows_of as') S
near_reached Greatest P as' S e b h s =
    let t = residual_reaches as' P (flows_of as') P.junctions 0 (carried_by P as' e) b (omega arith) in
    record { below = λ v z. ((s v).0 z).0; inside = λ v z. (t v).0 ((s v).0 z).1; outside = λ v l f r. both_ways (S v) f ((s v).1 l ((t v).1 r)) }
near_reached Least P as' S e b h s =
    let t = turned_reaches as' P (flows_of as') P.junctions 0 (carried_by P as' e) b (omega arith) in
    record { below = λ v z. ((s v).0 z).0; inside = λ v z. (t v).0 ((s v).0 z).1; outside = λ v l f r. both_ways (S v) f ((s v).1 l ((t v).1 r)) }

-- the far cut is all from which residuals do not reach the tank
pub far_unreaching : (aim : Aim) (P : Plant) (as' : List Arc) (S : Junctions) → lines_of as' ≡ P.lines → EndsBelow P.junctions P → 1 < P.junctions
    → CutSet Far aim P.junctions as' S → Unreaching aim P (flows_of as') S
far_unreaching Greatest P as' S e b h s =
    let t = reaching as' P (flows_of as') P.junctions 1 (carried_by P as' e) b h in
    record { below = λ v z. ((s v).0 z).0; inside = λ v z r. ((s v).0 z).1 ((t v).1 r); outside = λ v l f. (t v).0 ((s v).1 l f) }
far_unreaching Least P as' S e b h s =
    let f = flows_of as' in
    let t = residual_reaches as' P f P.junctions 1 (carried_by P as' e) b h in
    record {
      below = λ v z. ((s v).0 z).0;
      inside = λ v z r. ((s v).0 z).1 ((t v).1 (turned_path (λ x y. Residual P f y x) v r));
      outside = λ v l z. turned_path (Residual P f) 1 ((t v).0 ((s v).1 l z));
    }

-- a junction that is not reached is a member
pub missed_member : (e : ℕ → ℕ → Bool) (n from m : ℕ) (S : Junctions) → Missed e n from m S → (v : ℕ) → v < m → (Reaches e n from v → ⊥) → S v ≡ true
missed_member e n from m S s v l never = ⊎_elim (λ t. t) (λ f. absurd (never ((s v).1 l f))) (cases_Bool (S v))

-- a plant that is held has two junctions or more, and ends below their number
pub held_both : (p : HeldPlant) → 1 < (plant_of p).junctions
held_both p = omega (arith, p.sized.0)

pub held_ends : (p : HeldPlant) → EndsBelow (plant_of p).junctions (plant_of p)
held_ends p k h = let f = (held_front p).fine k h in (f.0, f.1)
