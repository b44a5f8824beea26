-- What follows from a planner that is sound.
use Rattle.std.proofs.Common.{◌≡◌, ℕ, ◌+◌, ◌*◌, ◌<◌, ◌≤◌, Bool, false, length, Option, sym, ap, ◌∙◌, subst, mul-le-mul, arith}
use Rattle.std.proofs.lemmas.List.{get_or-take, length-take}
use Rattle.plant.specs.declared.aim.Aim.{Aim}
use Rattle.plant.specs.declared.held_plant.HeldPlant.{HeldPlant}
use Rattle.plant.specs.declared.line.Line.{Line}
use Rattle.plant.specs.Held.{flows_of, lines_of, plant_of}
use Rattle.plant.specs.Plants as plants
use Rattle.plant.specs.Plants.{Best, Feasible, no_line}
use Rattle.stage.specs.First.{filled, first_arcs, first_lines}
use Rattle.stage.specs.Model.{State}
use Rattle.cuts.specs.Theorems.{Outward}
use Rattle.first.specs.Theorems.{Blocked, FirstEnded}
use Rattle.first.proofs.Blocked.{first_blocked}
use Rattle.planner.specs.declared.answer.Tally.{Tally}
use Rattle.planner.specs.declared.machine.Planner.{Planner}
use Rattle.planner.specs.declared.machine.State as mode
use Rattle.planner.specs.declared.machine.State.TheVariants.{Idle, StageOne, StageTwo, SettledFlow, SettledImpossible}
use Rattle.planner.specs.Standing.{Few, One, Settled, Sound, Stand, Stuck, Two, WithinLimits, arcs_in, first_state, stage_in, plant_in, second_state}
use Rattle.planner.specs.Tallies.{no_tally}
use Rattle.planner.specs.Works.{Ways, in_one, in_two, through}
use Rattle.planner.proofs.Questions.{one_ended, one_few, one_length, one_roomy, settled_best, sound_plant, two_count, two_few, two_lines, two_roomy}

-- nothing counted is few
some : (n m : ℕ) → 2 ≤ n → (0 < 2 * (n * n)) × (0 < 4 * (n * n) * (m + 1))
some n m k =
    let q : 2 * 2 ≤ n * n = mul-le-mul k k in
    let q₄ : 4 * (2 * 2) ≤ 4 * (n * n) = omega arith in
    let j : 1 ≤ m + 1 = omega arith in
    let w : 4 * (2 * 2) * 1 ≤ 4 * (n * n) * (m + 1) = mul-le-mul q₄ j in
    (omega arith, omega arith)

few_none : (n m : ℕ) (t : Tally) → 2 ≤ n → t ≡ no_tally → Few n m t
few_none n m t k e =
    record {
      relabels_few = omega (arith, (some n m k).0, ap (λ (x : Tally). x.relabels) e);
      discharges_few = omega (arith, (some n m k).1, ap (λ (x : Tally). x.discharges) e);
    }

few_like : (n m k : ℕ) (t : Tally) → m ≡ k → Few n m t → Few n k t
few_like n m k t e f = rw e at f

limits_one : (h : HeldPlant) (st : State) (one two : Tally) → One (plant_of h) st one two → WithinLimits (plant_of h) one two
limits_one h st one two o =
    record {
      first = few_like (h.n + 2) (length (first_state (plant_of h)).arcs) (length (first_lines (plant_of h))) one (one_length h) (one_few h st one o.done);
      second = few_none h.n (length (plant_of h).lines) two h.sized.0 o.none;
    }

limits_two : (h : HeldPlant) (aim : Aim) (st : State) (one two : Tally) → Two aim (plant_of h) st one two → WithinLimits (plant_of h) one two
limits_two h aim st one two w =
    record {
      first = few_like (h.n + 2) (length (first_state (plant_of h)).arcs) (length (first_lines (plant_of h))) one (one_length h) (one_few h w.found one w.first);
      second = few_like h.n (length (second_state aim (plant_of h) w.found.arcs).arcs) (length (plant_of h).lines) two (two_count h aim st one two w) (two_few h aim st one two w);
    }

-- no line of a plant that is held ends at the header
pub outward_plant : (h : HeldPlant) → Outward (plant_of h)
outward_plant h k j e =
    let i : k < h.count = omega (arith, length-take h.count h.lines) in
    h.outward k i (sym (ap (λ (l : Line). l.to) (get_or-take h.count h.lines k no_line i)) ∙ e)

-- small enough to count on
abbrev Small : Tally → Tally → Type 0
Small one two = (one.discharges < 400000000) × (two.discharges < 400000000)

module _ {C : Type 0} where
  by_state : (m : mode.State) (p : Planner C) → Stand m p.plant.aim (plant_in p) (stage_in p) p.one p.two → WithinLimits (plant_in p) p.one p.two
  by_state Idle p s =
      record {
        first = few_none (p.plant.n + 2) (length (first_lines (plant_in p))) p.one (omega arith) s.0;
        second = few_none p.plant.n (length (plant_in p).lines) p.two p.plant.sized.0 s.1;
      }
  by_state StageOne p s = limits_one p.plant (stage_in p) p.one p.two s
  by_state StageTwo p s = limits_two p.plant p.plant.aim (stage_in p) p.one p.two s
  by_state SettledFlow p s = limits_two p.plant p.plant.aim (stage_in p) p.one p.two s.two_done
  by_state SettledImpossible p s = limits_one p.plant (stage_in p) p.one p.two s.one_done

  small_by : (m : mode.State) (p : Planner C) → Stand m p.plant.aim (plant_in p) (stage_in p) p.one p.two → Small p.one p.two
  small_by Idle p s = (omega (arith, ap (λ (x : Tally). x.discharges) s.0), omega (arith, ap (λ (x : Tally). x.discharges) s.1))
  small_by StageOne p s = ((one_roomy p.plant (stage_in p) p.one s.done).0, omega (arith, ap (λ (x : Tally). x.discharges) s.none))
  small_by StageTwo p s = ((one_roomy p.plant s.found p.one s.first).0, (two_roomy p.plant p.plant.aim (stage_in p) p.one p.two s).0)
  small_by SettledFlow p s = ((one_roomy p.plant s.two_done.found p.one s.two_done.first).0, (two_roomy p.plant p.plant.aim (stage_in p) p.one p.two s.two_done).0)
  small_by SettledImpossible p s = ((one_roomy p.plant (stage_in p) p.one s.one_done.done).0, omega (arith, ap (λ (x : Tally). x.discharges) s.one_done.none))

module _ {C : Type 0} (has : C → ℕ → Bool) where
  -- in every state the tallies are within the limits
  pub limits : (p : Planner C) → Sound has p → WithinLimits (plant_in p) p.one p.two
  limits p s = by_state p.state p s.stand

  -- a settled flow is a best flow of the plant
  flow_settled : (p : Planner C) → Sound has p → p.state ≡ SettledFlow → Settled p.plant.aim (plant_in p) (stage_in p) p.one p.two
  flow_settled p s e = subst (λ (m : mode.State). Stand m p.plant.aim (plant_in p) (stage_in p) p.one p.two) e s.stand

  pub flow_best : (p : Planner C) → Sound has p → p.state ≡ SettledFlow → Best p.plant.aim (plant_in p) (flows_of (arcs_in p))
  flow_best p s e = let t = flow_settled p s e in settled_best p.plant p.plant.aim (stage_in p) p.one p.two t.two_done t.quiet

  pub flow_lines : (p : Planner C) → Sound has p → p.state ≡ SettledFlow → lines_of (arcs_in p) ≡ (plant_in p).lines
  flow_lines p s e = two_lines p.plant p.plant.aim (stage_in p) p.one p.two (flow_settled p s e).two_done

  -- where none is feasible, stage one has ended with a line from n that is not full
  stuck_settled : (p : Planner C) → Sound has p → p.state ≡ SettledImpossible → Stuck (plant_in p) (stage_in p) p.one p.two
  stuck_settled p s e = subst (λ (m : mode.State). Stand m p.plant.aim (plant_in p) (stage_in p) p.one p.two) e s.stand

  pub stuck_ended : (p : Planner C) → Sound has p → p.state ≡ SettledImpossible → FirstEnded (plant_in p) (first_arcs (plant_in p)) (arcs_in p) (stage_in p).rows
  stuck_ended p s e = let t = stuck_settled p s e in one_ended p.plant (stage_in p) p.one t.one_done.done t.quiet

  pub stuck_unfilled : (p : Planner C) → Sound has p → p.state ≡ SettledImpossible → filled p.plant.n (arcs_in p) ≡ false
  stuck_unfilled p s e = (stuck_settled p s e).unfilled

  -- so no flow is feasible, and what residuals reach from n is the smallest hurdle of largest shortfall
  pub stuck_blocked : (p : Planner C) → Sound has p → p.state ≡ SettledImpossible → Blocked (plant_in p) (arcs_in p)
  stuck_blocked p s e = first_blocked (plant_in p) (first_arcs (plant_in p)) (arcs_in p) (stage_in p).rows (sound_plant p.plant) (stuck_ended p s e) (stuck_unfilled p s e)

  pub stuck_none : (p : Planner C) → Sound has p → p.state ≡ SettledImpossible → (f : plants.Flow) → Feasible (plant_in p) f → ⊥
  stuck_none p s e = (stuck_blocked p s e).none (outward_plant p.plant)

  module _ (clears : C → C → Type 0) (puts : C → ℕ → ℕ → C → Type 0) (takes : C → Option ℕ → C → Type 0) where
    -- no run makes as many discharges as it may be asked for
    pub run_short : (p p' : Planner C) (most m : ℕ) → Sound has p' → Ways has clears puts takes p most m p' → m < 800000000
    run_short p p' most m s (in_one e o) = omega (arith, (small_by p'.state p' s.stand).0, ap (λ (x : Tally). x.discharges) o.one)
    run_short p p' most m s (in_two e o) = omega (arith, (small_by p'.state p' s.stand).1, ap (λ (x : Tally). x.discharges) o.two)
    run_short p p' most m s (through e t) =
        let k = small_by p'.state p' s.stand in
        omega (arith, k.0, k.1, t.sum, ap (λ (x : Tally). x.discharges) (t.second.one ∙ t.opens.one ∙ t.first.one), ap (λ (x : Tally). x.discharges) t.second.two)
