-- What follows from how a question stands: its stages hold, few discharges were made, and how the next stage begins.
use Rattle.std.proofs.Common.{◌≡◌, ℕ, ◌+◌, ◌*◌, ◌<◌, ◌≤◌, true, List, [], ◌∷◌, ◌++◌, map, length, take, sym, refl, ap, ◌∙◌, subst, mul-le-mul, arith, length-append}
use Rattle.std.proofs.lemmas.List.{length-map, take_at, take-map}
use Rattle.plant.specs.declared.aim.Aim.{Aim}
use Rattle.plant.specs.declared.aim.Aim.TheVariants.{Greatest, Least}
use Rattle.plant.specs.declared.held.HeldLine.{HeldLine}
use Rattle.plant.specs.declared.held_plant.HeldPlant.{HeldPlant}
use Rattle.plant.specs.Held.{Arc, arc, arcs, flows_of, line_of, lines_of, plant_of}
use Rattle.plant.specs.Plants as plants
use Rattle.plant.specs.Plants.{Best, Feasible, Flow, Plant}
use Rattle.plant.proofs.Tested.{held_front}
use Rattle.stage.specs.First.{back_line, filled, first_arcs, first_lines, second_arcs, shifted, surplus_lines}
use Rattle.stage.specs.Model.{State, discharged}
use Rattle.stage.specs.Runs.{Run, Short, ran, relabels}
use Rattle.stage.specs.States.{Balanced, Holds}
use Rattle.stage.proofs.Begins.{beginning_holds}
use Rattle.stage.proofs.Counts.{runs_end}
use Rattle.stage.proofs.Plants.{second_stage_best}
use Rattle.first.specs.Theorems.{FirstEnded, FirstFlow}
use Rattle.first.proofs.Blocked.{ended_flow}
use Rattle.first.proofs.Found.{first_feasible, second_begins}
use Rattle.first.proofs.Network.{first_begins, first_count, first_holds}
use Rattle.preflow.specs.Stages.{Light, Stands}
use Rattle.preflow.proofs.Opens.{first_light, highs_fit}
use Rattle.preflow.proofs.Standing.{light_still}
use Rattle.planner.specs.declared.answer.Tally.{Tally}
use Rattle.planner.specs.Standing.{Done, Few, Quiet, Two, first_state, goal_of, second_state, start_of}
use Rattle.planner.specs.Tallies.{more, no_tally}

-- ---- the plant that is held
pub sound_plant : (h : HeldPlant) → plants.Sound (plant_of h)
sound_plant h =
    record {
      both = omega (arith, h.sized.0);
      each = λ k j. let l = (held_front h).fine k j in record { from_in = l.0; to_in = l.1; apart = l.2; ordered = l.3 };
    }

pub light_one : (h : HeldPlant) → Light (first_arcs (plant_of h))
light_one h = first_light h.n (plant_of h).lines (held_front h).few (held_front h).fine h.n h.sized.1

light_two : (h : HeldPlant) (ls : List Arc) → lines_of ls ≡ (plant_of h).lines → Light ls
light_two h ls e = omega (arith, ap (plants.summed plants.every plants.high_of) e, highs_fit h.n (plant_of h).lines (held_front h).few (held_front h).fine)

-- ---- runs one after the other
pub ran_then : (n : ℕ) (vs ws : List ℕ) (st : State) → ran n (vs ++ ws) st ≡ ran n ws (ran n vs st)
ran_then n [] ws st = refl
ran_then n (v ∷ vs) ws st = ran_then n vs ws (discharged n v st)

pub run_then : (n s t : ℕ) (vs ws : List ℕ) (st : State) → Run n s t vs st → Run n s t ws (ran n vs st) → Run n s t (vs ++ ws) st
run_then n s t [] ws st a b = b
run_then n s t (v ∷ vs) ws st a b = (a.0, run_then n s t vs ws (discharged n v st) a.1 b)

pub relabels_then : (n : ℕ) (vs ws : List ℕ) (st : State) → relabels n (vs ++ ws) st ≡ relabels n vs st + relabels n ws (ran n vs st)
relabels_then n [] ws st = omega arith
relabels_then n (v ∷ vs) ws st = omega (arith, relabels_then n vs ws (discharged n v st))

pub done_more : (n s t : ℕ) (began st st' : State) (tally : Tally) (vs : List ℕ) (m r : ℕ) → Done n s t began st tally → Run n s t vs st → st' ≡ ran n vs st → length vs ≡ m → relabels n vs st ≡ r →
    Done n s t began st' (more tally m r)
done_more n s t began st st' tally vs m r d run e em er =
    let vs₀ = d.taken in
    let run' : Run n s t vs (ran n vs₀ began) = rw d.is at run in
    let er' : relabels n vs (ran n vs₀ began) ≡ r = rw d.is at er in
    record {
      taken = vs₀ ++ vs;
      run = run_then n s t vs₀ vs began d.run run';
      is = e ∙ ap (ran n vs) d.is ∙ sym (ran_then n vs₀ vs began);
      discharged = omega (arith, length-append vs₀ vs, d.discharged);
      relabelled = omega (arith, relabels_then n vs₀ vs began, d.relabelled);
    }

pub done_none : (n s t : ℕ) (st : State) → Done n s t st st no_tally
done_none n s t st = record { taken = []; run = tt; is = refl; discharged = refl; relabelled = refl }

-- ---- the limits of a stage
few_of : (n s t : ℕ) (began st : State) (tally : Tally) (d : Done n s t began st tally) → Short n (length began.arcs) d.taken began → Few n (length began.arcs) tally
few_of n s t began st tally d short = record { relabels_few = omega (arith, short.relabels_few, d.relabelled); discharges_few = omega (arith, short.discharges_few, d.discharged) }

-- numbers of this size leave room to add
pub roomy : (n m : ℕ) (tally : Tally) → n ≤ 252 → m ≤ 1252 → Few n m tally → (tally.discharges < 400000000) × (tally.relabels < 400000000)
roomy n m tally kn km f =
    let q : n * n ≤ 252 * 252 = mul-le-mul kn kn in
    let q₄ : 4 * (n * n) ≤ 4 * (252 * 252) = omega arith in
    let k₁ : m + 1 ≤ 1253 = omega arith in
    let w : 4 * (n * n) * (m + 1) ≤ 4 * (252 * 252) * 1253 = mul-le-mul q₄ k₁ in
    (omega (arith, f.discharges_few), omega (arith, f.relabels_few))

-- ---- stage one
module _ (h : HeldPlant) (st : State) (one : Tally) (d : Done (h.n + 2) h.n (h.n + 1) (first_state (plant_of h)) st one) where
  one_end : Holds (h.n + 2) h.n (h.n + 1) (first_arcs (plant_of h)) (ran (h.n + 2) d.taken (first_state (plant_of h))).arcs (ran (h.n + 2) d.taken (first_state (plant_of h))).rows
      × Short (h.n + 2) (length (first_state (plant_of h)).arcs) d.taken (first_state (plant_of h))
  one_end = runs_end (h.n + 2) h.n (h.n + 1) (first_arcs (plant_of h)) (first_state (plant_of h)) d.taken (first_holds (plant_of h) (sound_plant h)) d.run

  pub one_holds : Holds (h.n + 2) h.n (h.n + 1) (first_arcs (plant_of h)) st.arcs st.rows
  one_holds = subst (λ (x : State). Holds (h.n + 2) h.n (h.n + 1) (first_arcs (plant_of h)) x.arcs x.rows) (sym d.is) one_end.0

  pub one_lines : lines_of st.arcs ≡ first_lines (plant_of h)
  one_lines = one_holds.alike ∙ (first_begins (plant_of h) (sound_plant h)).lines

  pub one_stands : Stands (h.n + 2) h.n (h.n + 1) st
  one_stands = record { flow = first_arcs (plant_of h); holds = one_holds; light = light_still (first_arcs (plant_of h)) st.arcs one_holds.alike (light_one h) }

  pub one_few : Few (h.n + 2) (length (first_state (plant_of h)).arcs) one
  one_few = few_of (h.n + 2) h.n (h.n + 1) (first_state (plant_of h)) st one d one_end.1

  pub one_ended : Quiet h.n (h.n + 1) st.rows → FirstEnded (plant_of h) (first_arcs (plant_of h)) st.arcs st.rows
  one_ended q = record { ended = record { holds = one_holds; quiet = q }; lines = one_lines }

  one_flow : Quiet h.n (h.n + 1) st.rows → FirstFlow (plant_of h) st.arcs
  one_flow q = ended_flow (plant_of h) (first_arcs (plant_of h)) st.arcs st.rows (one_ended q)

  -- where stage one has ended with every line from n full, stage two may begin
  pub two_lines_begin : Quiet h.n (h.n + 1) st.rows → lines_of (second_arcs (plant_of h).lines st.arcs) ≡ (plant_of h).lines
  two_lines_begin q = (first_feasible (plant_of h) st.arcs (sound_plant h) (one_flow q)).lines

  pub found_feasible : Quiet h.n (h.n + 1) st.rows → filled h.n st.arcs ≡ true → (f : Flow) × Feasible (plant_of h) f
  found_feasible q full = (flows_of (second_arcs (plant_of h).lines st.arcs), (first_feasible (plant_of h) st.arcs (sound_plant h) (one_flow q)).feasible full)

  pub two_balanced : (aim : Aim) → Quiet h.n (h.n + 1) st.rows → filled h.n st.arcs ≡ true → Balanced h.n (start_of aim) (goal_of aim) (second_arcs (plant_of h).lines st.arcs)
  two_balanced Greatest q full = (second_begins (plant_of h) st.arcs (sound_plant h) (one_flow q) full).0
  two_balanced Least q full = (second_begins (plant_of h) st.arcs (sound_plant h) (one_flow q) full).1

-- how many lines stage one has
pub one_length : (h : HeldPlant) → length (first_state (plant_of h)).arcs ≡ length (first_lines (plant_of h))
one_length h =
    let P = plant_of h in
    let s = sound_plant h in
    let e : lines_of (first_state P).arcs ≡ first_lines P = (first_holds P s).alike ∙ (first_begins P s).lines in
    sym (length-map (first_state P).arcs line_of) ∙ ap length e

pub one_count : (h : HeldPlant) → length (first_state (plant_of h)).arcs ≤ 1252
one_count h =
    let k = first_count (plant_of h) (sound_plant h) in
    omega (arith, one_length h, k.count, k.few, (held_front h).few, h.sized.1)

pub one_roomy : (h : HeldPlant) (st : State) (one : Tally) → Done (h.n + 2) h.n (h.n + 1) (first_state (plant_of h)) st one → (one.discharges < 400000000) × (one.relabels < 400000000)
one_roomy h st one d = roomy (h.n + 2) (length (first_state (plant_of h)).arcs) one (omega (arith, h.sized.1)) (one_count h) (one_few h st one d)

-- ---- stage two
start_in : (aim : Aim) (n : ℕ) → 2 ≤ n → start_of aim < n
start_in Greatest n k = omega arith
start_in Least n k = omega arith

goal_in : (aim : Aim) (n : ℕ) → 2 ≤ n → goal_of aim < n
goal_in Greatest n k = omega arith
goal_in Least n k = omega arith

ends_apart : (aim : Aim) → start_of aim ≡ goal_of aim → ⊥
ends_apart Greatest e = omega arith
ends_apart Least e = omega arith

module _ (h : HeldPlant) (aim : Aim) (st : State) (one two : Tally) (w : Two aim (plant_of h) st one two) where
  two_begins : Holds h.n (start_of aim) (goal_of aim) (second_arcs (plant_of h).lines w.found.arcs)
      (second_state aim (plant_of h) w.found.arcs).arcs (second_state aim (plant_of h) w.found.arcs).rows
  two_begins = beginning_holds h.n (start_of aim) (goal_of aim) (second_arcs (plant_of h).lines w.found.arcs)
      (start_in aim h.n h.sized.0) (goal_in aim h.n h.sized.0) (ends_apart aim) (two_balanced h w.found one w.first aim w.quiet w.full)

  two_end : Holds h.n (start_of aim) (goal_of aim) (second_arcs (plant_of h).lines w.found.arcs)
      (ran h.n w.done.taken (second_state aim (plant_of h) w.found.arcs)).arcs (ran h.n w.done.taken (second_state aim (plant_of h) w.found.arcs)).rows
      × Short h.n (length (second_state aim (plant_of h) w.found.arcs).arcs) w.done.taken (second_state aim (plant_of h) w.found.arcs)
  two_end = runs_end h.n (start_of aim) (goal_of aim) (second_arcs (plant_of h).lines w.found.arcs) (second_state aim (plant_of h) w.found.arcs) w.done.taken two_begins w.done.run

  pub two_holds : Holds h.n (start_of aim) (goal_of aim) (second_arcs (plant_of h).lines w.found.arcs) st.arcs st.rows
  two_holds = subst (λ (x : State). Holds h.n (start_of aim) (goal_of aim) (second_arcs (plant_of h).lines w.found.arcs) x.arcs x.rows) (sym w.done.is) two_end.0

  -- what stage one found is a feasible flow
  pub two_feasible : (f : Flow) × Feasible (plant_of h) f
  two_feasible = found_feasible h w.found one w.first w.quiet w.full

  pub two_lines : lines_of st.arcs ≡ (plant_of h).lines
  two_lines = two_holds.alike ∙ two_lines_begin h w.found one w.first w.quiet

  pub two_stands : Stands h.n (start_of aim) (goal_of aim) st
  two_stands = record { flow = second_arcs (plant_of h).lines w.found.arcs; holds = two_holds; light = light_two h st.arcs two_lines }

  pub two_few : Few h.n (length (second_state aim (plant_of h) w.found.arcs).arcs) two
  two_few = few_of h.n (start_of aim) (goal_of aim) (second_state aim (plant_of h) w.found.arcs) st two w.done two_end.1

  -- as many lines as the plant
  pub two_count : length (second_state aim (plant_of h) w.found.arcs).arcs ≡ length (plant_of h).lines
  two_count =
      sym (length-map (second_state aim (plant_of h) w.found.arcs).arcs line_of)
      ∙ ap length (two_begins.alike ∙ two_lines_begin h w.found one w.first w.quiet)

  pub two_roomy : (two.discharges < 400000000) × (two.relabels < 400000000)
  two_roomy = roomy h.n (length (second_state aim (plant_of h) w.found.arcs).arcs) two (omega (arith, h.sized.1)) (omega (arith, two_count, (held_front h).few)) two_few

-- a settled flow is a best one
pub settled_best : (h : HeldPlant) (aim : Aim) (st : State) (one two : Tally) → Two aim (plant_of h) st one two → Quiet (start_of aim) (goal_of aim) st.rows → Best aim (plant_of h) (flows_of st.arcs)
settled_best h Greatest st one two w q =
    (second_stage_best (plant_of h) st.arcs (sound_plant h) (two_lines h Greatest st one two w)).greatest (second_arcs (plant_of h).lines w.found.arcs) st.rows
    (record { holds = two_holds h Greatest st one two w; quiet = q })
settled_best h Least st one two w q =
    (second_stage_best (plant_of h) st.arcs (sound_plant h) (two_lines h Least st one two w)).least (second_arcs (plant_of h).lines w.found.arcs) st.rows
    (record { holds = two_holds h Least st one two w; quiet = q })

-- ---- from stage one to stage two
enough : (P : Plant) (hs : List HeldLine) → lines_of (arcs hs) ≡ first_lines P → length P.lines ≤ length hs
enough P hs e =
    let a : length hs ≡ length (first_lines P) = sym (length-map (arcs hs) line_of ∙ length-map hs arc) ∙ ap length e in
    let b = length-append (map shifted P.lines) (back_line P.lines ∷ surplus_lines P.junctions P.lines P.junctions) in
    omega (arith, a, b, length-map P.lines shifted)

pub opens_lines : (P : Plant) (hs : List HeldLine) → lines_of (arcs hs) ≡ first_lines P → lines_of (arcs (take (length P.lines) hs)) ≡ map shifted P.lines
opens_lines P hs e =
    let r = length P.lines in
    ap lines_of (sym (take-map arc r hs))
    ∙ sym (take-map line_of r (arcs hs))
    ∙ ap (take r) e
    ∙ take_at (map shifted P.lines) _ r (length-map P.lines shifted)
