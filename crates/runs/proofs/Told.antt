-- Readings of a planner follow the law.
use Rattle.std.proofs.Common.{◌≡◌, ℕ, ◌<◌, ◌≤◌, min, Bool, true, false, ltb, leb, List, ◌++◌, length, get_or, take, drop, ℤ, None, Ok, Err, Result, Vec, sym, refl, ap, ◌∙◌, subst, ◌⊎◌, inl, inr, arith}
use mathlib.Core.Path.{fun_ext}
use Rattle.cuts.proofs.Bests.{far_same, near_same}
use Rattle.cuts.proofs.Hurdles.{worst_same}
use Rattle.law.specs.declared.script.Answer.{Answer}
use Rattle.law.specs.declared.script.Answer.TheVariants as told
use Rattle.law.specs.declared.script.Call.TheVariants.{Crossing, Cut, Flow, Hurdle, Tallies, Total}
use Rattle.law.specs.Law.{Decided, Follows}
use Rattle.law.specs.Refusal as Refusal
use Rattle.law.specs.Phases.{Counts, Phase, Plan, Question, Solved, cut_of, flowing, blocked, Impossible}
use Rattle.planner.specs.declared.answer.Side.{Side}
use Rattle.planner.specs.declared.answer.Side.TheVariants.{Far, Near}
use Rattle.planner.specs.declared.answer.Tally.{Tally}
use Rattle.planner.specs.declared.machine.Planner.{Planner}
use Rattle.planner.specs.declared.machine.State.{State}
use Rattle.planner.specs.declared.machine.State.TheVariants.{Idle, SettledFlow, SettledImpossible, StageOne, StageTwo}
use Rattle.planner.specs.Cuts.{Extreme}
use Rattle.planner.specs.Readings.{CrossingSeen, CutSeen, CutShown, Filled, HurdleSeen, HurdleShown, Lending, Listed, Unless, flow_answer, test_flow, test_hurdle, total_answer}
use Rattle.planner.specs.Standing.{Sound, Stand, arcs_in, plant_in, stage_in}
use Rattle.planner.specs.Tallies.{no_tally}
use Rattle.planner.specs.Views.{View, view}
use Rattle.planner.proofs.Laws.{flow_lines}
use Rattle.plant.specs.declared.decline.Decline.{Decline}
use Rattle.plant.specs.declared.decline.Decline.TheVariants.{BufferLength, LineNumber}
use Rattle.plant.specs.declared.line.Line.{Line}
use Rattle.plant.specs.Held.{flows_of, lines_of}
use Rattle.plant.specs.Plants as plants
use Rattle.plant.specs.Plants.{Junctions, list_total}
use Rattle.plant.specs.Tests.{test, unless}
use Rattle.std.proofs.lemmas.Bool.{both_ways, cases_lt, le-ltb, lt-ltb}
use Rattle.std.proofs.Math.Nat.{min-eq_left, min-eq_right, min-le_left}
use Rattle.std.proofs.lemmas.List.{append-nil, drop_all, length-map, length-take-le, take_all, take-append-le}
use Rattle.reach.specs.Drying.{first_of}
use Rattle.reach.specs.Sets.{set_bytes, size}
use Rattle.std.specs.declared.alloc.Global.{Global}
use Rattle.runs.specs.Played.{told_by}
use Rattle.runs.specs.Shows.{InPhase, Shows, counts_in, question_in}

-- a line number that is tested
flow_last : (a : Question) (s : Plan) (t : Counts) (k : ℕ) (r : Result ℕ Decline) (f : Bool) → r ≡ unless (test LineNumber f None) (plants.at s.flow k)
    → Decided (test LineNumber f None) (flowing a s t) (Flow k) (told_by (λ x. told.Flow x) r) (flowing a s t)
flow_last a s t k r true e = rw e (refl, refl)
flow_last a s t k r false e = rw e (refl, a, s, t, refl, refl)

module _ {C : Type 0} (has : C → ℕ → Bool) where
  total_by : (p : Planner C) (q : Phase) (r : Result ℤ Decline) → Sound has p → (m : State) → p.state ≡ m → InPhase m p q
      → r ≡ unless (test_flow m) (list_total (lines_of (arcs_in p)) (flows_of (arcs_in p))) → Follows q Total (told_by (λ x. told.Total x) r) q
  total_by p q r s Idle e ph t = rw (ph, t) (refl, refl)
  total_by p q r s StageOne e ph t = rw (ph, t) (refl, refl)
  total_by p q r s StageTwo e ph t = rw (ph, t) (refl, refl)
  total_by p q r s SettledFlow e ph t =
      let v : list_total (lines_of (arcs_in p)) (flows_of (arcs_in p)) ≡ list_total (plant_in p).lines ph.0.flow =
      ap (λ (ls : List Line). list_total ls (flows_of (arcs_in p))) (flow_lines has p s e) ∙ ap (list_total (plant_in p).lines) (sym ph.2) in
      rw (ph.1, t) (refl, question_in p, ph.0, counts_in p, refl, ap (λ (x : ℤ). told.Total x) v)
  total_by p q r s SettledImpossible e ph t = rw (ph.1, t) (refl, refl)

  pub total_told : (p : Planner C) (q : Phase) (r : Result ℤ Decline) → Shows has p q → r ≡ total_answer (view p) → Follows q Total (told_by (λ x. told.Total x) r) q
  total_told p q r s t = total_by p q r s.sound p.state refl s.phase t

  -- as many flows as lines
  pub as_many : (p : Planner C) → Sound has p → p.state ≡ SettledFlow → length (arcs_in p) ≡ length (plant_in p).lines
  as_many p s e = sym (length-map (arcs_in p) _) ∙ ap length (flow_lines has p s e)

  flow_by : (p : Planner C) (q : Phase) (k : ℕ) (r : Result ℕ Decline) → Sound has p → (m : State) → p.state ≡ m → InPhase m p q
      → r ≡ unless (first_of (test_flow m) (test LineNumber (leb (length (arcs_in p)) k) None)) (get_or (flows_of (arcs_in p)) k 0) → Follows q (Flow k) (told_by (λ x. told.Flow x) r) q
  flow_by p q k r s Idle e ph t = rw (ph, t) (refl, refl)
  flow_by p q k r s StageOne e ph t = rw (ph, t) (refl, refl)
  flow_by p q k r s StageTwo e ph t = rw (ph, t) (refl, refl)
  flow_by p q k r s SettledFlow e ph t =
      let u : r ≡ unless (test LineNumber (leb (length (plant_in p).lines) k) None) (get_or ph.0.flow k 0) =
      t ∙ ap (λ (m : ℕ). unless (test LineNumber (leb m k) None) (get_or (flows_of (arcs_in p)) k 0)) (as_many p s e)
      ∙ ap (λ (f : List ℕ). unless (test LineNumber (leb (length (plant_in p).lines) k) None) (get_or f k 0)) (sym ph.2) in
      rw ph.1 (flow_last (question_in p) ph.0 (counts_in p) k r (leb (length (plant_in p).lines) k) u)
  flow_by p q k r s SettledImpossible e ph t = rw (ph.1, t) (refl, refl)

  pub flow_told : (p : Planner C) (q : Phase) (k : ℕ) (r : Result ℕ Decline) → Shows has p q → r ≡ flow_answer (view p) k → Follows q (Flow k) (told_by (λ x. told.Flow x) r) q
  flow_told p q k r s t = flow_by p q k r s.sound p.state refl s.phase t

  tallies_by : (p : Planner C) (q : Phase) → Sound has p → (m : State) → p.state ≡ m → InPhase m p q → Follows q Tallies (told.Tallies p.one p.two) q
  tallies_by p q s Idle e ph =
      let st = subst (λ (m : State). Stand m p.plant.aim (plant_in p) (stage_in p) p.one p.two) e s.stand in
      rw ph (refl, ap (λ (x : Tally). told.Tallies x p.two) st.0 ∙ ap (λ (x : Tally). told.Tallies no_tally x) st.1)
  tallies_by p q s StageOne e ph = rw ph (refl, refl)
  tallies_by p q s StageTwo e ph = rw ph (refl, refl)
  tallies_by p q s SettledFlow e ph = rw ph.1 (refl, refl)
  tallies_by p q s SettledImpossible e ph = rw ph.1 (refl, refl)

  pub tallies_told : (p : Planner C) (q : Phase) → Shows has p q → Follows q Tallies (told.Tallies p.one p.two) q
  tallies_told p q s = tallies_by p q s.sound p.state refl s.phase

-- two extreme cuts of one plant are one set
same_cut : (side : Side) (a : Question) (s : Plan) (S : Junctions) → Solved a s → Extreme side a.aim a.plant S → S ≡ cut_of side s
same_cut Near a s S solved x = fun_ext (near_same a.aim a.plant S s.near x solved.near)
same_cut Far a s S solved x = fun_ext (far_same a.aim a.plant S s.far x solved.far)

-- a buffer of 32 bytes that holds a set of 32
abbrev pub Lent : {A : Type 0} → ℕ → Lending A → List ℕ → Type 0
Lent room b set = (ltb (length b.before) 32 ≡ ltb room 32) × (ltb room 32 ≡ false → (length b.before ≤ 32) × (b.after ≡ set))

-- as much of 32 bytes as there is room for
pub lent : {A : Type 0} (room len : ℕ) (zeros after : List ℕ) (r : Result A Decline) → length zeros ≡ 32 → len ≡ min 32 room
    → Lent room (record { before = take len zeros; answer = r; after = after }) (after ++ drop len zeros)
lent room len zeros after r l e = by (cases_lt room 32)
  where
    long : length (take len zeros) ≡ len
    long = length-take-le len zeros (omega (arith, l, e, min-le_left 32 room))

    by : (room < 32) ⊎ (32 ≤ room) → Lent room (record { before = take len zeros; answer = r; after = after }) (after ++ drop len zeros)
    by (inl h) = (ap (λ (n : ℕ). ltb n 32) (long ∙ e ∙ min-eq_right (omega (arith, h))), λ f. absurd (both_ways (ltb room 32) f (lt-ltb room 32 h)))
    by (inr h) =
        let full : len ≡ 32 = e ∙ min-eq_left h in (
          ap (λ (n : ℕ). ltb n 32) (long ∙ full) ∙ sym (le-ltb room 32 h),
          λ f. (omega (arith, long, full), sym (append-nil after) ∙ ap (λ (xs : List ℕ). after ++ xs) (sym (drop_all len zeros (omega (arith, l, full))))),
        )

whole : (before after set bytes : List ℕ) → length before ≤ 32 → after ≡ set → after ≡ bytes ++ drop 32 before → set ≡ bytes
whole before after set bytes l e f = sym e ∙ f ∙ ap (λ (xs : List ℕ). bytes ++ xs) (drop_all 32 before l) ∙ append-nil bytes

cut_last : (p : View) (side : Side) (room : ℕ) (b : Lending (ℕ × ℤ)) (set : List ℕ) (s : Plan) (t : Counts) (f : Bool)
    → (f ≡ false → (length b.before ≤ 32) × (b.after ≡ set)) → Solved (record { plant = p.plant; aim = p.aim }) s
    → Unless b (test BufferLength f None) ((S : Junctions) × CutShown p side S × Filled b 32 (set_bytes S) (size S p.plant.junctions, plants.bound_over p.aim p.plant.lines S))
    → Decided (test BufferLength f None) (flowing (record { plant = p.plant; aim = p.aim }) s t) (Cut side room) (told_by (λ x. told.Cut set x.0 x.1) b.answer) (flowing (record { plant = p.plant; aim = p.aim }) s t)
cut_last p side room b set s t true k solved h = rw h.0 (refl, refl)
cut_last p side room b set s t false k solved h =
    let a : Question = record { plant = p.plant; aim = p.aim } in
    let n = p.plant.junctions in
    let S = h.0 in
    let e = same_cut side a s S solved h.1.extreme in
    let w = whole b.before b.after set (set_bytes S) (k refl).0 (k refl).1 h.2.1 in
    rw h.2.0 (
      refl,
      a,
      s,
      t,
      refl,
      ap (λ (x : List ℕ). told.Cut x (size S n) (plants.bound p.aim p.plant S)) w ∙ ap (λ (R : Junctions). told.Cut (set_bytes R) (size R n) (plants.bound p.aim p.plant R)) e,
    )

hurdle_last : (p : View) (room : ℕ) (b : Lending (ℕ × ℕ)) (set : List ℕ) (H : Junctions) (t : Counts) (f : Bool)
    → (f ≡ false → (length b.before ≤ 32) × (b.after ≡ set)) → Impossible (record { plant = p.plant; aim = p.aim }) H
    → Unless b (test BufferLength f None) ((S : Junctions) × HurdleShown p S × Filled b 32 (set_bytes S) (size S p.plant.junctions, plants.shortfall_over p.plant.lines S))
    → Decided (test BufferLength f None) (blocked (record { plant = p.plant; aim = p.aim }) H t) (Hurdle room) (told_by (λ x. told.Hurdle set x.0 x.1) b.answer) (blocked (record { plant = p.plant; aim = p.aim }) H t)
hurdle_last p room b set H t true k none h = rw h.0 (refl, refl)
hurdle_last p room b set H t false k none h =
    let a : Question = record { plant = p.plant; aim = p.aim } in
    let n = p.plant.junctions in
    let S = h.0 in
    let e : S ≡ H = fun_ext (worst_same p.plant S H h.1.worst none.worst) in
    let w = whole b.before b.after set (set_bytes S) (k refl).0 (k refl).1 h.2.1 in
    rw h.2.0 (
      refl,
      a,
      H,
      t,
      refl,
      ap (λ (x : List ℕ). told.Hurdle x (size S n) (plants.shortfall p.plant S)) w ∙ ap (λ (R : Junctions). told.Hurdle (set_bytes R) (size R n) (plants.shortfall p.plant R)) e,
    )

-- the numbers that stand in the front of a buffer
abbrev pub Numbers : Lending ℕ → Result ℕ Decline → Answer → Type 0
Numbers b (Ok m) r = (v : Vec ℕ Global) × (r ≡ told.Crossing v) × (v.items ≡ take m b.after)
Numbers b (Err d) r = r ≡ told.Declined d

crossing_last : (p : View) (side : Side) (room : ℕ) (b : Lending ℕ) (r : Answer) (s : Plan) (t : Counts) (S : Junctions)
    → length b.before ≡ room → S ≡ cut_of side s → Numbers b b.answer r → Listed b (plants.crossing S 0 p.plant.lines)
    → Decided (Refusal.test_room (length (plants.crossing (cut_of side s) 0 p.plant.lines)) room) (flowing (record { plant = p.plant; aim = p.aim }) s t) (Crossing side room) r (flowing (record { plant = p.plant; aim = p.aim }) s t)
crossing_last p side room b r s t S l e n h =
    go (ltb room (length (plants.crossing (cut_of side s) 0 p.plant.lines)))
    (subst (λ (m : ℕ). Unless b (test BufferLength (ltb m (length xs)) None) (Filled b (length xs) xs (length xs))) l
    (subst (λ (R : Junctions). Listed b (plants.crossing R 0 p.plant.lines)) e h))
  where
    a : Question
    a = record { plant = p.plant; aim = p.aim }

    xs : List ℕ
    xs = plants.crossing (cut_of side s) 0 p.plant.lines

    front : b.after ≡ xs ++ drop (length xs) b.before → take (length xs) b.after ≡ xs
    front f = ap (take (length xs)) f ∙ take-append-le (length xs) xs (drop (length xs) b.before) (omega arith) ∙ take_all (length xs) xs (omega arith)

    go : (f : Bool) → Unless b (test BufferLength f None) (Filled b (length xs) xs (length xs)) → Decided (test BufferLength f None) (flowing a s t) (Crossing side room) r (flowing a s t)
    go true u = (subst (λ (x : Result ℕ Decline). Numbers b x r) u.0 n, refl)
    go false u =
        let k = subst (λ (x : Result ℕ Decline). Numbers b x r) u.0 n in
        (refl, a, s, t, refl, (k.0, k.1, k.2 ∙ front u.1))

module _ {C : Type 0} (has : C → ℕ → Bool) where
  cut_by : (p : Planner C) (q : Phase) (side : Side) (room : ℕ) (b : Lending (ℕ × ℤ)) (set : List ℕ) (m : State) → InPhase m p q → Lent room b set
      → Unless b (first_of (test_flow m) (test BufferLength (ltb (length b.before) 32) None))
      ((S : Junctions) × CutShown (view p) side S × Filled b 32 (set_bytes S) (size S (plant_in p).junctions, plants.bound_over p.plant.aim (plant_in p).lines S))
      → Follows q (Cut side room) (told_by (λ x. told.Cut set x.0 x.1) b.answer) q
  cut_by p q side room b set Idle ph k h = rw (ph, h.0) (refl, refl)
  cut_by p q side room b set StageOne ph k h = rw (ph, h.0) (refl, refl)
  cut_by p q side room b set StageTwo ph k h = rw (ph, h.0) (refl, refl)
  cut_by p q side room b set SettledFlow ph k h =
      rw ph.1
      (cut_last (view p) side room b set ph.0 (counts_in p) (ltb room 32) k.1 ph.3
      (subst (λ (f : Bool). Unless b (test BufferLength f None) ((S : Junctions) × CutShown (view p) side S × Filled b 32 (set_bytes S) (size S (plant_in p).junctions, plants.bound_over p.plant.aim (plant_in p).lines S))) k.0 h))
  cut_by p q side room b set SettledImpossible ph k h = rw (ph.1, h.0) (refl, refl)

  pub cut_told : (p : Planner C) (q : Phase) (side : Side) (room : ℕ) (b : Lending (ℕ × ℤ)) (set : List ℕ) → Shows has p q → Lent room b set → CutSeen (view p) side b
      → Follows q (Cut side room) (told_by (λ x. told.Cut set x.0 x.1) b.answer) q
  cut_told p q side room b set s k h = cut_by p q side room b set p.state s.phase k h

  hurdle_by : (p : Planner C) (q : Phase) (room : ℕ) (b : Lending (ℕ × ℕ)) (set : List ℕ) (m : State) → InPhase m p q → Lent room b set
      → Unless b (first_of (test_hurdle m) (test BufferLength (ltb (length b.before) 32) None))
      ((S : Junctions) × HurdleShown (view p) S × Filled b 32 (set_bytes S) (size S (plant_in p).junctions, plants.shortfall_over (plant_in p).lines S))
      → Follows q (Hurdle room) (told_by (λ x. told.Hurdle set x.0 x.1) b.answer) q
  hurdle_by p q room b set Idle ph k h = rw (ph, h.0) (refl, refl)
  hurdle_by p q room b set StageOne ph k h = rw (ph, h.0) (refl, refl)
  hurdle_by p q room b set StageTwo ph k h = rw (ph, h.0) (refl, refl)
  hurdle_by p q room b set SettledFlow ph k h = rw (ph.1, h.0) (refl, refl)
  hurdle_by p q room b set SettledImpossible ph k h =
      rw ph.1
      (hurdle_last (view p) room b set ph.0 (counts_in p) (ltb room 32) k.1 ph.2
      (subst (λ (f : Bool). Unless b (test BufferLength f None) ((S : Junctions) × HurdleShown (view p) S × Filled b 32 (set_bytes S) (size S (plant_in p).junctions, plants.shortfall_over (plant_in p).lines S))) k.0 h))

  pub hurdle_told : (p : Planner C) (q : Phase) (room : ℕ) (b : Lending (ℕ × ℕ)) (set : List ℕ) → Shows has p q → Lent room b set → HurdleSeen (view p) b
      → Follows q (Hurdle room) (told_by (λ x. told.Hurdle set x.0 x.1) b.answer) q
  hurdle_told p q room b set s k h = hurdle_by p q room b set p.state s.phase k h

  crossing_by : (p : Planner C) (q : Phase) (side : Side) (room : ℕ) (b : Lending ℕ) (r : Answer) (m : State) → InPhase m p q → length b.before ≡ room → Numbers b b.answer r
      → Unless b (test_flow m) ((S : Junctions) × CutShown (view p) side S × Listed b (plants.crossing S 0 (plant_in p).lines))
      → Follows q (Crossing side room) r q
  crossing_by p q side room b r Idle ph l n h = rw ph (subst (λ (x : Result ℕ Decline). Numbers b x r) h.0 n, refl)
  crossing_by p q side room b r StageOne ph l n h = rw ph (subst (λ (x : Result ℕ Decline). Numbers b x r) h.0 n, refl)
  crossing_by p q side room b r StageTwo ph l n h = rw ph (subst (λ (x : Result ℕ Decline). Numbers b x r) h.0 n, refl)
  crossing_by p q side room b r SettledFlow ph l n h =
      rw ph.1 (crossing_last (view p) side room b r ph.0 (counts_in p) h.0 l (same_cut side (question_in p) ph.0 h.0 ph.3 h.1.extreme) n h.2)
  crossing_by p q side room b r SettledImpossible ph l n h = rw ph.1 (subst (λ (x : Result ℕ Decline). Numbers b x r) h.0 n, refl)

  pub crossing_told : (p : Planner C) (q : Phase) (side : Side) (room : ℕ) (b : Lending ℕ) (r : Answer) → Shows has p q → length b.before ≡ room → Numbers b b.answer r
      → CrossingSeen (view p) side b → Follows q (Crossing side room) r q
  crossing_told p q side room b r s l n h = crossing_by p q side room b r p.state s.phase l n h
