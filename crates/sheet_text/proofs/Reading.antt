-- What is read off a settled planner.
use Rattle.std.proofs.Common.{◌≡◌, ℕ, ◌<◌, ◌≤◌, Bool, true, false, leb, List, ◌++◌, length, get_or, take, drop, ℤ, pos, Some, None, Ok, Err, Option, Result, sym, refl, ap, ◌∙◌, subst, ⊎_elim, append-nil, arith, length-take}
use Rattle.std.proofs.lemmas.List.{drop_all, get_or_default, get_or_past, get_or-take, length-map, same_lists}
use Rattle.std.proofs.lemmas.Bool.{lt-leb}
use Rattle.std.proofs.str.Laws.{order}
use Rattle.chooser.specs.declared.fifo.Fifo.{Fifo}
use Rattle.chooser.specs.FifoCalls.{holds}
use Rattle.plant.specs.declared.decline.Decline.{Decline}
use Rattle.plant.specs.declared.decline.Decline.TheVariants.{LineNumber}
use Rattle.plant.specs.Held.{flow_of, flows_of, line_of, lines_of, marked}
use Rattle.plant.specs.Plants.{Junctions, WorstHurdle, bound_over, carried, leaves, list_total, shortfall, shortfall_over, total}
use Rattle.plant.specs.Tests.{test, unless}
use Rattle.plant.proofs.Tested.{held_front}
use Rattle.planner.specs.declared.answer.Side.{Side}
use Rattle.planner.specs.declared.answer.Side.TheVariants.{Near, Far}
use Rattle.planner.specs.declared.machine.Planner.{Planner}
use Rattle.planner.specs.declared.machine.State.{State}
use Rattle.planner.specs.declared.machine.State.TheVariants.{SettledFlow}
use Rattle.planner.specs.Cuts.{CutSet, Extreme}
use Rattle.planner.specs.Readings.{CutSeen, CutShown, Filled, HurdleSeen, HurdleShown, Lending, Unless, flow_answer, test_flow, test_hurdle, test_room, total_answer}
use Rattle.planner.specs.Standing.{Sound, arcs_in, plant_in}
use Rattle.planner.specs.Views.{view}
use Rattle.planner.proofs.Laws.{flow_best, flow_lines, outward_plant}
use Rattle.reach.specs.Drying.{first_of}
use Rattle.reach.specs.Sets.{member, set_bytes, size}
use Rattle.reach.proofs.Bytes.{member_below}
use Rattle.sheet_text.proofs.Amounts.{carried_small, shortfall_small, total_out}

-- two answers that are the same
pub ok_same : {A : Type 0} (x y : A) → ◌≡◌ {A = Result A Decline} (Ok x) (Ok y) → x ≡ y
ok_same x y e = cc

-- what is answered was not declined
pub never_declined : {A X : Type 0} (r : Result A Decline) (d : Decline) {x : A} → Err d ≡ r → r ≡ Ok x → X
never_declined r d e f = absurd (let z : ◌≡◌ {A = ℕ} 0 1 = cc in omega arith)

-- a reading that was answered passed its tests
opened : {A : Type 0} (b : Lending A) (a : A) (o : Option Decline) (on : Type 0) → b.answer ≡ Ok a → Unless b o on → on
opened b a None on e h = h
opened b a (Some d) on e h = let f = h.0 in absurd (let z : ◌≡◌ {A = ℕ} 0 1 = cc in omega arith)

module _ (p : Planner Fifo) (s : Sound holds p) (e : p.state ≡ SettledFlow) where
  -- what leaves the header
  abbrev pub out : ℕ
  out = carried (leaves 0) (plant_in p).lines (flows_of (arcs_in p))

  pub flow_small : (k : ℕ) → k < length (plant_in p).lines → get_or (flows_of (arcs_in p)) k 0 ≤ 1000000
  flow_small k j = omega (arith, (flow_best holds p s e).feasible.within.below k j, ((held_front p.plant).fine k j).4)

  pub total_shown : total (plant_in p) (flows_of (arcs_in p)) ≡ pos out
  total_shown = total_out (plant_in p) (flows_of (arcs_in p)) (outward_plant p.plant)

  pub out_small : out ≤ 1000000000
  out_small = omega (arith, carried_small (leaves 0) (plant_in p).lines (flows_of (arcs_in p)) flow_small, (held_front p.plant).few)

  pub total_told : total_answer (view p) ≡ Ok (pos out)
  total_told =
      ap (λ (m : State). unless (test_flow m) (list_total (lines_of (arcs_in p)) (flows_of (arcs_in p)))) e
      ∙ ap Ok (ap (λ ls. list_total ls (flows_of (arcs_in p))) (flow_lines holds p s e) ∙ total_shown)

  pub flow_length : length (flows_of (arcs_in p)) ≡ length (plant_in p).lines
  flow_length = length-map (arcs_in p) flow_of ∙ sym (length-map (arcs_in p) line_of) ∙ ap length (flow_lines holds p s e)

  pub flow_told : (k : ℕ) → k < length (plant_in p).lines → flow_answer (view p) k ≡ Ok (get_or (flows_of (arcs_in p)) k 0)
  flow_told k j =
      let l : k < length (arcs_in p) = omega (arith, flow_length, length-map (arcs_in p) flow_of) in
      ap (λ (m : State). unless (first_of (test_flow m) (test LineNumber (leb (length (arcs_in p)) k) None)) (get_or (flows_of (arcs_in p)) k 0)) e
      ∙ ap (λ (b : Bool). unless (test LineNumber b None) (get_or (flows_of (arcs_in p)) k 0)) (lt-leb (length (arcs_in p)) k l)

  -- all flows, read one by one
  pub all_flows : (xs : List ℕ) → length xs ≡ length (plant_in p).lines → ((k : ℕ) → k < length xs → get_or xs k 0 ≡ get_or (flows_of (arcs_in p)) k 0) → xs ≡ flows_of (arcs_in p)
  all_flows xs l h =
      same_lists xs (flows_of (arcs_in p)) (l ∙ sym flow_length)
      (λ k d j. get_or_default xs k d 0 j ∙ h k j ∙ get_or_default (flows_of (arcs_in p)) k 0 d (omega (arith, flow_length)))

-- marks that were read off the bytes of a set
not_in : (b : Bool) → (b ≡ true → ⊥) → b ≡ false
not_in false h = refl
not_in true h = absurd (h refl)

marks_are : (n : ℕ) (S : Junctions) (bytes : List ℕ) (marks : List Bool) → n ≤ 256 → ((v : ℕ) → S v ≡ true → v < n) → bytes ≡ set_bytes S
    → ((v : ℕ) → marked marks v ≡ member bytes v) → (v : ℕ) → marked (take n marks) v ≡ S v
marks_are n S bytes marks small inside e m v =
    ⊎_elim (λ (l : v < n). get_or-take n marks v false l ∙ m v ∙ ap (λ (bs : List ℕ). member bs v) e ∙ member_below S v (omega arith))
    (λ (l : n ≤ v). get_or_past (take n marks) v false (omega (arith, length-take n marks)) ∙ sym (not_in (S v) (λ t. let i = inside v t in omega arith)))
    (order v n)

same_marks : (n : ℕ) (S : Junctions) (before after : List ℕ) (marks : List Bool) → n ≤ 250 → ((v : ℕ) → S v ≡ true → v < n) → length before ≡ 32 → after ≡ set_bytes S ++ drop 32 before
    → ((v : ℕ) → marked marks v ≡ member after v) → ◌≡◌ {A = Junctions} (marked (take n marks)) S
same_marks n S before after marks small inside l e m =
    let b : after ≡ set_bytes S = e ∙ ap (λ (xs : List ℕ). set_bytes S ++ xs) (drop_all 32 before (omega arith)) ∙ append-nil (set_bytes S) in
    let h = marks_are n S after marks (omega arith) inside b m in
    λ t. λ v. h v t

inside_cut : (side : Side) (p : Planner Fifo) (S : Junctions) → CutSet side p.plant.aim p.plant.n (arcs_in p) S → (v : ℕ) → S v ≡ true → v < p.plant.n
inside_cut Near p S r v t = ((r v).0 t).0
inside_cut Far p S r v t = ((r v).0 t).0

-- what a reading that was answered says
abbrev CutThere : Planner Fifo → Side → Lending (ℕ × ℤ) → Type 0
CutThere p side b = (S : Junctions) × CutShown (view p) side S × Filled b 32 (set_bytes S) (size S p.plant.n, bound_over p.plant.aim (plant_in p).lines S)

abbrev HurdleThere : Planner Fifo → Lending (ℕ × ℕ) → Type 0
HurdleThere p b = (S : Junctions) × HurdleShown (view p) S × Filled b 32 (set_bytes S) (size S p.plant.n, shortfall_over (plant_in p).lines S)

-- a cut as marks
pub cut_marked : (p : Planner Fifo) (side : Side) (before after : List ℕ) (a : ℕ × ℤ) (marks : List Bool) → length before ≡ 32
    → CutSeen (view p) side (record { before = before; answer = Ok a; after = after }) → ((v : ℕ) → marked marks v ≡ member after v)
    → Extreme side p.plant.aim (plant_in p) (marked (take p.plant.n marks))
cut_marked p side before after a marks l read m =
    let r = opened (record { before = before; answer = Ok a; after = after }) a (first_of (test_flow p.state) (test_room {A = ℕ × ℤ} (record { before = before; answer = Ok a; after = after }) 32))
    (CutThere p side (record { before = before; answer = Ok a; after = after })) refl read in
    let S = r.0 in
    subst (Extreme side p.plant.aim (plant_in p)) (sym (same_marks p.plant.n S before after marks p.plant.sized.1 (inside_cut side p S r.1.residuals) l r.2.1 m)) r.1.extreme

-- a hurdle as marks, and its shortfall
pub hurdle_marked : (p : Planner Fifo) (before after : List ℕ) (a : ℕ × ℕ) (marks : List Bool) → length before ≡ 32
    → HurdleSeen (view p) (record { before = before; answer = Ok a; after = after }) → ((v : ℕ) → marked marks v ≡ member after v)
    → WorstHurdle (plant_in p) (marked (take p.plant.n marks)) × (a.1 ≡ shortfall (plant_in p) (marked (take p.plant.n marks))) × (a.1 ≤ 1000000000)
hurdle_marked p before after a marks l read m =
    let r = opened (record { before = before; answer = Ok a; after = after }) a (first_of (test_hurdle p.state) (test_room {A = ℕ × ℕ} (record { before = before; answer = Ok a; after = after }) 32))
    (HurdleThere p (record { before = before; answer = Ok a; after = after })) refl read in
    let S = r.0 in
    let q = sym (same_marks p.plant.n S before after marks p.plant.sized.1 (λ v t. ((r.1.residuals v).0 t).0) l r.2.1 m) in
    let is : a.1 ≡ shortfall (plant_in p) S = ap (snd_ok 0) r.2.0 in (
      subst (WorstHurdle (plant_in p)) q r.1.worst,
      is ∙ ap (shortfall (plant_in p)) q,
      omega (arith, is, (held_front p.plant).few, shortfall_small (plant_in p).lines S (λ k j. omega (arith, ((held_front p.plant).fine k j).3, ((held_front p.plant).fine k j).4))),
    )
  where
    snd_ok : ℕ → Result (ℕ × ℕ) Decline → ℕ
    snd_ok d (Ok x) = x.1
    snd_ok d (Err e) = d
