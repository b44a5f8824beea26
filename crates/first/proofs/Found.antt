-- A balanced flow of stage one as numbers within the plant's limits, and what waits where.
use Rattle.std.proofs.Common.{◌≡◌, ℕ, zero, suc, ◌+◌, ◌-◌, ◌<◌, ◌≤◌, true, false, not, ◌&&◌, eqb, ltb, List, [], ◌∷◌, length, refl, ap, ◌∙◌, inl, inr, arith}
use Rattle.std.specs.List.{ContainsAt, AllByRecursion}
use Rattle.std.proofs.ByRecursion.{all-has, All-from_get_or}
use Rattle.std.proofs.lemmas.List.{length-map}
use Rattle.std.proofs.lemmas.Bool.{cases_lt, and_parts, and_cases, and_from, eq-eqb, eqb-true, lt-ltb, ltb-true, not-true, not-false, both_ways}
use Rattle.plant.specs.Plants.{Plant, Sound, SoundLine, Within, line, no_line, at, low_of, high_of}
use Rattle.plant.specs.Held.{Arc, line_of, flow_of, flows_of}
use Rattle.cuts.proofs.Sums.{all, over_zero, over_same}
use Rattle.cuts.proofs.Circulations.{waiting, excess, lack}
use Rattle.cuts.proofs.Hurdles.{with_back, back_feasible}
use Rattle.stage.specs.Model.{come, gone}
use Rattle.stage.specs.States.{SoundArc}
use Rattle.stage.specs.First.{back_line, surplus_lines, filled, second_arcs}
use Rattle.stage.proofs.Plants.{feasible_balanced, swapped}
use Rattle.first.specs.Theorems.{FirstFlow, FirstFeasible, SecondBegins}
use Rattle.first.proofs.Network.{lows_in, lows_out}
use Rattle.first.proofs.Reading.{same_from, Reading, reading, back_flow, second_lines, second_sound}

-- ---- whether every line from n is full
-- one that is not
pub unfilled : (n : ℕ) (ls : List Arc) → filled n ls ≡ false → (a : Arc) × ContainsAt ls a × (a.line.from ≡ n) × (a.flow < high_of a.line)
unfilled n [] e = let z : ◌≡◌ {A = ℕ} 0 1 = cc in absurd (omega arith)
unfilled n (a ∷ ls) e = elim (and_cases (not (eqb a.line.from n && ltb a.flow (high_of a.line))) (filled n ls) e) [
  | inl f ↦
      let t = and_parts (eqb a.line.from n) (ltb a.flow (high_of a.line)) (not-false (eqb a.line.from n && ltb a.flow (high_of a.line)) f) in
      (a, (0, omega arith, λ d. refl), eqb-true a.line.from n t.0, ltb-true a.flow (high_of a.line) t.1)
  | inr f ↦ let r = unfilled n ls f in (r.0, (suc r.1.0, omega (arith, r.1.1), r.1.2), r.2, r.3)
]

full : (n : ℕ) (ls : List Arc) → filled n ls ≡ true → AllByRecursion (λ a. a.line.from ≡ n → high_of a.line ≤ a.flow) ls
full n [] e = tt
full n (a ∷ ls) e =
    let t = and_parts (not (eqb a.line.from n && ltb a.flow (high_of a.line))) (filled n ls) e in (
      λ q. elim (cases_lt a.flow (high_of a.line)) [
        | inl l ↦ absurd (both_ways (eqb a.line.from n && ltb a.flow (high_of a.line)) (not-true (eqb a.line.from n && ltb a.flow (high_of a.line)) t.0) (and_from (eqb a.line.from n) (ltb a.flow (high_of a.line)) (eq-eqb a.line.from n q) (lt-ltb a.flow (high_of a.line) l)))
        | inr l ↦ l
      ],
      full n ls t.1,
    )

-- ---- the flow of the plant with a line back
module _ (P : Plant) (ls : List Arc) (sound : Sound P) (first : FirstFlow P ls) (r : Reading P ls) where
  pub arc_sound : (a : Arc) → ContainsAt ls a → SoundArc (P.junctions + 2) a
  arc_sound a h = all-has (SoundArc (P.junctions + 2)) ls a first.balanced.lines h

  pub back_within : Within (with_back P) (back_flow P ls r.x)
  back_within = record { each = long; above = above; below = below }
    where
      long : length (back_flow P ls r.x) ≡ length (with_back P).lines
      long =
          let a = length-map (second_arcs P.lines ls) flow_of in
          let b = length-map (second_arcs P.lines ls) line_of in
          let c = ap length (second_lines P.lines (back_line P.lines ∷ surplus_lines P.junctions P.lines P.junctions) ls first.lines) in
          omega arith

      above : (k : ℕ) → k < length (with_back P).lines → low_of (line (with_back P) k) ≤ at (back_flow P ls r.x) k
      above zero j = omega arith
      above (suc k) j = omega (arith, (r.own_arc k (omega arith)).2.flow)

      below : (k : ℕ) → k < length (with_back P).lines → at (back_flow P ls r.x) k ≤ high_of (line (with_back P) k)
      below zero j = let b = r.back_arc in omega (arith, (arc_sound b.0 b.1).below, ap high_of b.2, b.3)
      below (suc k) j =
          let i : k < length P.lines = omega arith in
          let b = r.own_arc k i in
          omega (arith, b.2.flow, (arc_sound b.0 b.1).below, ap high_of b.2.is, (sound.each k i).ordered)

  -- what waits at a junction is what its line from n could still carry; what it lacks, what its line to n + 1 could
  pub record Waits (u : ℕ) : Type 0 where
    pub much : excess (with_back P) (back_flow P ls r.x) u ≡ (lows_in P.lines u - lows_out P.lines u) - come r.ss u
    pub little : lack (with_back P) (back_flow P ls r.x) u ≡ (lows_out P.lines u - lows_in P.lines u) - gone r.ss u

  pub waits_are : (u : ℕ) → u < P.junctions → Waits u
  waits_are u j =
      let s = r.surplus_arcs in
      let c : come r.ss u ≤ lows_in P.lines u - lows_out P.lines u = elim (cases_lt (lows_out P.lines u) (lows_in P.lines u)) [
        | inl l ↦ let a = s.source_arc u j l in omega (arith, (arc_sound a.0 (r.later a.0 a.1)).below, ap high_of a.2.is, a.2.flow)
        | inr l ↦ omega (arith, s.no_come u j (λ _. l))
      ] in
      let g : gone r.ss u ≤ lows_out P.lines u - lows_in P.lines u = elim (cases_lt (lows_in P.lines u) (lows_out P.lines u)) [
        | inl l ↦ let a = s.sink_arc u j l in omega (arith, (arc_sound a.0 (r.later a.0 a.1)).below, ap high_of a.2.is, a.2.flow)
        | inr l ↦ omega (arith, s.no_gone u j (λ _. l))
      ] in
      let e = first.balanced.even u (omega arith) (λ q. omega arith) (λ q. omega arith) in
      let p = r.coming u in
      let q = r.going u in
      record { much = omega (arith, c, g, e, p, q); little = omega (arith, c, g, e, p, q) }

  -- where every line from n is full, nothing waits
  pub full_waiting : filled P.junctions ls ≡ true → waiting (with_back P) (back_flow P ls r.x) ≡ 0
  full_waiting t =
      over_same all (excess (with_back P) (back_flow P ls r.x)) (λ v. 0) P.junctions (λ u j _. elim (cases_lt (lows_out P.lines u) (lows_in P.lines u)) [
        | inl l ↦
            let a = r.surplus_arcs.source_arc u j l in
            let h = all-has (λ a. a.line.from ≡ P.junctions → high_of a.line ≤ a.flow) ls a.0 (full P.junctions ls t) (r.later a.0 a.1) (same_from a.2.is) in
            omega (arith, (waits_are u j).much, h, ap high_of a.2.is, a.2.flow)
        | inr l ↦ omega (arith, (waits_are u j).much)
      ])
      ∙ over_zero all P.junctions

pub first_feasible : FirstFeasible
first_feasible P ls sound first =
    let r = reading P ls first.lines in
    let rest = back_line P.lines ∷ surplus_lines P.junctions P.lines P.junctions in
    record {
      lines = second_lines P.lines rest ls first.lines;
      limits = second_sound P.junctions (P.junctions + 2) P.lines rest ls first.lines (All-from_get_or (SoundLine P.junctions) P.lines no_line sound.each) first.balanced.lines;
      feasible = λ t. (back_feasible P r.x (flows_of (second_arcs P.lines ls)) sound (back_within P ls sound first r) (full_waiting P ls sound first r t)).0;
    }

pub second_begins : SecondBegins
second_begins P ls sound first t =
    let f = first_feasible P ls sound first in
    let arcs = second_arcs P.lines ls in
    let b = feasible_balanced P (flows_of arcs) arcs f.lines refl sound (f.feasible t) in
    (b, swapped P.junctions 0 1 arcs b)
