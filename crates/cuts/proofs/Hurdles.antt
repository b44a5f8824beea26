-- A hurdle where no flow is feasible, and none where one is.
use Rattle.std.proofs.Common.{◌≡◌, ℕ, zero, suc, ◌<◌, Bool, true, false, cond, not, ◌&&◌, eqb, ◌⊎◌, [], ◌∷◌, length, pos, ◌≤ℤ◌, sym, refl, ap, ◌∙◌, inl, inr, arith}
use Rattle.std.proofs.lemmas.Int.{ints}
use Rattle.std.proofs.lemmas.Bool.{both_ways, cases_Bool, cond-true, cond-false, ne_eqb, and_from, not_from_false}
use Rattle.plant.specs.declared.line.Line.{Line}
use Rattle.plant.specs.Plants.{Plant, Flow, Junctions, Sound, SoundLine, Within, Feasible, WorstHurdle, line, low_of, high_of, summed, every, ends, outflow, inflow, total, leads_out, leads_in}
use Rattle.cuts.specs.Theorems.{NoCircuit, HurdleTotal, NoFlow, HurdleTotalExactly, HurdleExactly, WorstExists, WorstSame}
use Rattle.cuts.proofs.Sums.{over_same, cond_zero, carried_le, carried_ge, summed_every, summed_le, carried_none, carried_same}
use Rattle.cuts.proofs.Duality.{flow_out, flow_in, balance, cut_balance}
use Rattle.cuts.proofs.Search.{in_or, out_of}
use Rattle.cuts.proofs.Bests.{same_set}
use Rattle.cuts.proofs.Circulations.{waiting, nothing_waits, Stuck, settled, stuck_largest, stuck_short, stuck_smallest}

-- ---- a hurdle excludes feasible flows
neither : (P : Plant) (f : Flow) (S : Junctions) → Sound P → Feasible P f → S 0 ≡ false → S 1 ≡ false → flow_in P f S ≡ flow_out P f S
neither P f S sound feasible a b =
    let quiet : (v : ℕ) → v < P.junctions → S v ≡ true → outflow P f v ≡ inflow P f v =
    λ v j t. sym (feasible.kept v j (λ q. both_ways (S 0) a (ap S (sym q) ∙ t)) (λ q. both_ways (S 1) b (ap S (sym q) ∙ t))) in
    omega (arith, balance P f S sound, over_same S (outflow P f) (inflow P f) P.junctions quiet)

turned : (a b : Bool) → (not a && not (not b)) ≡ (b && not a)
turned true true = refl
turned true false = refl
turned false true = refl
turned false false = refl

-- what crosses a set with both ends or neither
circulates : (P : Plant) (f : Flow) (S : Junctions) → Sound P → Feasible P f → S 0 ≡ S 1 → flow_in P f S ≡ flow_out P f S
circulates P f S sound feasible e = go (S 0) refl
  where
    rest : Junctions
    rest v = not (S v)

    go : (b : Bool) → S 0 ≡ b → flow_in P f S ≡ flow_out P f S
    go false q = neither P f S sound feasible q (sym e ∙ q)
    go true q =
        let n = neither P f rest sound feasible (ap not q) (ap not (sym e ∙ q)) in
        let a = carried_same (leads_out rest) (leads_in S) P.lines f (λ l. turned (S l.from) (S l.to)) in
        let b = carried_same (leads_in rest) (leads_out S) P.lines f (λ l. turned (S l.to) (S l.from)) in
        omega arith

pub no_circuit : NoCircuit
no_circuit P S f sound e h feasible =
    let w = feasible.within in
    omega (arith, circulates P f S sound feasible e, carried_le (leads_out S) high_of P.lines f w.below, carried_ge (leads_in S) low_of P.lines f w.each w.above)

pub hurdle_total : HurdleTotal
hurdle_total P S f sound hurdle feasible = elim (cases_Bool (S 0)) [
  | inr a ↦ absurd (no_circuit P S f sound (a ∙ sym (out_of (S 1) (λ t. both_ways (S 0) a (hurdle.tank t)))) hurdle.short feasible)
  | inl a ↦ elim (cases_Bool (S 1)) [
    | inl b ↦ absurd (no_circuit P S f sound (a ∙ sym b) hurdle.short feasible)
    | inr b ↦
        let w = feasible.within in
        let h = hurdle.short in
        let e = cut_balance P f S sound feasible a b in
        let c = carried_le (leads_out S) high_of P.lines f w.below in
        let d = carried_ge (leads_in S) low_of P.lines f w.each w.above in
        omega (arith, ints)
  ]
]

pub no_flow : NoFlow
no_flow P S f sound outward hurdle feasible =
    let none : inflow P f 0 ≡ 0 = carried_none (ends 0) P.lines f (λ k j. ne_eqb (line P k).to 0 (outward k j)) in
    omega (arith, ints, hurdle_total P S f sound hurdle feasible)

-- ---- the plant with a line from the tank back to the header, that can carry every high
abbrev pub back_line : Plant → Line
back_line P = record { from = 1; to = 0; low = 0; high = summed every high_of P.lines }

abbrev pub with_back : Plant → Plant
with_back P = record { junctions = P.junctions; lines = back_line P ∷ P.lines }

pub sound_back : (P : Plant) → Sound P → Sound (with_back P)
sound_back P sound = record { both = sound.both; each = each }
  where
    each : (k : ℕ) → k < length (with_back P).lines → SoundLine P.junctions (line (with_back P) k)
    each zero j = record { from_in = sound.both; to_in = omega (arith, sound.both); apart = λ e. omega arith; ordered = omega arith }
    each (suc k) j = sound.each k (omega arith)

-- where nothing waits in it, the plant's own lines have a feasible flow
pub back_feasible : (P : Plant) (x : ℕ) (f : Flow) → Sound P → Within (with_back P) (x ∷ f) → waiting (with_back P) (x ∷ f) ≡ 0 → Feasible P f × (pos 0 ≤ℤ total P f)
back_feasible P x f sound w e =
    let kept = nothing_waits (with_back P) (x ∷ f) (sound_back P sound) e in (
      record {
        within = record {
          each = omega (arith, w.each);
          above = λ k j. w.above (suc k) (omega arith);
          below = λ k j. w.below (suc k) (omega arith);
        };
        kept = λ v i a b.
            let p : cond (eqb 0 v) x 0 ≡ zero = cond-false (eqb 0 v) x 0 (ne_eqb 0 v (λ q. a (sym q))) in
            let q : cond (eqb 1 v) x 0 ≡ zero = cond-false (eqb 1 v) x 0 (ne_eqb 1 v (λ q. b (sym q))) in
            omega (arith, kept v i);
      },
      let h = kept 0 (omega (arith, sound.both)) in omega (arith, ints),
    )

-- what the line back adds to the highs leading out of a set, and to the lows leading in: nothing
back_out : (P : Plant) (S : Junctions) → (S 1 ≡ true → S 0 ≡ true) → summed (leads_out S) high_of (with_back P).lines ≡ summed (leads_out S) high_of P.lines
back_out P S h = omega (arith, cond-false (S 1 && not (S 0)) (summed every high_of P.lines) 0 (inside (S 1) (S 0) h))
  where
    inside : (a b : Bool) → (a ≡ true → b ≡ true) → (a && not b) ≡ false
    inside true true h = refl
    inside true false h = sym (h refl)
    inside false b h = refl

back_in : (P : Plant) (S : Junctions) → summed (leads_in S) low_of (with_back P).lines ≡ summed (leads_in S) low_of P.lines
back_in P S = omega (arith, cond_zero (S 0 && not (S 1)))

-- where it is stuck, what residuals reach is the worst hurdle
pub stuck_worst : (P : Plant) (f : Flow) (M : Junctions) → Sound P → Stuck (with_back P) f M → WorstHurdle P M
stuck_worst P f M sound stuck =
    let sound' = sound_back P sound in
    let most = stuck_largest (with_back P) f M sound' stuck in
    let just = stuck_short (with_back P) f M sound' stuck in
    let some = stuck.some in
    let into = back_in P M in
    let tank : M 1 ≡ true → M 0 ≡ true = λ t. in_or (M 0) (λ u.
    omega (arith, summed_every (leads_in M) low_of P.lines, summed_le low_of high_of P.lines (λ k j. (sound.each k j).ordered), cond-true (M 1 && not (M 0)) (summed every high_of P.lines) 0 (and_from (M 1) (not (M 0)) t (not_from_false (M 0) u)))) in
    let out = back_out P M tank in
    record {
      hurdle = record { inside = stuck.whole.part.below; tank = tank; short = omega arith };
      largest = λ R h. omega (arith, most R, back_in P R, back_out P R h.tank);
      smallest = λ R h e. stuck_smallest (with_back P) f M sound' stuck R (omega (arith, h.short, back_in P R, back_out P R h.tank));
    }

-- a feasible flow, or else the worst hurdle
pub feasible_or : (P : Plant) → Sound P → ((f : Flow) × Feasible P f × (pos 0 ≤ℤ total P f)) ⊎ ((S : Junctions) × WorstHurdle P S)
feasible_or P sound = elim (settled (with_back P) (sound_back P sound)) [
  | inl c ↦ inl (go c.0 c.1 c.2)
  | inr s ↦ inr (s.1, stuck_worst P s.0 s.1 sound s.2)
]
  where
    go : (f : Flow) → Within (with_back P) f → waiting (with_back P) f ≡ 0 → (g : Flow) × Feasible P g × (pos 0 ≤ℤ total P g)
    go [] w e = absurd (omega (arith, w.each))
    go (x ∷ f) w e = let b = back_feasible P x f sound w e in (f, b.0, b.1)

pub hurdle_total_exactly : HurdleTotalExactly
hurdle_total_exactly P sound = (
  λ none. elim (feasible_or P sound) [ inl f ↦ absurd (omega (arith, ints, f.2, none f.0 f.1)) | inr s ↦ (s.0, s.1.hurdle) ],
  λ s f feasible. hurdle_total P s.0 f sound s.1 feasible,
)

pub worst_exists : WorstExists
worst_exists P sound none = elim (feasible_or P sound) [ inl f ↦ absurd (none f.0 f.1) | inr s ↦ s ]

pub hurdle_exactly : HurdleExactly
hurdle_exactly P sound outward = (
  λ none. let s = worst_exists P sound none in (s.0, s.1.hurdle),
  λ s f feasible. no_flow P s.0 f sound outward s.1 feasible,
)

pub worst_same : WorstSame
worst_same P S R s r =
    let up = r.largest S s.hurdle in
    let down = s.largest R r.hurdle in
    same_set S R (s.smallest R r.hurdle (omega arith)) (r.smallest S s.hurdle (omega arith))
