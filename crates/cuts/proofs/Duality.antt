-- What crosses a cut, and how it bounds the total.
use Rattle.std.proofs.Common.{◌≡◌, ℕ, ◌+◌, ◌<◌, ◌≤◌, true, false, ◌≢◌, sym, ap, ◌∙◌, arith}
use Rattle.std.proofs.lemmas.Int.{ints}
use Rattle.std.proofs.lemmas.Bool.{both_ways}
use Rattle.plant.specs.declared.aim.Aim.{Aim}
use Rattle.plant.specs.declared.aim.Aim.TheVariants.{Greatest, Least}
use Rattle.plant.specs.Plants.{Plant, Flow, Junctions, Sound, Within, Feasible, Cut, carried, summed, low_of, high_of, forward, backward, outflow, inflow, total, bound, leads_out, leads_in}
use Rattle.cuts.specs.Theorems.{Filled, WeakDuality, Equality}
use Rattle.cuts.proofs.Sums.{over, crossed, over_carried, over_but, carried_le, carried_ge, carried_full, le_full, ge_full}

-- what f carries out of S, and what it carries in
abbrev pub flow_out : Plant → Flow → Junctions → ℕ
flow_out P f S = carried (leads_out S) P.lines f

abbrev pub flow_in : Plant → Flow → Junctions → ℕ
flow_in P f S = carried (leads_in S) P.lines f

-- what a set's junctions send out beyond what they take in goes over its crossing lines
pub balance : (P : Plant) (f : Flow) (S : Junctions) → Sound P → over S (outflow P f) P.junctions + flow_in P f S ≡ over S (inflow P f) P.junctions + flow_out P f S
balance P f S sound =
    omega (arith, crossed (λ l. S l.from) (λ l. S l.to) P.lines f, over_carried (λ l. l.from) S P.junctions P.lines f (λ k h. (sound.each k h).from_in), over_carried (λ l. l.to) S P.junctions P.lines f (λ k h. (sound.each k h).to_in))

-- at a cut only the header counts
pub cut_balance : (P : Plant) (f : Flow) (S : Junctions) → Sound P → Feasible P f → S 0 ≡ true → S 1 ≡ false → outflow P f 0 + flow_in P f S ≡ inflow P f 0 + flow_out P f S
cut_balance P f S sound feasible header tank =
    let quiet : (v : ℕ) → v < P.junctions → v ≢ 0 → S v ≡ true → outflow P f v ≡ inflow P f v =
    λ v j h t. sym (feasible.kept v j h (λ q. both_ways (S 1) tank (ap S (sym q) ∙ t))) in
    omega (arith, balance P f S sound, sound.both, over_but S (outflow P f) (inflow P f) 0 P.junctions header (omega (arith, sound.both)) quiet)

abbrev NoMore : Aim → ℕ → ℕ → Type 0
NoMore Greatest a b = a ≤ b
NoMore Least a b = b ≤ a

-- what the limits say of what crosses
record Crosses (aim : Aim) (P : Plant) (f : Flow) (S : Junctions) : Type 0 where
  out : NoMore aim (flow_out P f S) (summed (leads_out S) (forward aim) P.lines)
  into : NoMore aim (summed (leads_in S) (backward aim) P.lines) (flow_in P f S)

crosses : (aim : Aim) (P : Plant) (f : Flow) (S : Junctions) → Within P f → Crosses aim P f S
crosses Greatest P f S w = record {
  out = carried_le (leads_out S) high_of P.lines f w.below;
  into = carried_ge (leads_in S) low_of P.lines f w.each w.above;
}
crosses Least P f S w = record {
  out = carried_ge (leads_out S) low_of P.lines f w.each w.above;
  into = carried_le (leads_in S) high_of P.lines f w.below;
}

pub weak_duality : WeakDuality
weak_duality Greatest P f S sound feasible cut = let c = crosses Greatest P f S feasible.within in let e = cut_balance P f S sound feasible cut.header cut.tank in omega (arith, ints)
weak_duality Least P f S sound feasible cut = let c = crosses Least P f S feasible.within in let e = cut_balance P f S sound feasible cut.header cut.tank in omega (arith, ints)

-- where the sums are those of the limits, each line is at its limit
pub filled : (aim : Aim) (P : Plant) (f : Flow) (S : Junctions) → Within P f → flow_out P f S ≡ summed (leads_out S) (forward aim) P.lines → flow_in P f S ≡ summed (leads_in S) (backward aim) P.lines → Filled aim P f S
filled Greatest P f S w a b = record {
  out = le_full (leads_out S) high_of P.lines f w.each w.below a;
  into = ge_full (leads_in S) low_of P.lines f w.each w.above b;
}
filled Least P f S w a b = record {
  out = ge_full (leads_out S) low_of P.lines f w.each w.above a;
  into = le_full (leads_in S) high_of P.lines f w.each w.below b;
}

pub fills : (aim : Aim) (P : Plant) (f : Flow) (S : Junctions) → Sound P → Feasible P f → Cut P S → total P f ≡ bound aim P S → Filled aim P f S
fills Greatest P f S sound feasible cut q =
    let c = crosses Greatest P f S feasible.within in
    let e = cut_balance P f S sound feasible cut.header cut.tank in
    filled Greatest P f S feasible.within (omega (arith, ints)) (omega (arith, ints))
fills Least P f S sound feasible cut q =
    let c = crosses Least P f S feasible.within in
    let e = cut_balance P f S sound feasible cut.header cut.tank in
    filled Least P f S feasible.within (omega (arith, ints)) (omega (arith, ints))

pub filled_out : (aim : Aim) (P : Plant) (f : Flow) (S : Junctions) → Within P f → Filled aim P f S → flow_out P f S ≡ summed (leads_out S) (forward aim) P.lines
filled_out aim P f S w full = carried_full (leads_out S) (forward aim) P.lines f w.each full.out

pub filled_in : (aim : Aim) (P : Plant) (f : Flow) (S : Junctions) → Within P f → Filled aim P f S → flow_in P f S ≡ summed (leads_in S) (backward aim) P.lines
filled_in aim P f S w full = carried_full (leads_in S) (backward aim) P.lines f w.each full.into

pub meets : (aim : Aim) (P : Plant) (f : Flow) (S : Junctions) → Sound P → Feasible P f → Cut P S → Filled aim P f S → total P f ≡ bound aim P S
meets aim P f S sound feasible cut full =
    let a = filled_out aim P f S feasible.within full in
    let b = filled_in aim P f S feasible.within full in
    let e = cut_balance P f S sound feasible cut.header cut.tank in
    omega (arith, ints)

pub equality : Equality
equality aim P f S sound feasible cut = (fills aim P f S sound feasible cut, meets aim P f S sound feasible cut)
