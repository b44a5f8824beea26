-- Near, far, and the tightest cuts between them.
use Rattle.std.proofs.Common.{◌≡◌, ℕ, ◌<◌, true, false, not, ◌&&◌, eqb, ltb, ◌≢◌, ◌⊎◌, length, ℤ, sym, refl, ap, ◌∙◌, subst, inl, inr, arith}
use Rattle.std.proofs.lemmas.Int.{ints}
use Rattle.std.proofs.lemmas.Bool.{both_ways, cases_eq, and_from, and_parts, and_cases, not-true, not-false, not_from_false, eqb-true, ltb-true, lt-ltb}
use Rattle.plant.specs.declared.aim.Aim.{Aim}
use Rattle.plant.specs.declared.aim.Aim.TheVariants.{Greatest, Least}
use Rattle.plant.specs.Plants.{Plant, Flow, Junctions, Sound, Within, Feasible, Cut, Tightest, NoBetter, Residual, more, less, Step, Reaches, here, on, Reached, Unreaching, line, at, low_of, high_of, forward, backward, bound, total}
use Rattle.cuts.specs.Theorems.{Filled}
use Rattle.cuts.proofs.Duality.{weak_duality, meets}
use Rattle.cuts.proofs.Paths.{first, turned}
use Rattle.cuts.proofs.Search.{Decided, any_below, both, either, less_or, in_or, out_of, From, reach, stays}

-- a set that no step leaves
abbrev pub Closed : Aim → Plant → Flow → Junctions → Type 0
Closed aim P f S = (v w : ℕ) → S v ≡ true → Step aim P f v w → S w ≡ true

-- a step goes over a line that is not at the limit counted of it
data Way (aim : Aim) (P : Plant) (f : Flow) (v w : ℕ) : Type 0 where
  ahead : (k : ℕ) → k < length P.lines → (line P k).from ≡ v → (line P k).to ≡ w → at f k ≢ forward aim (line P k) → Way aim P f v w
  back : (k : ℕ) → k < length P.lines → (line P k).to ≡ v → (line P k).from ≡ w → at f k ≢ backward aim (line P k) → Way aim P f v w

way_from : (aim : Aim) (P : Plant) (f : Flow) (v w : ℕ) → Step aim P f v w → Way aim P f v w
way_from Greatest P f v w (more k j a b h) = ahead k j a b (omega arith)
way_from Greatest P f v w (less k j a b h) = back k j a b (omega arith)
way_from Least P f v w (more k j a b h) = back k j b a (omega arith)
way_from Least P f v w (less k j a b h) = ahead k j b a (omega arith)

step_from : (aim : Aim) (P : Plant) (f : Flow) (v w : ℕ) → Within P f → Way aim P f v w → Step aim P f v w
step_from Greatest P f v w within (ahead k j a b h) = more k j a b (omega (arith, within.below k j))
step_from Greatest P f v w within (back k j a b h) = less k j a b (omega (arith, within.above k j))
step_from Least P f v w within (ahead k j a b h) = less k j b a (omega (arith, within.above k j))
step_from Least P f v w within (back k j a b h) = more k j b a (omega (arith, within.below k j))

leads : (S : Junctions) (v w : ℕ) → S v ≡ true → S w ≡ false → (S v && not (S w)) ≡ true
leads S v w a b = and_from (S v) (not (S w)) a (not_from_false (S w) b)

over_way : (aim : Aim) (P : Plant) (f : Flow) (S : Junctions) → Filled aim P f S → (v w : ℕ) → S v ≡ true → Way aim P f v w → S w ≡ true
over_way aim P f S full v w t (ahead k j a b h) =
    in_or (S w) (λ u. h (full.out k j (leads S (line P k).from (line P k).to (ap S a ∙ t) (ap S b ∙ u))))
over_way aim P f S full v w t (back k j a b h) =
    in_or (S w) (λ u. h (full.into k j (leads S (line P k).to (line P k).from (ap S a ∙ t) (ap S b ∙ u))))

-- no step leaves a filled set
pub filled_closed : (aim : Aim) (P : Plant) (f : Flow) (S : Junctions) → Filled aim P f S → Closed aim P f S
filled_closed aim P f S full v w t s = over_way aim P f S full v w t (way_from aim P f v w s)

same_or : (a b : ℕ) → (a ≢ b → ⊥) → a ≡ b
same_or a b h = elim (cases_eq a b) [ inl e ↦ e | inr n ↦ absurd (h n) ]

-- and a set that none leaves is filled
pub closed_filled : (aim : Aim) (P : Plant) (f : Flow) (S : Junctions) → Within P f → Closed aim P f S → Filled aim P f S
closed_filled aim P f S within closed = record {
  out = λ k j t.
      let v = (line P k).from in
      let w = (line P k).to in
      let parts = and_parts (S v) (not (S w)) t in
      same_or (at f k) (forward aim (line P k)) (λ h. both_ways (S w) (not-true (S w) parts.1) (closed v w parts.0 (step_from aim P f v w within (ahead k j refl refl h))));
  into = λ k j t.
      let v = (line P k).to in
      let w = (line P k).from in
      let parts = and_parts (S v) (not (S w)) t in
      same_or (at f k) (backward aim (line P k)) (λ h. both_ways (S w) (not-true (S w) parts.1) (closed v w parts.0 (step_from aim P f v w within (back k j refl refl h))));
}

-- neither of two totals is better
pub no_better_both : (aim : Aim) (a b : ℤ) → NoBetter aim a b → NoBetter aim b a → a ≡ b
no_better_both Greatest a b h i = omega (arith, ints)
no_better_both Least a b h i = omega (arith, ints)

-- a tightest cut meets the total where some cut does
pub tightest_meets : (aim : Aim) (P : Plant) (f : Flow) (M S : Junctions) → Sound P → Feasible P f → Cut P M → total P f ≡ bound aim P M → Tightest aim P S → total P f ≡ bound aim P S
tightest_meets aim P f M S sound feasible m e tight =
    no_better_both aim (total P f) (bound aim P S) (weak_duality aim P f S sound feasible tight.cut) (subst (NoBetter aim (bound aim P S)) (sym e) (tight.tight M m))

-- a cut that meets the total is tightest
pub meets_tightest : (aim : Aim) (P : Plant) (f : Flow) (S : Junctions) → Sound P → Feasible P f → Cut P S → total P f ≡ bound aim P S → Tightest aim P S
meets_tightest aim P f S sound feasible cut e = record {
  cut = cut;
  tight = λ R r. subst (λ t. NoBetter aim t (bound aim P R)) e (weak_duality aim P f R sound feasible r);
}

-- ---- the ends of a step
pub residual_below : (P : Plant) (f : Flow) (v w : ℕ) → Sound P → Residual P f v w → (v < P.junctions) × (w < P.junctions)
residual_below P f v w sound (more k j a b h) = let s = sound.each k j in (rw a at s.from_in, rw b at s.to_in)
residual_below P f v w sound (less k j a b h) = let s = sound.each k j in (rw a at s.to_in, rw b at s.from_in)

step_below : (aim : Aim) (P : Plant) (f : Flow) (v w : ℕ) → Sound P → Step aim P f v w → (v < P.junctions) × (w < P.junctions)
step_below Greatest P f v w sound s = residual_below P f v w sound s
step_below Least P f v w sound s = let e = residual_below P f w v sound s in (e.1, e.0)

-- ---- near and far meet the total where residuals do not lead from the header to the tank
pub near_meets : (aim : Aim) (P : Plant) (f : Flow) (N : Junctions) → Sound P → Feasible P f → (Reaches (Step aim P f) 0 1 → ⊥) → Reached aim P f N → Cut P N × (total P f ≡ bound aim P N)
near_meets aim P f N sound feasible apart near =
    let cut : Cut P N = record {
      inside = near.below;
      header = in_or (N 0) (λ u. near.outside 0 (omega (arith, sound.both)) u here);
      tank = out_of (N 1) (λ t. apart (near.inside 1 t));
    } in
    let closed : Closed aim P f N = λ v w t s. in_or (N w) (λ u. near.outside w (step_below aim P f v w sound s).1 u (on (near.inside v t) s)) in
    (cut, meets aim P f N sound feasible cut (closed_filled aim P f N feasible.within closed))

pub far_meets : (aim : Aim) (P : Plant) (f : Flow) (F : Junctions) → Sound P → Feasible P f → (Reaches (Step aim P f) 0 1 → ⊥) → Unreaching aim P f F → Cut P F × (total P f ≡ bound aim P F)
far_meets aim P f F sound feasible apart far =
    let cut : Cut P F = record {
      inside = far.below;
      header = in_or (F 0) (λ u. apart (far.outside 0 (omega (arith, sound.both)) u));
      tank = out_of (F 1) (λ t. far.inside 1 t here);
    } in
    let closed : Closed aim P f F = λ v w t s. in_or (F w) (λ u. far.inside v t (first (Step aim P f) v w s (far.outside w (step_below aim P f v w sound s).1 u))) in
    (cut, meets aim P f F sound feasible cut (closed_filled aim P f F feasible.within closed))

-- ---- near and far are found by search
abbrev Over : Plant → Flow → ℕ → ℕ → ℕ → Type 0
Over P f v w k = (((line P k).from ≡ v) × (((line P k).to ≡ w) × (at f k < high_of (line P k)))) ⊎ (((line P k).to ≡ v) × (((line P k).from ≡ w) × (low_of (line P k) < at f k)))

pub residual_or : (P : Plant) (f : Flow) (v w : ℕ) → Decided (Residual P f v w)
residual_or P f v w = elim (any_below (Over P f v w) (λ k. either (both (cases_eq (line P k).from v) (both (cases_eq (line P k).to w) (less_or (at f k) (high_of (line P k))))) (both (cases_eq (line P k).to v) (both (cases_eq (line P k).from w) (less_or (low_of (line P k)) (at f k))))) (length P.lines)) [
  | inl p ↦ inl (elim p.2 [ inl q ↦ more p.0 p.1 q.0 q.1.0 q.1.1 | inr q ↦ less p.0 p.1 q.0 q.1.0 q.1.1 ])
  | inr never ↦ inr (λ m. hits m never)
]
  where
    hits : Residual P f v w → ((k : ℕ) → k < length P.lines → Over P f v w k → ⊥) → ⊥
    hits (more k j a b h) never = never k j (inl (a, (b, h)))
    hits (less k j a b h) never = never k j (inr (a, (b, h)))

step_or : (aim : Aim) (P : Plant) (f : Flow) (v w : ℕ) → Decided (Step aim P f v w)
step_or Greatest P f v w = residual_or P f v w
step_or Least P f v w = residual_or P f w v

abbrev only : ℕ → Junctions
only v w = eqb w v

from_only : (E : ℕ → ℕ → Type 0) (v w : ℕ) → From E (only v) w → Reaches E v w
from_only E v w r = subst (λ u. Reaches E u w) (eqb-true r.0 v r.1) r.2

pub reached_exists : (aim : Aim) (P : Plant) (f : Flow) → Sound P → (N : Junctions) × Reached aim P f N
reached_exists aim P f sound =
    let E = Step aim P f in
    let g = reach E (step_or aim P f) P.junctions (λ v w s. (step_below aim P f v w sound s).1) (only 0) (λ v t. omega (arith, sound.both, eqb-true v 0 t)) in
    let whole = g.1 in (
      g.0,
      record {
        below = whole.part.below;
        inside = λ v t. from_only E 0 v (whole.part.reached v t);
        outside = λ v i u r. both_ways (g.0 v) u (stays E g.0 whole.closed 0 (whole.part.holds 0 refl) r);
      },
    )

pub unreaching_exists : (aim : Aim) (P : Plant) (f : Flow) → Sound P → (F : Junctions) × Unreaching aim P f F
unreaching_exists aim P f sound =
    let E = Step aim P f in
    let D : ℕ → ℕ → Type 0 = λ v w. E w v in
    let g = reach D (λ v w. step_or aim P f w v) P.junctions (λ v w s. (step_below aim P f w v sound s).0) (only 1) (λ v t. omega (arith, sound.both, eqb-true v 1 t)) in
    let whole = g.1 in
    let inside : (v : ℕ) → (ltb v P.junctions && not (g.0 v)) ≡ true → (v < P.junctions) × (g.0 v ≡ false) =
    λ v t. let p = and_parts (ltb v P.junctions) (not (g.0 v)) t in (ltb-true v P.junctions p.0, not-true (g.0 v) p.1) in (
      λ v. ltb v P.junctions && not (g.0 v),
      record {
        below = λ v t. (inside v t).0;
        inside = λ v t r. both_ways (g.0 v) (inside v t).1 (stays D g.0 whole.closed 1 (whole.part.holds 1 refl) (turned D v r));
        outside = λ v i u. turned E 1 (from_only D 1 v (whole.part.reached v (elim (and_cases (ltb v P.junctions) (not (g.0 v)) u) [
          | inl e ↦ absurd (both_ways (ltb v P.junctions) e (lt-ltb v P.junctions i))
          | inr e ↦ not-false (g.0 v) e
        ])));
      },
    )
