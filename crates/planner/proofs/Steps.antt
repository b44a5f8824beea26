-- Paths over residual edges, and paths of residuals over arcs.
use Rattle.std.proofs.Common.{◌≡◌, ℕ, ◌+◌, ◌-◌, ◌<◌, true, false, cond, ◌&&◌, eqb, ltb, List, get_or, sym, ap, ◌∙◌, subst, ⊎_elim, arith}
use Rattle.plant.specs.Held.{Arc, other, residual}
use Rattle.plant.specs.Plants.{Junctions, high_of, low_of, no_line}
use Rattle.reach.proofs.Tables.{any_at, any_from}
use Rattle.reach.specs.Drawn.{can_fall, can_rise, opens, residual_edge}
use Rattle.reach.specs.Marking.{Reaches, here, on}
use Rattle.stage.specs.States.{Reach, SoundArc}
use Rattle.stage.specs.States as stage
use Rattle.std.proofs.ByRecursion.{all-has, All-weaker, has_get_or}
use Rattle.std.proofs.lemmas.Bool.{and_from, and_parts, both_ways, cases_Bool, cond-false, cond-true, eq-eqb, eqb-true, lt-ltb, ltb-true, or_cases, or_left, or_right}
use Rattle.std.specs.List.{ContainsAt, AllByRecursion}
use Rattle.planner.specs.Cuts.{HurdleSet}

no_arc : Arc
no_arc = record { line = no_line; flow = 0 }

-- both ends of an arc are below m
abbrev pub EndsIn : ℕ → Arc → Type 0
EndsIn m a = (a.line.from < m) × (a.line.to < m)

abbrev onward : Arc → ℕ
onward a = high_of a.line - a.flow

abbrev back : ℕ → Arc → ℕ
back v a = cond (eqb a.line.to v) (a.flow - low_of a.line) 0

-- what an arc leaves open at its start and, where that is another junction, at its end
at_from : (v : ℕ) (a : Arc) → eqb a.line.from v ≡ true → (residual v a ≡ high_of a.line - a.flow) × (other v a ≡ a.line.to)
at_from v a e = (cond-true (eqb a.line.from v) (onward a) (back v a) e, cond-true (eqb a.line.from v) a.line.to a.line.from e)

at_to : (v : ℕ) (a : Arc) → eqb a.line.from v ≡ false → (residual v a ≡ back v a) × (other v a ≡ a.line.from)
at_to v a e = (cond-false (eqb a.line.from v) (onward a) (back v a) e, cond-false (eqb a.line.from v) a.line.to a.line.from e)

-- one step over an arc
step : (as' : List Arc) (from v w : ℕ) (a : Arc) → ContainsAt as' a → opens a v w ≡ true → Reach as' from v → Reach as' from w
step as' from v w a has o r =
    ⊎_elim
    (λ (q : can_rise a v w ≡ true).
    let p = and_parts (eqb a.line.from v && eqb a.line.to w) (ltb a.flow (high_of a.line)) q in
    let j = and_parts (eqb a.line.from v) (eqb a.line.to w) p.0 in
    let lt = ltb-true a.flow (high_of a.line) p.1 in
    let s = at_from v a j.0 in
    stage.on r a has (omega (arith, lt, s.0)) (sym (s.1 ∙ eqb-true a.line.to w j.1)))
    (λ (q : can_fall a v w ≡ true).
    let p = and_parts (eqb a.line.from w && eqb a.line.to v) (ltb (low_of a.line) a.flow) q in
    let j = and_parts (eqb a.line.from w) (eqb a.line.to v) p.0 in
    let lt = ltb-true (low_of a.line) a.flow p.1 in
    let fw = eqb-true a.line.from w j.0 in
    ⊎_elim
    (λ (t : eqb a.line.from v ≡ true). subst (λ (x : ℕ). Reach as' from x) (sym (eqb-true a.line.from v t) ∙ fw) r)
    (λ (t : eqb a.line.from v ≡ false).
    let s = at_to v a t in
    let full = cond-true (eqb a.line.to v) (a.flow - low_of a.line) 0 j.1 in
    stage.on r a has (omega (arith, lt, s.0, full)) (sym (s.1 ∙ fw)))
    (cases_Bool (eqb a.line.from v)))
    (or_cases (can_rise a v w) (can_fall a v w) o)

-- a path over residual edges is a path over arcs
pub to_reach : (as' : List Arc) (m from : ℕ) {w : ℕ} → Reaches (residual_edge as') m from w → Reach as' from w
to_reach as' m from (here h) = stage.here
to_reach as' m from (on v w r l d) =
    let k = any_at (λ a. opens a v w) as' no_arc d in
    step as' from v w (get_or as' k.0 no_arc) (has_get_or as' k.0 no_arc k.1) k.2 (to_reach as' m from r)

-- an arc that leaves something open from v opens to its other end
opened : (v : ℕ) (a : Arc) → 0 < residual v a → opens a v (other v a) ≡ true
opened v a p =
    ⊎_elim
    (λ (t : eqb a.line.from v ≡ true).
    let s = at_from v a t in
    or_left (can_rise a v (other v a)) (can_fall a v (other v a))
    (and_from (eqb a.line.from v && eqb a.line.to (other v a)) (ltb a.flow (high_of a.line))
    (and_from (eqb a.line.from v) (eqb a.line.to (other v a)) t (eq-eqb a.line.to (other v a) (sym s.1)))
    (lt-ltb a.flow (high_of a.line) (omega (arith, p, s.0)))))
    (λ (t : eqb a.line.from v ≡ false).
    let s = at_to v a t in
    ⊎_elim
    (λ (u : eqb a.line.to v ≡ true).
    let full = cond-true (eqb a.line.to v) (a.flow - low_of a.line) 0 u in
    or_right (can_rise a v (other v a)) (can_fall a v (other v a))
    (and_from (eqb a.line.from (other v a) && eqb a.line.to v) (ltb (low_of a.line) a.flow)
    (and_from (eqb a.line.from (other v a)) (eqb a.line.to v) (eq-eqb a.line.from (other v a) (sym s.1)) u)
    (lt-ltb (low_of a.line) a.flow (omega (arith, p, s.0, full)))))
    (λ (u : eqb a.line.to v ≡ false). absurd (omega (arith, p, s.0, cond-false (eqb a.line.to v) (a.flow - low_of a.line) 0 u)))
    (cases_Bool (eqb a.line.to v)))
    (cases_Bool (eqb a.line.from v))

other_in : (m v : ℕ) (a : Arc) → EndsIn m a → other v a < m
other_in m v a h =
    ⊎_elim (λ (t : eqb a.line.from v ≡ true). omega (arith, h.1, (at_from v a t).1)) (λ (t : eqb a.line.from v ≡ false). omega (arith, h.0, (at_to v a t).1))
    (cases_Bool (eqb a.line.from v))

-- and back, where all ends are below m
pub from_reach : (as' : List Arc) (m from : ℕ) → AllByRecursion (EndsIn m) as' → from < m → {w : ℕ} → Reach as' from w → Reaches (residual_edge as') m from w
from_reach as' m from ends h stage.here = here h
from_reach as' m from ends h (stage.on {w = v} {x = w} r a has p e) =
    let edge : residual_edge as' v (other v a) ≡ true =
    any_from (λ x. opens x v (other v a)) as' no_arc has.0 has.1 (ap (λ (x : Arc). opens x v (other v a)) (has.2 no_arc) ∙ opened v a p) in
    on v w (from_reach as' m from ends h r) (omega (arith, e, other_in m v a (all-has (EndsIn m) as' a ends has))) (ap (λ (x : ℕ). residual_edge as' v x) e ∙ edge)

-- the hurdle's members are what a path over arcs reaches from n
pub hurdle_reach : (n : ℕ) (as' : List Arc) (S : Junctions) → AllByRecursion (EndsIn (n + 2)) as' → HurdleSet n as' S → (v : ℕ)
    → (S v ≡ true → (v < n) × Reach as' n v) × (v < n → S v ≡ false → Reach as' n v → ⊥)
hurdle_reach n as' S ends s v = (
  λ t. (((s v).0 t).0, to_reach as' (n + 2) n ((s v).0 t).1),
  λ l f r. both_ways (S v) f ((s v).1 l (from_reach as' (n + 2) n ends (omega arith) r)),
)

-- sound arcs have their ends below m
pub sound_ends : (m : ℕ) (as' : List Arc) → AllByRecursion (SoundArc m) as' → AllByRecursion (EndsIn m) as'
sound_ends m as' all = All-weaker (SoundArc m) (EndsIn m) (λ a s. (s.sound.from_in, s.sound.to_in)) as' all
