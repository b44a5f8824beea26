-- What a search marks, as paths of residuals.
use Rattle.std.proofs.Common.{◌≡◌, ℕ, ◌<◌, ◌≤◌, Bool, true, false, cond, ◌&&◌, ◌||◌, eqb, ltb, List, length, get_or, Ok, Err, Result, sym, ap, ◌∙◌, subst, ⊎_elim, arith}
use Rattle.plant.specs.declared.decline.Decline.{Decline}
use Rattle.plant.specs.declared.decline.Decline.TheVariants.{BufferLength}
use Rattle.plant.specs.declared.line.Line.{Line}
use Rattle.plant.specs.Held.{Arc, flow_of, flows_of, line_of, lines_of}
use Rattle.plant.specs.Plants.{Flow, Plant, Residual, at, high_of, less, line, low_of, more, no_line}
use Rattle.plant.specs.Plants as plants
use Rattle.reach.specs.Drawn.{can_fall, can_rise, opens, residual_edge, turned}
use Rattle.reach.specs.Marking.{Marks, Reaches, Searched, here, on}
use Rattle.reach.proofs.Tables.{any_at, any_from}
use Rattle.std.proofs.lemmas.List.{get_or-map, length-map}
use Rattle.std.proofs.lemmas.Bool.{and_from, and_parts, eq-eqb, eqb-true, le-ltb, lt-ltb, ltb-true, or_cases, or_from, or_left, or_right}

-- equal edges, equal paths
pub reaches_alike : (e e' : ℕ → ℕ → Bool) (n from : ℕ) → ((v w : ℕ) → e v w ≡ e' v w) → {w : ℕ} → Reaches e n from w → Reaches e' n from w
reaches_alike e e' n from s (here h) = here h
reaches_alike e e' n from s (on v w r l d) = on v w (reaches_alike e e' n from s r) l (sym (s v w) ∙ d)

-- and equal marks
pub marks_alike : (e e' : ℕ → ℕ → Bool) (n from : ℕ) (marks : List Bool) → ((v w : ℕ) → e v w ≡ e' v w) → Marks e n from marks → Marks e' n from marks
marks_alike e e' n from marks s k w l =
    (λ a. reaches_alike e e' n from s ((k w l).0 a), λ r. (k w l).1 (reaches_alike e' e n from (λ x y. sym (s x y)) r))

-- and equal answers of a search
pub searched_alike : (e e' : ℕ → ℕ → Bool) (n from : ℕ) (before : List Bool) (room : ℕ) (r : Result (Unit {0}) Decline) (after : List Bool)
    → ((v w : ℕ) → e v w ≡ e' v w) → Searched e n from before room r after → Searched e' n from before room r after
searched_alike e e' n from before room r after s = by_room (ltb (length before) n || ltb room n)
  where
    by_room : (b : Bool)
        → cond b ((r ≡ Err BufferLength) × (after ≡ before)) ((r ≡ Ok tt) × Marks e n from after)
        → cond b ((r ≡ Err BufferLength) × (after ≡ before)) ((r ≡ Ok tt) × Marks e' n from after)
    by_room true h = h
    by_room false h = (h.0, marks_alike e e' n from after s h.1)

-- a search with room enough marks
pub searched_marks : (e : ℕ → ℕ → Bool) (n from : ℕ) (before : List Bool) (room : ℕ) (r : Result (Unit {0}) Decline) (after : List Bool)
    → n ≤ length before → n ≤ room → Searched e n from before room r after → (r ≡ Ok tt) × Marks e n from after
searched_marks e n from before room r after h l s =
    subst (λ (b : Bool). cond b ((r ≡ Err BufferLength) × (after ≡ before)) ((r ≡ Ok tt) × Marks e n from after))
    (or_from (ltb (length before) n) (ltb room n) (le-ltb (length before) n h) (le-ltb room n l)) s

-- a path among the junctions below n is a path, and back
pub to_path : (e : ℕ → ℕ → Bool) (E : ℕ → ℕ → Type 0) (n from : ℕ) → ((v w : ℕ) → e v w ≡ true → E v w) → {w : ℕ} → Reaches e n from w → plants.Reaches E from w
to_path e E n from s (here h) = plants.here
to_path e E n from s (on v w r l d) = plants.on (to_path e E n from s r) (s v w d)

pub from_path : (e : ℕ → ℕ → Bool) (E : ℕ → ℕ → Type 0) (n from : ℕ) → ((v w : ℕ) → E v w → (e v w ≡ true) × (w < n)) → from < n → {w : ℕ} → plants.Reaches E from w → Reaches e n from w
from_path e E n from s h plants.here = here h
from_path e E n from s h (plants.on {u} {w} r x) = on u w (from_path e E n from s h r) (s u w x).1 (s u w x).0

front_step : (E : ℕ → ℕ → Type 0) (v u : ℕ) {w : ℕ} → E v u → plants.Reaches E u w → plants.Reaches E v w
front_step E v u x plants.here = plants.on plants.here x
front_step E v u x (plants.on r y) = plants.on (front_step E v u x r) y

-- a path read backward
pub turned_path : (E : ℕ → ℕ → Type 0) (v : ℕ) {w : ℕ} → plants.Reaches E v w → plants.Reaches (λ x y. E y x) w v
turned_path E v plants.here = plants.here
turned_path E v (plants.on {u} {w} r x) = front_step (λ a b. E b a) w u x (turned_path E v r)

no_arc : Arc
no_arc = record { line = no_line; flow = 0 }

-- the arcs are those of a plant and a flow
pub record Carries (as' : List Arc) (P : Plant) (f : Flow) : Type 0 where
  pub lines : lines_of as' ≡ P.lines
  pub flows : flows_of as' ≡ f

-- the ends of each line are below n
abbrev pub EndsBelow : ℕ → Plant → Type 0
EndsBelow n P = (k : ℕ) → k < length P.lines → ((line P k).from < n) × ((line P k).to < n)

as_long : (as' : List Arc) (P : Plant) (f : Flow) → Carries as' P f → length as' ≡ length P.lines
as_long as' P f c = sym (length-map as' line_of) ∙ ap length c.lines

line_at : (as' : List Arc) (P : Plant) (f : Flow) (k : ℕ) → Carries as' P f → k < length as' → line P k ≡ (get_or as' k no_arc).line
line_at as' P f k c h = ap (λ (ls : List Line). get_or ls k no_line) (sym c.lines) ∙ get_or-map line_of as' k no_arc no_line h

flow_at : (as' : List Arc) (P : Plant) (f : Flow) (k : ℕ) → Carries as' P f → k < length as' → at f k ≡ (get_or as' k no_arc).flow
flow_at as' P f k c h = ap (λ (xs : Flow). at xs k) (sym c.flows) ∙ get_or-map flow_of as' k no_arc 0 h

-- an edge is a residual
pub residual_sound : (as' : List Arc) (P : Plant) (f : Flow) (v w : ℕ) → Carries as' P f → residual_edge as' v w ≡ true → Residual P f v w
residual_sound as' P f v w c e =
    let r = any_at (λ a. opens a v w) as' no_arc e in
    let k = r.0 in
    let h : k < length P.lines = omega (arith, r.1, as_long as' P f c) in
    let a = get_or as' k no_arc in
    let le = line_at as' P f k c r.1 in
    let fe = flow_at as' P f k c r.1 in
    let he = ap high_of le in
    let we = ap low_of le in
    ⊎_elim
    (λ (q : can_rise a v w ≡ true).
    let p = and_parts (eqb a.line.from v && eqb a.line.to w) (ltb a.flow (high_of a.line)) q in
    let j = and_parts (eqb a.line.from v) (eqb a.line.to w) p.0 in
    let lt = ltb-true a.flow (high_of a.line) p.1 in
    more k h (ap (λ (l : Line). l.from) le ∙ eqb-true a.line.from v j.0) (ap (λ (l : Line). l.to) le ∙ eqb-true a.line.to w j.1) (omega (arith, lt, fe, he)))
    (λ (q : can_fall a v w ≡ true).
    let p = and_parts (eqb a.line.from w && eqb a.line.to v) (ltb (low_of a.line) a.flow) q in
    let j = and_parts (eqb a.line.from w) (eqb a.line.to v) p.0 in
    let lt = ltb-true (low_of a.line) a.flow p.1 in
    less k h (ap (λ (l : Line). l.to) le ∙ eqb-true a.line.to v j.1) (ap (λ (l : Line). l.from) le ∙ eqb-true a.line.from w j.0) (omega (arith, lt, fe, we)))
    (or_cases (can_rise a v w) (can_fall a v w) r.2)

-- and a residual is an edge
pub residual_found : (as' : List Arc) (P : Plant) (f : Flow) (v w : ℕ) → Carries as' P f → Residual P f v w → residual_edge as' v w ≡ true
residual_found as' P f v w c (more k h p q lt) =
    let i : k < length as' = omega (arith, as_long as' P f c) in
    let a = get_or as' k no_arc in
    let le = line_at as' P f k c i in
    let fe = flow_at as' P f k c i in
    let he = ap high_of le in
    any_from (λ x. opens x v w) as' no_arc k i
    (or_left (can_rise a v w) (can_fall a v w)
    (and_from (eqb a.line.from v && eqb a.line.to w) (ltb a.flow (high_of a.line))
    (and_from (eqb a.line.from v) (eqb a.line.to w)
    (eq-eqb a.line.from v (sym (ap (λ (l : Line). l.from) le) ∙ p)) (eq-eqb a.line.to w (sym (ap (λ (l : Line). l.to) le) ∙ q)))
    (lt-ltb a.flow (high_of a.line) (omega (arith, lt, fe, he)))))
residual_found as' P f v w c (less k h p q lt) =
    let i : k < length as' = omega (arith, as_long as' P f c) in
    let a = get_or as' k no_arc in
    let le = line_at as' P f k c i in
    let fe = flow_at as' P f k c i in
    let we = ap low_of le in
    any_from (λ x. opens x v w) as' no_arc k i
    (or_right (can_rise a v w) (can_fall a v w)
    (and_from (eqb a.line.from w && eqb a.line.to v) (ltb (low_of a.line) a.flow)
    (and_from (eqb a.line.from w) (eqb a.line.to v)
    (eq-eqb a.line.from w (sym (ap (λ (l : Line). l.from) le) ∙ q)) (eq-eqb a.line.to v (sym (ap (λ (l : Line). l.to) le) ∙ p)))
    (lt-ltb (low_of a.line) a.flow (omega (arith, lt, fe, we)))))

-- a residual joins junctions below n
pub residual_ends : (n : ℕ) (P : Plant) (f : Flow) (v w : ℕ) → EndsBelow n P → Residual P f v w → (v < n) × (w < n)
residual_ends n P f v w b (more k h p q lt) = (omega (arith, (b k h).0, p), omega (arith, (b k h).1, q))
residual_ends n P f v w b (less k h p q lt) = (omega (arith, (b k h).1, p), omega (arith, (b k h).0, q))

-- from a junction below n a search over residuals reaches what residuals reach
pub residual_reaches : (as' : List Arc) (P : Plant) (f : Flow) (n from : ℕ) → Carries as' P f → EndsBelow n P → from < n → (w : ℕ)
    → (Reaches (residual_edge as') n from w → plants.Reaches (Residual P f) from w) × (plants.Reaches (Residual P f) from w → Reaches (residual_edge as') n from w)
residual_reaches as' P f n from c b h w = (
  λ r. to_path (residual_edge as') (Residual P f) n from (λ x y. residual_sound as' P f x y c) r,
  λ r. from_path (residual_edge as') (Residual P f) n from (λ x y s. (residual_found as' P f x y c s, (residual_ends n P f x y b s).1)) h r,
)

-- and over the reversed graph what residuals reach read backward
pub turned_reaches : (as' : List Arc) (P : Plant) (f : Flow) (n from : ℕ) → Carries as' P f → EndsBelow n P → from < n → (w : ℕ)
    → (Reaches (turned (residual_edge as')) n from w → plants.Reaches (λ x y. Residual P f y x) from w)
    × (plants.Reaches (λ x y. Residual P f y x) from w → Reaches (turned (residual_edge as')) n from w)
turned_reaches as' P f n from c b h w = (
  λ r. to_path (turned (residual_edge as')) (λ x y. Residual P f y x) n from (λ x y. residual_sound as' P f y x c) r,
  λ r. from_path (turned (residual_edge as')) (λ x y. Residual P f y x) n from (λ x y s. (residual_found as' P f y x c s, (residual_ends n P f y x b s).0)) h r,
)

-- which is all from which residuals reach that junction
pub reaching : (as' : List Arc) (P : Plant) (f : Flow) (n to : ℕ) → Carries as' P f → EndsBelow n P → to < n → (v : ℕ)
    → (Reaches (turned (residual_edge as')) n to v → plants.Reaches (Residual P f) v to) × (plants.Reaches (Residual P f) v to → Reaches (turned (residual_edge as')) n to v)
reaching as' P f n to c b h v =
    let t = turned_reaches as' P f n to c b h v in
    (λ r. turned_path (λ x y. Residual P f y x) to (t.0 r), λ r. t.1 (turned_path (Residual P f) v r))
