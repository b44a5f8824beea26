-- How a reading with a buffer is answered.
use Rattle.std.proofs.Common.{◌≡◌, ℕ, ◌<◌, ◌≤◌, Bool, true, false, ltb, leb, List, ◌++◌, length, get_or, drop, ℤ, Some, None, Ok, Err, Option, sym, refl, ap, ◌∙◌, subst, arith}
use Rattle.plant.specs.declared.aim.Aim.{Aim}
use Rattle.plant.specs.declared.decline.Decline.{Decline}
use Rattle.plant.specs.declared.decline.Decline.TheVariants.{BufferLength, LineNumber}
use Rattle.plant.specs.declared.held.HeldLine.{HeldLine}
use Rattle.plant.specs.declared.line.Line.{Line}
use Rattle.plant.specs.Held.{Arc, arc, arcs, flow_of, flows_of}
use Rattle.plant.specs.Plants.{Junctions, bound_over, shortfall_over}
use Rattle.plant.specs.Tests.{pass, test, unless}
use Rattle.reach.specs.Drying.{first_of}
use Rattle.reach.specs.Sets.{member, set_bytes, size}
use Rattle.std.proofs.lemmas.List.{get_or-map, length-map}
use Rattle.std.proofs.lemmas.Bool.{le-leb, lt-leb}
use Rattle.planner.specs.declared.answer.Side.{Side}
use Rattle.planner.specs.declared.answer.Side.TheVariants.{Near, Far}
use Rattle.planner.specs.Cuts.{CutSet, HurdleSet}
use Rattle.planner.specs.Readings.{CutRead, Filled, HurdleRead, Lending, PutSet, Unless, flow_answer, test_flow, test_hurdle}
use Rattle.planner.specs.Views.{View}
use Rattle.planner.proofs.Marked.{size_inside}

-- a call that answers its test passed it
pub passed : (o : Option Decline) → Ok tt ≡ pass o → o ≡ None
passed None e = refl
passed (Some d) e = absurd (let z : ◌≡◌ {A = ℕ} 0 1 = cc in omega arith)

-- a set that was put
pub put : (bytes before after : List ℕ) → PutSet bytes (record { before = before; answer = Ok tt; after = after })
    → (test BufferLength (ltb (length before) 32) None ≡ None) × (after ≡ bytes ++ drop 32 before)
put bytes before after = by (ltb (length before) 32)
  where
    by : (f : Bool) → Unless {A = Unit {0}} (record { before = before; answer = Ok tt; after = after }) (test BufferLength f None) (Filled {A = Unit {0}} (record { before = before; answer = Ok tt; after = after }) 32 bytes tt)
        → (test BufferLength f None ≡ None) × (after ≡ bytes ++ drop 32 before)
    by true h = let e = h.0 in absurd (let z : ◌≡◌ {A = ℕ} 0 1 = cc in omega arith)
    by false h = (refl, h.1)

-- the members of a cut are below n
pub cut_inside : (side : Side) (aim : Aim) (n : ℕ) (as' : List Arc) (S : Junctions) → CutSet side aim n as' S → (v : ℕ) → S v ≡ true → v < n
cut_inside Near aim n as' S c v t = ((c v).0 t).0
cut_inside Far aim n as' S c v t = ((c v).0 t).0

-- the answer of a reading that no test declined
pub answered : {A : Type 0} (b : Lending A) (o next : Option Decline) (on : Type 0) → o ≡ None → next ≡ None → on → Unless b (first_of o next) on
answered b o next on e f h = subst (λ (z : Option Decline). Unless b z on) (sym (ap (λ (z : Option Decline). first_of z next) e ∙ f)) h

-- the cut that was put, with its size and its bound
pub cut_answered : (p : View) (side : Side) (before after bytes : List ℕ) (S : Junctions) (size' : ℕ) (bound' x : ℤ) (aim : Aim) (ls : List Line)
    → test_flow p.state ≡ None → (test BufferLength (ltb (length before) 32) None ≡ None) × (after ≡ bytes ++ drop 32 before) → p.plant.junctions ≤ 256
    → CutSet side p.aim p.plant.junctions p.arcs S → ((v : ℕ) → member bytes v ≡ S v) → bytes ≡ set_bytes S
    → size' ≡ size (member bytes) 256 → bound' ≡ x → x ≡ bound_over aim ls S → aim ≡ p.aim → ls ≡ p.plant.lines
    → CutRead p side (record { before = before; answer = Ok (size', bound'); after = after })
cut_answered p side before after bytes S size' bound' x aim ls t r n c m e s f b ae le =
    let z = s ∙ size_inside p.plant.junctions S (member bytes) n (cut_inside side p.aim p.plant.junctions p.arcs S c) m in
    let value = f ∙ b ∙ ap (λ (a : Aim). bound_over a ls S) ae ∙ ap (λ (ks : List Line). bound_over p.aim ks S) le in
    answered _ (test_flow p.state) (test BufferLength (ltb (length before) 32) None) _ t r.0
    (S, c, (ap (λ (k : ℕ). Ok (k, bound')) z ∙ ap (λ (y : ℤ). Ok (size S p.plant.junctions, y)) value, r.1 ∙ ap (λ (xs : List ℕ). xs ++ drop 32 before) e))

-- the hurdle that was put, with its size and its shortfall
pub hurdle_answered : (p : View) (before after bytes : List ℕ) (S : Junctions) (size' short : ℕ) (ls : List Line)
    → test_hurdle p.state ≡ None → (test BufferLength (ltb (length before) 32) None ≡ None) × (after ≡ bytes ++ drop 32 before) → p.plant.junctions ≤ 256
    → HurdleSet p.plant.junctions p.arcs S → ((v : ℕ) → member bytes v ≡ S v) → bytes ≡ set_bytes S
    → size' ≡ size (member bytes) 256 → short ≡ shortfall_over ls S → ls ≡ p.plant.lines
    → HurdleRead p (record { before = before; answer = Ok (size', short); after = after })
hurdle_answered p before after bytes S size' short ls t r n c m e s b le =
    let z = s ∙ size_inside p.plant.junctions S (member bytes) n (λ v h. ((c v).0 h).0) m in
    let value = b ∙ ap (λ (ks : List Line). shortfall_over ks S) le in
    answered _ (test_hurdle p.state) (test BufferLength (ltb (length before) 32) None) _ t r.0
    (S, c, (ap (λ (k : ℕ). Ok (k, short)) z ∙ ap (λ (y : ℕ). Ok (size S p.plant.junctions, y)) value, r.1 ∙ ap (λ (xs : List ℕ). xs ++ drop 32 before) e))

-- the flow of a line that there is
pub flow_answered : (p : View) (hs : List HeldLine) (k : ℕ) (d : HeldLine) → test_flow p.state ≡ None → p.arcs ≡ arcs hs → k < length hs
    → Ok (get_or hs k d).flow ≡ flow_answer p k
flow_answered p hs k d t e h =
    let m : length p.arcs ≡ length hs = ap length e ∙ length-map hs arc in
    let value : get_or (flows_of p.arcs) k 0 ≡ (get_or hs k d).flow =
    get_or-map flow_of p.arcs k (arc d) 0 (omega arith) ∙ ap (λ (xs : List Arc). flow_of (get_or xs k (arc d))) e ∙ ap flow_of (get_or-map arc hs k d (arc d) h) in
    sym (ap (λ (o : Option Decline). unless (first_of o (test LineNumber (leb (length p.arcs) k) None)) (get_or (flows_of p.arcs) k 0)) t
    ∙ ap (λ (f : Bool). unless (test LineNumber f None) (get_or (flows_of p.arcs) k 0)) (lt-leb (length p.arcs) k (omega arith)) ∙ ap Ok value)

-- and the answer for a line that there is not
pub flow_declined : (p : View) (hs : List HeldLine) (k : ℕ) → test_flow p.state ≡ None → p.arcs ≡ arcs hs → length hs ≤ k → Err LineNumber ≡ flow_answer p k
flow_declined p hs k t e h =
    let m : length p.arcs ≡ length hs = ap length e ∙ length-map hs arc in
    sym (ap (λ (o : Option Decline). unless (first_of o (test LineNumber (leb (length p.arcs) k) None)) (get_or (flows_of p.arcs) k 0)) t
    ∙ ap (λ (f : Bool). unless (test LineNumber f None) (get_or (flows_of p.arcs) k 0)) (le-leb (length p.arcs) k (omega arith)))
