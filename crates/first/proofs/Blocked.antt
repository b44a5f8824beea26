-- Where stage one ends and a line from n is not full: what residuals reach from n is the worst hurdle.
use Rattle.std.proofs.Common.{◌≡◌, ℕ, zero, suc, ◌+◌, ◌-◌, ◌<◌, true, false, ltb, ◌⊎◌, List, sym, refl, ap, ◌∙◌, subst, inl, inr, arith}
use Rattle.std.specs.List.{ContainsAt}
use Rattle.std.proofs.ByRecursion.{all-has}
use Rattle.std.proofs.lemmas.Bool.{and_parts, and_from, lt-ltb, ltb-true, cases_lt}
use Rattle.plant.specs.declared.line.Line.{Line}
use Rattle.plant.specs.Plants.{Plant, Flow, Junctions, Sound, WorstHurdle, Residual, more, less, Reaches, here, on, low_of, high_of, inflow, outflow}
use Rattle.plant.specs.Held.{Arc, residual, other, flows_of}
use Rattle.cuts.proofs.Sums.{over_nothing}
use Rattle.cuts.proofs.Search.{in_or, From, Whole, reach}
use Rattle.cuts.proofs.Reach.{residual_or, residual_below}
use Rattle.cuts.proofs.Circulations.{waiting, waits, excess, Stuck}
use Rattle.cuts.proofs.Hurdles.{with_back, sound_back, stuck_worst, no_flow}
use Rattle.stage.specs.declared.Row.{Row}
use Rattle.stage.specs.Model.{come, gone}
use Rattle.stage.specs.States.{SoundArc, Reach}
use Rattle.stage.specs.States as states
use Rattle.stage.specs.First.{filled, second_arcs}
use Rattle.stage.proofs.Ends.{lies}
use Rattle.stage.proofs.Best.{end_is_best, goal_out_of_reach}
use Rattle.first.specs.Theorems.{FirstFlow, FirstEnded, ReachedFirst, FirstBlocked, FirstExactly}
use Rattle.first.proofs.Network.{lows_in, lows_out}
use Rattle.first.proofs.Reading.{same_from, same_to, Source, Sink, Kind, own, back, from_start, to_goal, Reading, reading, back_flow}
use Rattle.first.proofs.Found.{unfilled, arc_sound, back_within, waits_are, first_feasible}

-- ---- a residual, as a way over an arc
data Over (a : Arc) (v w : ℕ) : Type 0 where
  ahead : a.line.from ≡ v → a.line.to ≡ w → a.flow < high_of a.line → Over a v w
  behind : a.line.to ≡ v → a.line.from ≡ w → low_of a.line < a.flow → Over a v w

over_residual : (n : ℕ) (a : Arc) (v w : ℕ) → SoundArc n a → 0 < residual v a → w ≡ other v a → Over a v w
over_residual n a v w s q e = elim (lies n v a s) [
  | inl d ↦ ahead d.here (sym d.end ∙ sym e) (omega (arith, d.room))
  | inr o ↦ elim o [
    | inl d ↦ behind d.here (sym d.end ∙ sym e) (omega (arith, d.room))
    | inr d ↦ absurd (omega (arith, d.room))
  ]
]

over_on : (n s : ℕ) (ls : List Arc) (a : Arc) (v w : ℕ) → SoundArc n a → ContainsAt ls a → Over a v w → Reach ls s v → Reach ls s w
over_on n s ls a v w so h (ahead p q l) r = elim (lies n v a so) [
  | inl d ↦ states.on r a h (omega (arith, d.room)) (sym q ∙ sym d.end)
  | inr o ↦ elim o [ inl d ↦ absurd (d.far p) | inr d ↦ absurd (d.here p) ]
]
over_on n s ls a v w so h (behind p q l) r = elim (lies n v a so) [
  | inl d ↦ absurd (d.far p)
  | inr o ↦ elim o [ inl d ↦ states.on r a h (omega (arith, d.room)) (sym q ∙ sym d.end) | inr d ↦ absurd (d.far p) ]
]

over_source : (n : ℕ) (ks : List Line) (u x : ℕ) (a : Arc) → Source n ks u x a → x < lows_in ks u - lows_out ks u → Over a n u
over_source n ks u x a s l = ahead (same_from s.is) (same_to s.is) (omega (arith, ap high_of s.is, s.flow))

over_sink : (n : ℕ) (ks : List Line) (u x : ℕ) (a : Arc) → Sink n ks u x a → x < lows_out ks u - lows_in ks u → Over a u (n + 1)
over_sink n ks u x a s l = ahead (same_from s.is) (same_to s.is) (omega (arith, ap high_of s.is, s.flow))

waits_is : (P : Plant) (f : Flow) (v : ℕ) → waits P f v ≡ true → (v < P.junctions) × (outflow P f v < inflow P f v)
waits_is P f v t =
    let tests = and_parts (ltb v P.junctions) (ltb (outflow P f v) (inflow P f v)) t in
    (ltb-true v P.junctions tests.0, ltb-true (outflow P f v) (inflow P f v) tests.1)

-- ---- residuals of stage one and of the plant with a line back
module _ (P : Plant) (ls : List Arc) (sound : Sound P) (first : FirstFlow P ls) (r : Reading P ls) where
  abbrev Q : Plant
  Q = with_back P

  abbrev F : Flow
  F = back_flow P ls r.x

  -- an arc for each residual
  residual_arc : (v w : ℕ) → Residual Q F v w → (a : Arc) × ContainsAt ls a × Over a v w
  residual_arc v w (more zero j p q h) =
      let b = r.back_arc in
      (b.0, b.1, ahead (same_from b.2 ∙ p) (same_to b.2 ∙ q) (omega (arith, b.3, ap high_of b.2)))
  residual_arc v w (less zero j p q h) =
      let b = r.back_arc in
      (b.0, b.1, behind (same_to b.2 ∙ p) (same_from b.2 ∙ q) (omega (arith, b.3, ap low_of b.2)))
  residual_arc v w (more (suc k) j p q h) =
      let b = r.own_arc k (omega arith) in
      let o = b.2 in
      (b.0, b.1, ahead (same_from o.is ∙ p) (same_to o.is ∙ q) (omega (arith, o.flow, ap high_of o.is)))
  residual_arc v w (less (suc k) j p q h) =
      let b = r.own_arc k (omega arith) in
      let o = b.2 in
      (b.0, b.1, behind (same_to o.is ∙ p) (same_from o.is ∙ q) (omega (arith, o.flow, ap low_of o.is)))

  further : (v w : ℕ) → Residual Q F v w → Reach ls P.junctions v → Reach ls P.junctions w
  further v w e t = let a = residual_arc v w e in over_on (P.junctions + 2) P.junctions ls a.0 v w (arc_sound P ls sound first r a.0 a.1) a.1 a.2 t

  -- n reaches where something waits, and all that is reached from there
  waiting_reached : (v : ℕ) → waits Q F v ≡ true → Reach ls P.junctions v
  waiting_reached v t =
      let w = waits_is Q F v t in
      let j = w.0 in
      let e = (waits_are P ls sound first r v j).much in
      let a = r.surplus_arcs.source_arc v j (omega (arith, w.1)) in
      let h = r.later a.0 a.1 in
      over_on (P.junctions + 2) P.junctions ls a.0 P.junctions v (arc_sound P ls sound first r a.0 h) h
      (over_source P.junctions P.lines v (come r.ss v) a.0 a.2 (omega (arith, w.1))) states.here

  along : {v w : ℕ} → Reach ls P.junctions v → Reaches (Residual Q F) v w → Reach ls P.junctions w
  along t here = t
  along {v} {w} t (on {u} p e) = further u w e (along t p)

  from_reached : (v : ℕ) → From (Residual Q F) (waits Q F) v → Reach ls P.junctions v
  from_reached v p = along (waiting_reached p.0 p.1) p.2

  -- where a junction lacks something, n + 1 is near
  lack_reached : (v : ℕ) → v < P.junctions → inflow Q F v < outflow Q F v → Reach ls P.junctions v → Reach ls P.junctions (P.junctions + 1)
  lack_reached v j l t =
      let e = (waits_are P ls sound first r v j).little in
      let a = r.surplus_arcs.sink_arc v j (omega arith) in
      let h = r.later a.0 a.1 in
      over_on (P.junctions + 2) P.junctions ls a.0 v (P.junctions + 1) (arc_sound P ls sound first r a.0 h) h
      (over_sink P.junctions P.lines v (gone r.ss v) a.0 a.2 (omega arith)) t

  source_waits : (u : ℕ) (a : Arc) → u < P.junctions → Source P.junctions P.lines u (come r.ss u) a → a.flow < high_of a.line → waits Q F u ≡ true
  source_waits u a j s l =
      let e = (waits_are P ls sound first r u j).much in
      and_from (ltb u P.junctions) (ltb (outflow Q F u) (inflow Q F u)) (lt-ltb u P.junctions j) (lt-ltb (outflow Q F u) (inflow Q F u) (omega (arith, ap high_of s.is, s.flow)))

  -- some line from n is not full, so something waits
  some_waits : filled P.junctions ls ≡ false → (u : ℕ) × (waits Q F u ≡ true)
  some_waits e =
      let a = unfilled P.junctions ls e in
      elim (all-has (Kind P ls r.x r.ss) ls a.0 r.kinds a.1) [
        | own k o ↦ absurd (omega (arith, a.2, same_from o.is, (sound.each k o.inside).from_in))
        | back q _ ↦ absurd (omega (arith, a.2, same_from q, sound.both))
        | from_start u j s ↦ (u, source_waits u a.0 j s a.3)
        | to_goal u j s ↦ absurd (omega (arith, a.2, same_from s.is))
      ]

  -- all that is reached from where something waits
  some_whole : (M : Junctions) × Whole (Residual Q F) (waits Q F) P.junctions M
  some_whole = reach (Residual Q F) (residual_or Q F) P.junctions (λ v w s. (residual_below Q F v w (sound_back P sound) s).1) (waits Q F) (λ v t. (waits_is Q F v t).0)

  module _ (apart : Reach ls P.junctions (P.junctions + 1) → ⊥) where
    -- what n reaches besides itself is reached from where something waits
    reached_from : {v : ℕ} → Reach ls P.junctions v → (v ≡ P.junctions) ⊎ ((v < P.junctions) × From (Residual Q F) (waits Q F) v)
    reached_from states.here = inl refl
    reached_from (states.on {w} {x = y} t a h q e) =
        let s = arc_sound P ls sound first r a h in
        go (all-has (Kind P ls r.x r.ss) ls a r.kinds h) (over_residual (P.junctions + 2) a w y s q e) (reached_from t) (states.on t a h q e)
      where
        step : Residual Q F w y → (w ≡ P.junctions) ⊎ ((w < P.junctions) × From (Residual Q F) (waits Q F) w) → (y ≡ P.junctions) ⊎ ((y < P.junctions) × From (Residual Q F) (waits Q F) y)
        step e (inl z) = absurd (omega (arith, (residual_below Q F w y (sound_back P sound) e).0))
        step e (inr p) = inr ((residual_below Q F w y (sound_back P sound) e).1, (p.1.0, p.1.1, on p.1.2 e))

        go : Kind P ls r.x r.ss a → Over a w y → (w ≡ P.junctions) ⊎ ((w < P.junctions) × From (Residual Q F) (waits Q F) w) → Reach ls P.junctions y → (y ≡ P.junctions) ⊎ ((y < P.junctions) × From (Residual Q F) (waits Q F) y)
        go (own k o) (ahead p q l) i _ = step (more (suc k) (omega (arith, o.inside)) (sym (same_from o.is) ∙ p) (sym (same_to o.is) ∙ q) (omega (arith, o.flow, ap high_of o.is))) i
        go (own k o) (behind p q l) i _ = step (less (suc k) (omega (arith, o.inside)) (sym (same_to o.is) ∙ p) (sym (same_from o.is) ∙ q) (omega (arith, o.flow, ap low_of o.is))) i
        go (back b x) (ahead p q l) i _ = step (more 0 (omega arith) (sym (same_from b) ∙ p) (sym (same_to b) ∙ q) (omega (arith, ap high_of b))) i
        go (back b x) (behind p q l) i _ = step (less 0 (omega arith) (sym (same_to b) ∙ p) (sym (same_from b) ∙ q) (omega (arith, ap low_of b))) i
        go (from_start u j s) (ahead p q l) i _ =
            let e : u ≡ y = sym (same_to s.is) ∙ q in
            inr (omega arith, (u, source_waits u a j s l, subst (λ z. Reaches (Residual Q F) u z) e here))
        go (from_start u j s) (behind p q l) i _ = inl (sym q ∙ same_from s.is)
        go (to_goal u j s) (ahead p q l) i z = absurd (apart (subst (Reach ls P.junctions) (sym q ∙ same_to s.is) z))
        go (to_goal u j s) (behind p q l) i _ = elim i [
          | inl z ↦ absurd (omega (arith, same_to s.is))
          | inr z ↦ absurd (omega (arith, z.0, same_to s.is))
        ]

    stuck : (M : Junctions) → filled P.junctions ls ≡ false → Whole (Residual Q F) (waits Q F) P.junctions M → Stuck Q F M
    stuck M e whole =
        let s = some_waits e in
        let w = waits_is Q F s.0 s.1 in
        record {
          within = back_within P ls sound first r;
          some = elim (cases_lt 0 (waiting Q F)) [
            | inl z ↦ z
            | inr z ↦ absurd (omega (arith, over_nothing (excess Q F) P.junctions (omega arith) s.0 w.0, w.1))
          ];
          whole = whole;
          never = λ v j t l. apart (lack_reached v j l (from_reached v (whole.part.reached v t)));
        }

    -- a set that is what residuals reach from n
    whole_reached : (H : Junctions) → ReachedFirst P.junctions ls H → Whole (Residual Q F) (waits Q F) P.junctions H
    whole_reached H h = record {
      part = record {
        below = h.below;
        holds = λ v t. in_or (H v) (λ u. h.outside v (waits_is Q F v t).0 u (waiting_reached v t));
        reached = λ v t. elim (reached_from (h.inside v t)) [ inl z ↦ absurd (omega (arith, h.below v t)) | inr p ↦ p.1 ];
      };
      closed = λ v w t e. in_or (H w) (λ u. h.outside w (residual_below Q F v w (sound_back P sound) e).1 u (further v w e (h.inside v t)));
    }

-- ---- at the end
pub ended_flow : (P : Plant) (ms ls : List Arc) (rs : List Row) → FirstEnded P ms ls rs → FirstFlow P ls
ended_flow P ms ls rs e = record { balanced = (end_is_best (P.junctions + 2) P.junctions (P.junctions + 1) ms ls rs e.ended).0; lines = e.lines }

ended_apart : (P : Plant) (ms ls : List Arc) (rs : List Row) → FirstEnded P ms ls rs → Reach ls P.junctions (P.junctions + 1) → ⊥
ended_apart P ms ls rs e = goal_out_of_reach (P.junctions + 2) P.junctions (P.junctions + 1) ls rs e.ended.holds.standing

pub first_blocked : FirstBlocked
first_blocked P ms ls rs sound e u =
    let first = ended_flow P ms ls rs e in
    let apart = ended_apart P ms ls rs e in
    let r = reading P ls e.lines in
    let worst : (M : Junctions) → Whole (Residual (with_back P) (back_flow P ls r.x)) (waits (with_back P) (back_flow P ls r.x)) P.junctions M → WorstHurdle P M =
    λ M h. stuck_worst P (back_flow P ls r.x) M sound (stuck P ls sound first r apart M u h) in
    record {
      none = λ outward f b. let m = some_whole P ls sound first r in no_flow P m.0 f sound outward (worst m.0 m.1).hurdle b;
      worst = λ H h. worst H (whole_reached P ls sound first r apart H h);
    }

pub first_exactly : FirstExactly
first_exactly P ms ls rs sound outward e = (
  λ t. (flows_of (second_arcs P.lines ls), (first_feasible P ls sound (ended_flow P ms ls rs e)).feasible t),
  λ f. in_or (filled P.junctions ls) (λ u. (first_blocked P ms ls rs sound e u).none outward f.0 f.1),
)
