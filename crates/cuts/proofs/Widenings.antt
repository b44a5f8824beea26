-- What a wider limit changes.
use Rattle.std.proofs.Common.{◌≡◌, ℕ, zero, suc, ◌+◌, ◌<◌, ◌≤◌, Bool, false, cond, not, ◌≢◌, ◌↔◌, List, [], ◌∷◌, length, get_or, set, sym, refl, ap, ◌∙◌, subst, inl, inr, arith}
use Rattle.std.proofs.lemmas.Int.{ints}
use Rattle.std.proofs.lemmas.List.{length-set, get_or-set_same, get_or-set_other}
use Rattle.std.proofs.lemmas.Bool.{both_ways, cases_Bool, cases_eq, cond-false, and_left, and_right, and_from, not_from_true, not_from_false}
use Rattle.plant.specs.declared.line.Line.{Line}
use Rattle.plant.specs.declared.aim.Aim.{Aim}
use Rattle.plant.specs.declared.aim.Aim.TheVariants.{Greatest, Least}
use Rattle.plant.specs.Plants.{Plant, Flow, Junctions, Sound, SoundLine, Feasible, Best, Cut, Tightest, NearCut, FarCut, NoBetter, Leads, Wider, line, at, no_line, low_of, high_of, forward, backward, carried, summed, leaves, ends, bound, total, leads_out, leads_in, limited, with_limits}
use Rattle.cuts.specs.Theorems.{WideningKeeps, Widening}
use Rattle.cuts.proofs.Duality.{weak_duality, fills}
use Rattle.cuts.proofs.Search.{out_of}
use Rattle.cuts.proofs.Reach.{no_better_both, meets_tightest, reached_exists}
use Rattle.cuts.proofs.Bests.{best_meets, near_smallest}

-- ---- another line in the place of line k
summed_set : (p : Line → Bool) (g : Line → ℕ) (ls : List Line) (k : ℕ) (m : Line) → k < length ls → summed p g (set ls k m) + cond (p (get_or ls k no_line)) (g (get_or ls k no_line)) 0 ≡ summed p g ls + cond (p m) (g m) 0
summed_set p g [] k m j = absurd (omega arith)
summed_set p g (l ∷ ls) zero m j = omega arith
summed_set p g (l ∷ ls) (suc k) m j = omega (arith, summed_set p g ls k m (omega arith))

carried_set : (p : Line → Bool) (ls : List Line) (f : Flow) (k : ℕ) (m : Line) → k < length ls → p m ≡ p (get_or ls k no_line) → carried p (set ls k m) f ≡ carried p ls f
carried_set p [] f k m j e = refl
carried_set p (l ∷ ls) [] zero m j e = refl
carried_set p (l ∷ ls) [] (suc k) m j e = refl
carried_set p (l ∷ ls) (x ∷ f) zero m j e = rw e
carried_set p (l ∷ ls) (x ∷ f) (suc k) m j e = omega (arith, carried_set p ls f k m (omega arith) e)

each_set : (Q : ℕ → Line → Type 0) (ls : List Line) (k : ℕ) (m : Line) → k < length ls → Q k m → ((i : ℕ) → i < length ls → Q i (get_or ls i no_line)) → (i : ℕ) → i < length (set ls k m) → Q i (get_or (set ls k m) i no_line)
each_set Q ls k m j new old i h = elim (cases_eq i k) [
  | inl e ↦ rw (e, get_or-set_same ls k m no_line j) new
  | inr n ↦ rw (get_or-set_other ls k i m no_line n) (old i (omega (arith, length-set ls k m)))
]

-- ---- looser limits
-- m is l with looser limits: only the limit that a cut counts forward is another, beyond all that l allows
record Looser (aim : Aim) (l m : Line) : Type 0 where
  low : low_of m ≤ low_of l
  high : high_of l ≤ high_of m
  same : backward aim m ≡ backward aim l
  beyond : (x : ℕ) → low_of l ≤ x → x ≤ high_of l → x ≢ forward aim m

module _ (P : Plant) (k a b : ℕ) (j : k < length P.lines) (aim : Aim) (loose : Looser aim (line P k) (limited (line P k) a b)) where
  sound_loose : Sound P → Sound (with_limits P k a b)
  sound_loose sound =
      let s = sound.each k j in record {
        both = sound.both;
        each = each_set (λ i l. SoundLine P.junctions l) P.lines k (limited (line P k) a b) j (record { from_in = s.from_in; to_in = s.to_in; apart = s.apart; ordered = omega (arith, s.ordered, loose.low, loose.high) }) sound.each;
      }

  feasible_loose : (f : Flow) → Feasible P f → Feasible (with_limits P k a b) f
  feasible_loose f h =
      let m = limited (line P k) a b in
      let w = h.within in record {
        within = record {
          each = w.each ∙ sym (length-set P.lines k m);
          above = each_set (λ i l. low_of l ≤ at f i) P.lines k m j (omega (arith, w.above k j, loose.low)) w.above;
          below = each_set (λ i l. at f i ≤ high_of l) P.lines k m j (omega (arith, w.below k j, loose.high)) w.below;
        };
        kept = λ v i p q. carried_set (ends v) P.lines f k m j refl ∙ h.kept v i p q ∙ sym (carried_set (leaves v) P.lines f k m j refl);
      }

  total_loose : (f : Flow) → total (with_limits P k a b) f ≡ total P f
  total_loose f =
      let p = carried_set (leaves 0) P.lines f k (limited (line P k) a b) j refl in
      let q = carried_set (ends 0) P.lines f k (limited (line P k) a b) j refl in
      omega (arith, ints)

  -- the bound stays where the line does not lead out
  bound_loose : (S : Junctions) → leads_out S (line P k) ≡ false → bound aim (with_limits P k a b) S ≡ bound aim P S
  bound_loose S c =
      let m = limited (line P k) a b in
      let p = summed_set (leads_out S) (forward aim) P.lines k m j in
      let q = summed_set (leads_in S) (backward aim) P.lines k m j in
      let p' : cond (leads_out S (line P k)) (forward aim (line P k)) 0 ≡ zero = cond-false (leads_out S (line P k)) (forward aim (line P k)) 0 c in
      let p'' : cond (leads_out S (line P k)) (forward aim m) 0 ≡ zero = cond-false (leads_out S (line P k)) (forward aim m) 0 c in
      let q' : cond (leads_in S (line P k)) (backward aim m) 0 ≡ cond (leads_in S (line P k)) (backward aim (line P k)) 0 = ap (λ y. cond (leads_in S (line P k)) y 0) loose.same in
      omega (arith, ints)

  module _ (f f' : Flow) (N F : Junctions) (sound : Sound P) (best : Best aim P f) (near : NearCut aim P N) (far : FarCut aim P F) (best' : Best aim (with_limits P k a b) f') where
    stays_total : (R : Junctions) → Tightest aim P R → leads_out R (line P k) ≡ false → total (with_limits P k a b) f' ≡ total P f
    stays_total R tight c =
        let cut : Cut (with_limits P k a b) R = record { inside = tight.cut.inside; header = tight.cut.header; tank = tight.cut.tank } in
        no_better_both aim (total (with_limits P k a b) f') (total P f)
        (subst (NoBetter aim (total (with_limits P k a b) f')) (bound_loose R c ∙ sym (best_meets aim P f R sound best tight)) (weak_duality aim (with_limits P k a b) f' R (sound_loose sound) best'.feasible cut))
        (subst (λ t. NoBetter aim t (total (with_limits P k a b) f')) (total_loose f) (best'.best f (feasible_loose f best.feasible)))

    -- where the total stays, the new near cut was tightest before, and the line does not lead out of it
    crosses_not : total (with_limits P k a b) f' ≡ total P f → Leads N F (line P k) → ⊥
    crosses_not e leads =
        let Q = with_limits P k a b in
        let n = reached_exists aim Q f' (sound_loose sound) in
        let S = n.0 in
        let shown = near_smallest aim Q f' S (sound_loose sound) best' n.1 in
        let cut = shown.0.tightest.cut in
        let cut-P : Cut P S = record { inside = cut.inside; header = cut.header; tank = cut.tank } in
        let met : total Q f ≡ bound aim Q S = total_loose f ∙ sym e ∙ shown.1 in
        let full = fills aim Q f S (sound_loose sound) (feasible_loose f best.feasible) cut met in
        let w = best.feasible.within in
        let here = get_or-set_same P.lines k (limited (line P k) a b) no_line j in
        let out : leads_out S (line P k) ≡ false = out_of (leads_out S (line P k)) (λ t.
        loose.beyond (at f k) (w.above k j) (w.below k j)
        (full.out k (omega (arith, length-set P.lines k (limited (line P k) a b))) (ap (leads_out S) here ∙ t) ∙ ap (forward aim) here)) in
        let tight = meets_tightest aim P f S sound best.feasible cut-P (sym (total_loose f) ∙ met ∙ bound_loose S out) in
        let from = near.smallest S tight (line P k).from leads.0 in
        let to = out_of (S (line P k).to) (λ t. both_ways (F (line P k).to) leads.1 (far.largest S tight (line P k).to t)) in
        both_ways (leads_out S (line P k)) out (and_from (S (line P k).from) (not (S (line P k).to)) from (not_from_false (S (line P k).to) to))

    total_stays : total (with_limits P k a b) f' ≡ total P f ↔ (Leads N F (line P k) → ⊥)
    total_stays = (
      crosses_not,
      λ never. elim (cases_Bool (N (line P k).from)) [
        | inr out ↦ stays_total N near.tightest (and_left (N (line P k).from) (not (N (line P k).to)) out)
        | inl from ↦ elim (cases_Bool (F (line P k).to)) [
          | inl to ↦ stays_total F far.tightest (and_right (F (line P k).from) (not (F (line P k).to)) (not_from_true (F (line P k).to) to))
          | inr to ↦ absurd (never (from, to))
        ]
      ],
    )

greatest_looser : (l : Line) (x : ℕ) → Wider Greatest l x → Looser Greatest l (limited l (low_of l) x)
greatest_looser l x w = record { low = omega arith; high = omega arith; same = refl; beyond = λ y p q e. omega arith }

least_looser : (l : Line) (x : ℕ) → Wider Least l x → Looser Least l (limited l x (high_of l))
least_looser l x w = record { low = omega arith; high = omega arith; same = refl; beyond = λ y p q e. omega arith }

pub widening_keeps : WideningKeeps
widening_keeps Greatest P f k x j w = feasible_loose P k (low_of (line P k)) x j Greatest (greatest_looser (line P k) x w) f
widening_keeps Least P f k x j w = feasible_loose P k x (high_of (line P k)) j Least (least_looser (line P k) x w) f

pub widening : Widening
widening Greatest P f f' N F k x sound best near far j w = total_stays P k (low_of (line P k)) x j Greatest (greatest_looser (line P k) x w) f f' N F sound best near far
widening Least P f f' N F k x sound best near far j w = total_stays P k x (high_of (line P k)) j Least (least_looser (line P k) x w) f f' N F sound best near far
