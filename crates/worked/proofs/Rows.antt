-- A row that passes the test is right.
use Rattle.std.proofs.Common.{slice_get, ◌≡◌, ℕ, zero, suc, Bool, true, false, not, ◌&&◌, T, eqb, ltb, leb, List, [], ◌∷◌, map, length, ℤ, ◌≤ℤ◌, Some, None, Option, sym, refl, ap, ◌∙◌, subst, inl, inr, arith}
use lib.Signed.{le_z, le_z_yes, ≤ℤ_refl}
use Rattle.std.proofs.lemmas.Int.{ints}
use Rattle.std.proofs.lemmas.Bool.{and_from, and_parts, both_ways, eq-eqb, eqb-true, leb-true, lt-ltb, ltb-true, not_from_false, not-true}
use Rattle.std.specs.List.{AllByRecursion}
use Rattle.plant.proofs.Tested.{Passed, passed}
use Rattle.plant.specs.declared.aim.Aim.{Aim}
use Rattle.plant.specs.declared.aim.Aim.TheVariants.{Greatest, Least}
use Rattle.plant.specs.declared.decline.Decline.{Decline}
use Rattle.plant.specs.Plants.{bound, Cut, FarCut, Feasible, Flow, high_of, Hurdle, Junctions, leads_in, leads_out, low_of, NearCut, NoBetter, Plant, shortfall, Sound, summed, Tightest, total, WorstHurdle}
use Rattle.plant.specs.Tests.{test_list, unless}
use Rattle.cuts.specs.Theorems.{Outward}
use Rattle.cuts.proofs.Bests.{far_same, near_same, strong_duality}
use Rattle.cuts.proofs.Duality.{weak_duality}
use Rattle.cuts.proofs.Hurdles.{feasible_or, no_flow, worst_same}
use Rattle.cuts.proofs.Reach.{no_better_both}
use Rattle.worked.proofs.Sets.{Below, each_set_all, each_tells, implied, set_below, some_set_found, subset_all}
use Rattle.worked.specs.Table.{table}
use Rattle.std.specs.Option.{option_flatten}
use Rattle.worked.specs.Checks.{all_below, checks, ChecksTell, checks_far, checks_near, checks_sets, checks_total, checks_trial, checks_worst, cuts_at, each, each_set, implies, is_cut, is_hurdle, no_better, passes, same, some_set, subset}
use Rattle.worked.specs.Rows.{Answer, flows, HasTotal, impossible, Right, RightSets, RightTrial, Row, set_of, total_of, TotalAt, Trial, tried}

-- ---- single tests
le_from : (a b : ℤ) → le_z a b ≡ true → a ≤ℤ b
le_from a b e = le_z_yes (subst T (sym e) tt)

same_from : (a b : ℤ) → same a b ≡ true → a ≡ b
same_from a b e =
    let p = and_parts (le_z a b) (le_z b a) e in
    omega (arith, ints, le_from a b p.0, le_from b a p.1)

true_from : (b : Bool) → T b → b ≡ true
true_from true h = refl
true_from false h = absurd h

same_tested : (a b : ℤ) → a ≡ b → same a b ≡ true
same_tested a b e = let r = true_from (le_z a a) (≤ℤ_refl a).le in subst (λ (x : ℤ). same a x ≡ true) e (and_from (le_z a a) (le_z a a) r r)

better_from : (aim : Aim) (t b : ℤ) → no_better aim t b ≡ true → NoBetter aim t b
better_from Greatest t b e = le_from t b e
better_from Least t b e = le_from b t e

three : (a b c : Bool) → (a && b && c) ≡ true → (a ≡ true) × (b ≡ true) × (c ≡ true)
three a b c e = let p = and_parts (a && b) c e in let q = and_parts a b p.0 in (q.0, q.1, p.1)

four : (a b c d : Bool) → (a && b && c && d) ≡ true → (a ≡ true) × (b ≡ true) × (c ≡ true) × (d ≡ true)
four a b c d e = let p = and_parts (a && b && c) d e in let q = three a b c p.0 in (q.0, q.1, q.2, p.1)

-- ---- a plant that passes the tests of a list is sound, and no line ends at its header
none_from : (o : Option Decline) → ◌≡◌ {A = Bool} (elim o [ Some d ↦ false | None ↦ true ]) true → o ≡ None
none_from (Some d) e = absurd (both_ways false refl e)
none_from None e = refl

passed_list : (P : Plant) → passes P ≡ true → Passed P.junctions P.lines
passed_list P e =
    let o = none_from (test_list P.junctions P.lines None) e in
    passed P.junctions 1 P.lines Greatest (ap (λ (d : Option Decline). unless d Greatest) (sym o))

passed_sound : (P : Plant) → passes P ≡ true → Sound P
passed_sound P e =
    let p = passed_list P e in record {
      both = omega (arith, p.least);
      each = λ k j. let f = p.fine k j in record { from_in = f.0; to_in = f.1; apart = f.2; ordered = f.3 };
    }

passed_outward : (P : Plant) → passes P ≡ true → Outward P
passed_outward P e = (passed_list P e).outward

-- ---- cuts and hurdles, as tested and as defined
cut_from : (P : Plant) (S : Junctions) → Below P.junctions S → is_cut S ≡ true → Cut P S
cut_from P S i e = let p = and_parts (S 0) (not (S 1)) e in record { inside = i; header = p.0; tank = not-true (S 1) p.1 }

cut_tested : (P : Plant) (S : Junctions) → Cut P S → is_cut S ≡ true
cut_tested P S c = and_from (S 0) (not (S 1)) c.header (not_from_false (S 1) c.tank)

cut_at_from : (aim : Aim) (P : Plant) (t : ℤ) (S : Junctions) → Below P.junctions S → cuts_at aim P t S ≡ true → Cut P S × (bound aim P S ≡ t)
cut_at_from aim P t S i e = let p = and_parts (is_cut S) (same (bound aim P S) t) e in (cut_from P S i p.0, same_from (bound aim P S) t p.1)

implies_from : (a b : Bool) → (a ≡ true → b ≡ true) → implies a b ≡ true
implies_from true b h = h refl
implies_from false b h = refl

hurdle_from : (P : Plant) (S : Junctions) → Below P.junctions S → is_hurdle P S ≡ true → Hurdle P S
hurdle_from P S i e =
    let out = summed (leads_out S) high_of P.lines in
    let into = summed (leads_in S) low_of P.lines in
    let p = and_parts (implies (S 1) (S 0)) (ltb out into) e in
    record { inside = i; tank = implied (S 1) (S 0) p.0; short = ltb-true out into p.1 }

hurdle_tested : (P : Plant) (S : Junctions) → Hurdle P S → is_hurdle P S ≡ true
hurdle_tested P S h =
    let out = summed (leads_out S) high_of P.lines in
    let into = summed (leads_in S) low_of P.lines in
    and_from (implies (S 1) (S 0)) (ltb out into) (implies_from (S 1) (S 0) h.tank) (lt-ltb out into h.short)

-- ---- the total
module _ (aim : Aim) (P : Plant) where
  -- no cut's bound is better than t
  abbrev LeastOf : ℤ → Type 0
  LeastOf t = (S : Junctions) → Cut P S → NoBetter aim t (bound aim P S)

  bounds_from : (t : ℤ) → each_set P.junctions (λ S. implies (is_cut S) (no_better aim t (bound aim P S))) ≡ true → LeastOf t
  bounds_from t e S c =
      let i = each_set_all P.junctions (λ S. implies (is_cut S) (no_better aim t (bound aim P S))) e S c.inside in
      better_from aim t (bound aim P S) (implied (is_cut S) (no_better aim t (bound aim P S)) i (cut_tested P S c))

  unhindered : Sound P → each_set P.junctions (λ S. not (is_hurdle P S)) ≡ true → (f : Flow) × Feasible P f
  unhindered sound e = elim (feasible_or P sound) [
    | inl f ↦ (f.0, f.1)
    | inr s ↦
        let h = s.1.hurdle in
        absurd (both_ways (is_hurdle P s.0) (not-true (is_hurdle P s.0) (each_set_all P.junctions (λ S. not (is_hurdle P S)) e s.0 h.inside)) (hurdle_tested P s.0 h))
  ]

  total_told : (t : Option ℤ) → passes P ≡ true → checks_total aim P t ≡ true → HasTotal aim P t
  total_told (Some t) ok e =
      let n = P.junctions in
      let p = three (each_set n (λ S. not (is_hurdle P S))) (each_set n (λ S. implies (is_cut S) (no_better aim t (bound aim P S)))) (some_set n (cuts_at aim P t)) e in
      let sound = passed_sound P ok in
      let f = unhindered sound p.0 in
      let g = strong_duality aim P f.0 sound f.1 in
      let s = some_set_found n (cuts_at aim P t) p.2 in
      let c = cut_at_from aim P t s.0 s.1 s.2 in
      let m = g.2 in
      let over : NoBetter aim (total P g.0) t = subst (NoBetter aim (total P g.0)) c.1 (weak_duality aim P g.0 s.0 sound g.1.feasible c.0) in
      let under : NoBetter aim t (total P g.0) = subst (NoBetter aim t) (sym m.2) (bounds_from t p.1 m.0 m.1) in
      (g.0, g.1, no_better_both aim (total P g.0) t over under)
  total_told None ok e =
      let s = some_set_found P.junctions (is_hurdle P) e in
      λ f feasible. no_flow P s.0 f (passed_sound P ok) (passed_outward P ok) (hurdle_from P s.0 s.1 s.2) feasible

  -- ---- the cuts
  module _ (t : ℤ) (least : LeastOf t) where
    tightest_from : (S : Junctions) → Below P.junctions S → cuts_at aim P t S ≡ true → Tightest aim P S
    tightest_from S i e =
        let c = cut_at_from aim P t S i e in
        record { cut = c.0; tight = λ R r. subst (λ (b : ℤ). NoBetter aim b (bound aim P R)) (sym c.1) (least R r) }

    -- every tightest cut has the bound of this one
    tightest_tested : (S R : Junctions) → Below P.junctions S → cuts_at aim P t S ≡ true → Tightest aim P R → cuts_at aim P t R ≡ true
    tightest_tested S R i e r =
        let c = cut_at_from aim P t S i e in
        let at_most = subst (NoBetter aim (bound aim P R)) c.1 (r.tight S c.0) in
        and_from (is_cut R) (same (bound aim P R) t) (cut_tested P R r.cut) (same_tested (bound aim P R) t (no_better_both aim (bound aim P R) t at_most (least R r.cut)))

    near_told : (N : Junctions) → Below P.junctions N → checks_near aim P t N ≡ true → NearCut aim P N
    near_told N i e =
        let q : Junctions → Bool = λ R. implies (cuts_at aim P t R) (subset P.junctions N R) in
        let p = and_parts (cuts_at aim P t N) (each_set P.junctions q) e in record {
          tightest = tightest_from N i p.0;
          smallest = λ R r. subset_all P.junctions N R i (implied (cuts_at aim P t R) (subset P.junctions N R) (each_set_all P.junctions q p.1 R r.cut.inside) (tightest_tested N R i p.0 r));
        }

    far_told : (F : Junctions) → Below P.junctions F → checks_far aim P t F ≡ true → FarCut aim P F
    far_told F i e =
        let q : Junctions → Bool = λ R. implies (cuts_at aim P t R) (subset P.junctions R F) in
        let p = and_parts (cuts_at aim P t F) (each_set P.junctions q) e in record {
          tightest = tightest_from F i p.0;
          largest = λ R r. subset_all P.junctions R F r.cut.inside (implied (cuts_at aim P t R) (subset P.junctions R F) (each_set_all P.junctions q p.1 R r.cut.inside) (tightest_tested F R i p.0 r));
        }

-- ---- the hurdle
worst_told : (P : Plant) (s : ℕ) (S : Junctions) → Below P.junctions S → checks_worst P s S ≡ true → WorstHurdle P S × (shortfall P S ≡ s)
worst_told P s S i e =
    let n = P.junctions in
    let least : Junctions → Bool = λ R. implies (eqb (shortfall P R) s) (subset n S R) in
    let q : Junctions → Bool = λ R. implies (is_hurdle P R) (leb (shortfall P R) s && least R) in
    let p = three (is_hurdle P S) (eqb (shortfall P S) s) (each_set n q) e in
    let short = eqb-true (shortfall P S) s p.1 in
    let at-hurdle : (R : Junctions) → Hurdle P R → (leb (shortfall P R) s ≡ true) × (least R ≡ true) =
    λ R h. and_parts (leb (shortfall P R) s) (least R) (implied (is_hurdle P R) (leb (shortfall P R) s && least R) (each_set_all n q p.2 R h.inside) (hurdle_tested P R h)) in (
      record {
        hurdle = hurdle_from P S i p.0;
        largest = λ R h. omega (arith, short, leb-true (shortfall P R) s (at-hurdle R h).0);
        smallest = λ R h d. subset_all n S R i (implied (eqb (shortfall P R) s) (subset n S R) (at-hurdle R h).1 (eq-eqb (shortfall P R) s (d ∙ short)));
      },
      short,
    )

-- ---- the row
sets_told : (aim : Aim) (P : Plant) (a : Answer) → checks_total aim P (total_of a) ≡ true → checks_sets aim P a ≡ true → RightSets aim P a
sets_told aim P (flows t near far) e h =
    let n = P.junctions in
    let p = three (each_set n (λ S. not (is_hurdle P S))) (each_set n (λ S. implies (is_cut S) (no_better aim t (bound aim P S)))) (some_set n (cuts_at aim P t)) e in
    let least = bounds_from aim P t p.1 in
    let q = four (all_below n near) (all_below n far) (checks_near aim P t (set_of near)) (checks_far aim P t (set_of far)) h in
    let a = near_told aim P t least (set_of near) (set_below n near q.0) q.2 in
    let b = far_told aim P t least (set_of far) (set_below n far q.1) q.3 in
    ((a, λ R r. near_same aim P R (set_of near) r a), (b, λ R r. far_same aim P R (set_of far) r b))
sets_told aim P (impossible hurdle short) e h =
    let p = and_parts (all_below P.junctions hurdle) (checks_worst P short (set_of hurdle)) h in
    let w = worst_told P short (set_of hurdle) (set_below P.junctions hurdle p.0) p.1 in
    ((w.0, λ R r. worst_same P R (set_of hurdle) r w.0), w.1)

trial_told : (aim : Aim) (P : Plant) (t : Trial) → checks_trial aim P t ≡ true → RightTrial aim P t
trial_told aim P t e =
    let p = three (ltb t.line (length P.lines)) (passes (tried P t)) (checks_total aim (tried P t) t.total) e in
    (ltb-true t.line (length P.lines) p.0, passed_sound (tried P t) p.1, total_told aim (tried P t) t.total p.1 p.2)

pub checks_tell : ChecksTell
checks_tell row e =
    let aim = row.aim in
    let P = row.plant in
    let p = four (passes P) (checks_total aim P (total_of row.answer)) (checks_sets aim P row.answer) (each (checks_trial aim P) row.trials) e in
    (passed_sound P p.0, total_told aim P (total_of row.answer) p.0 p.1, sets_told aim P row.answer p.1 p.2, each_tells (checks_trial aim P) (RightTrial aim P) (trial_told aim P) row.trials p.3)

-- ---- the table
pub table_right : AllByRecursion Right table
table_right = each_tells checks Right checks_tell table refl

-- the total of a row that is right
pub total_right : (rows : List Row) → AllByRecursion Right rows → (k : ℕ) → TotalAt rows k (option_flatten (slice_get (map (λ (r : Row). total_of r.answer) rows) k))
total_right [] rights k = refl
total_right (row ∷ rows) rights zero = rights.0.1
total_right (row ∷ rows) rights (suc k) = total_right rows rights.1 k
