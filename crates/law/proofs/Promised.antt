-- The promises over calls and answers alone.
use Rattle.std.proofs.Common.{◌≡◌, ℕ, suc, ◌+◌, ◌<◌, ◌≤◌, true, false, ◌≢◌, List, [], ◌∷◌, ◌++◌, length, get_or, Some, None, Option, sym, refl, ap, ◌∙◌, subst, inl, inr, arith}
use Rattle.law.proofs.Kept.{AsksFor, Good, Known, run_known, run_made}
use Rattle.law.proofs.Read.{IsCut, IsHurdle, asked_kept, crossing_on, cut_on, declines_exactly, flow_on, flow_stays, hurdle_on, read_end, tallies_on, total_on, trial_on, work_on}
use Rattle.law.proofs.Settled.{Fit}
use Rattle.law.proofs.Steps.{run_split}
use Rattle.law.specs.declared.script.Answer.{Answer}
use Rattle.law.specs.declared.script.Answer.TheVariants as told
use Rattle.law.specs.declared.script.Call.{Call}
use Rattle.law.specs.declared.script.Call.TheVariants.{Crossing, Cut, Flow, Hurdle, Tallies, Total, Trial, Work}
use Rattle.law.specs.Law.{Follows, Law, OnFlow, OnHurdle, Run, Settles, Worked}
use Rattle.law.specs.Phases.{Counts, Impossible, Limited, Phase, Plan, Question, Solved, blocked, counts_of, cut_of, flowing, idle, no_counts, tried, working}
use Rattle.law.specs.Promises as promise
use Rattle.law.specs.Promises.{CutOn, LawPromises, Makes, TrueOf}
use Rattle.law.specs.Scripts.{Script, Told, asked, kept, outcome_of, question_of, stands, works}
use Rattle.planner.specs.declared.answer.Outcome.{Outcome}
use Rattle.planner.specs.declared.answer.Outcome.TheVariants as outcome
use Rattle.planner.specs.declared.answer.Side.{Side}
use Rattle.planner.specs.declared.answer.Side.TheVariants.{Far, Near}
use Rattle.plant.specs.Plants as plants
use Rattle.plant.specs.Plants.{Best, Junctions, at, line, total}
use Rattle.reach.proofs.Bytes.{member_set}
use Rattle.reach.specs.Sets.{member, set_bytes}
use Rattle.std.proofs.lemmas.Bool.{cases_Bool}

-- ---- equal phases
same_question : (a b : Question) → ◌≡◌ {A = Option Question} (Some a) (Some b) → a ≡ b
same_question a b e = cc

same_flowing : (a b : Question) (s r : Plan) (t u : Counts) → flowing a s t ≡ flowing b r u → (a ≡ b) × (s ≡ r)
same_flowing a b s r t u e = (cc, cc)

-- ---- where a run stands before a call, or at the end of a piece
abbrev At : Phase → Script → Type 0
At p before = Known p (asked None before) (stands None before) (works 0 before)

reach : (before rest h : Script) (q : Phase) → h ≡ before ++ rest → Run idle h q → (p : Phase) × At p before × Run p rest q
reach before rest h q e run =
    let c = run_split before rest idle q (subst (λ (x : Script). Run idle x q) e run) in
    (c.0, run_known before idle c.0 0 tt tt c.1, c.2)

declines : (h : Script) → Law idle h → promise.DeclineLaw h
declines h (q, run) before after c r e =
    let x = reach before ((c, r) ∷ after) h q e run in
    let next = x.2 in
    (x.0, (x.1.question, x.1.outcome), λ d. (declines_exactly x.0 next.0 c r d next.1).0)

-- the phase at the end of a piece that keeps the question a
pub record Ends (a : Question) (piece rest : Script) (q : Phase) : Type 0 where
  pub first : Phase
  pub end : Phase
  pub good : Good end
  pub question : question_of end ≡ Some a
  pub within : Run first piece end
  pub goes_on : Run end rest q

piece_end : (before piece rest h : Script) (a : Question) (q : Phase) → h ≡ before ++ (piece ++ rest) → asked None before ≡ Some a → kept piece ≡ true → Run idle h q → Ends a piece rest q
piece_end before piece rest h a q e ask keep run =
    let c = reach before (piece ++ rest) h q e run in
    let p = c.0 in
    let k = c.1 in
    let d = run_split piece rest p q c.2 in
    let m = run_known piece p d.0 (works 0 before) k.good k.asks_for d.1 in
    record { first = p; end = d.0; good = m.good; question = m.question ∙ asked_kept piece (question_of p) keep ∙ k.question ∙ ask; within = d.1; goes_on = d.2 }

-- what readings in the piece say of the one plan settled
read_there : (a : Question) (piece rest : Script) (q : Phase) (x : Ends a piece rest q) (c : Call) (r : Answer) (F : Question → Plan → Type 0) → ((p q : Phase) → Follows p c r q → OnFlow p q F)
    → kept piece ≡ true → Told piece c r → (s : Plan) × (u : Counts) × (x.end ≡ flowing a s u) × F a s
read_there a piece rest q x c r F on keep say =
    let y = read_end c r F on piece x.first x.end keep say x.within in
    let e : y.0 ≡ a = same_question y.0 a (sym (ap question_of y.3) ∙ x.question) in
    (y.1, y.2, y.3 ∙ ap (λ (b : Question). flowing b y.1 y.2) e, subst (λ (b : Question). F b y.1) e y.4)

-- the same of a plan that is known
read_of : (a : Question) (piece rest : Script) (q : Phase) (x : Ends a piece rest q) (s : Plan) (u : Counts) → x.end ≡ flowing a s u
    → (c : Call) (r : Answer) (F : Question → Plan → Type 0) → ((p q : Phase) → Follows p c r q → OnFlow p q F) → kept piece ≡ true → Told piece c r → F a s
read_of a piece rest q x s u is c r F on keep say =
    let y = read_there a piece rest q x c r F on keep say in
    let e = same_flowing a a y.0 s y.1 u (sym y.2 ∙ is) in
    subst (F a) e.1 y.3

flowing_good : (a : Question) (s : Plan) (u : Counts) (p : Phase) → Good p → p ≡ flowing a s u → Fit a × Limited a.plant u × Solved a s
flowing_good a s u p g e = subst Good e g

-- ---- the flow read line by line
same_lists : (xs ys : List ℕ) → length xs ≡ length ys → ((k : ℕ) → k < length ys → get_or xs k 0 ≡ get_or ys k 0) → xs ≡ ys
same_lists [] [] e h = refl
same_lists [] (y ∷ ys) e h = absurd (omega arith)
same_lists (x ∷ xs) [] e h = absurd (omega arith)
same_lists (x ∷ xs) (y ∷ ys) e h = let first : x ≡ y = h 0 (omega arith) in let rest = same_lists xs ys (omega arith) (λ k j. h (suc k) (omega arith)) in cc

flow : (h : Script) → Law idle h → promise.FlowLaw h
flow h (q, run) before piece after a t f e ask keep read-total long each =
    let x = piece_end before piece after h a q e ask keep run in
    let y = read_there a piece after q x Total (told.Total t) (λ a s. t ≡ total a.plant s.flow) (total_on t) keep read-total in
    let s = y.0 in
    let good = flowing_good a s y.1 x.end x.good y.2 in
    let long' : length s.flow ≡ length a.plant.lines = good.2.best.feasible.within.each in
    let same : f ≡ s.flow
    = same_lists f s.flow (long ∙ sym long')
    (λ k j. read_of a piece after q x s y.1 y.2 (Flow k) (told.Flow (at f k)) (λ a s. at f k ≡ at s.flow k) (flow_on k (at f k)) keep (each k (omega (arith, long')))) in
    (subst (Best a.aim a.plant) (sym same) good.2.best, ap (total a.plant) same ∙ sym y.3)

-- ---- widening
flowing_outcome : (p : Phase) (a : Question) → question_of p ≡ Some a → outcome_of p ≡ Some outcome.Flow → (s : Plan) × (u : Counts) × (p ≡ flowing a s u)
flowing_outcome idle a e o = let z : ◌≡◌ {A = ℕ} 0 1 = cc in absurd (omega arith)
flowing_outcome (working b n t) a e o = let z : ◌≡◌ {A = ℕ} 0 1 = cc in absurd (omega arith)
flowing_outcome (flowing b s t) a e o = (s, t, ap (λ (c : Question). flowing c s t) (same_question b a e))
flowing_outcome (blocked b H t) a e o = let z : ◌≡◌ {A = ℕ} 0 1 = cc in absurd (omega arith)

settles_flow : (b : Question) (o : Outcome) (r : Plan) (u : Counts) (q : Phase) → Settles b o q → q ≡ flowing b r u → o ≡ outcome.Flow
settles_flow b outcome.InWork r u q s e = absurd s
settles_flow b outcome.Flow r u q s e = refl
settles_flow b outcome.Impossible r u q (H, t, is, x, l, y) e = let z : ◌≡◌ {A = ℕ} 0 1 = cc in absurd (omega arith)

widening_flows : (h : Script) → Law idle h → promise.WideningFlows h
widening_flows h (q, run) before after a k g lim o e ask stand w =
    let c = reach before ((Trial g lim, told.Tried o) ∷ after) h q e run in
    let is = flowing_outcome c.0 a (c.1.question ∙ ask) (c.1.outcome ∙ stand) in
    let r = c.2 in
    let x = trial_on g lim o c.0 r.0 r.1 in
    let y = x.1 a is.0 is.1 k is.2 w in
    settles_flow (tried g lim) o y.0 y.1 r.0 x.0 y.2

-- the bytes of a cut have its members
cut_members : (n : ℕ) (S : Junctions) → n ≤ 250 → ((v : ℕ) → S v ≡ true → v < n) → (bytes : List ℕ) → bytes ≡ set_bytes S → (v : ℕ) → member bytes v ≡ S v
cut_members n S few inside bytes e v = ap (λ (xs : List ℕ). member xs v) e ∙ member_set S (λ w j. out w j) v
  where
    out : (w : ℕ) → 256 ≤ w → S w ≡ false
    out w j = elim (cases_Bool (S w)) [ inl t ↦ absurd (omega (arith, inside w t)) | inr f ↦ f ]

widening_totals : (h : Script) → Law idle h → promise.WideningTotals h
widening_totals h (q, run) before piece later after a k t t' near far m n b c rn rf g lim o e ask keep keep' read-t read-near read-far w read-t' =
    let rest = (Trial g lim, told.Tried o) ∷ (later ++ after) in
    let x = piece_end before piece rest h a q e ask keep run in
    let y = read_there a piece rest q x Total (told.Total t) (λ a s. t ≡ total a.plant s.flow) (total_on t) keep read-t in
    let s = y.0 in
    let u = y.1 in
    let at-near = read_of a piece rest q x s u y.2 (Cut Near rn) (told.Cut near m b) (IsCut Near near m b) (cut_on Near rn near m b) keep read-near in
    let at-far = read_of a piece rest q x s u y.2 (Cut Far rf) (told.Cut far n c) (IsCut Far far n c) (cut_on Far rf far n c) keep read-far in
    let good = flowing_good a s u x.end x.good y.2 in
    let few = good.0.few in
    let solved = good.2 in
    let near-is = cut_members a.plant.junctions s.near few solved.near.tightest.cut.inside near at-near.0 in
    let far-is = cut_members a.plant.junctions s.far few solved.far.tightest.cut.inside far at-far.0 in
    let r = x.goes_on in
    let tr = trial_on g lim o x.end r.0 r.1 in
    let wide = tr.1 a s u k y.2 w in
    let d = run_split later after r.0 q r.2 in
    let ends = flow_stays later (tried g lim) wide.0 wide.1 r.0 d.0 wide.2 keep' d.1 in
    let z = read_end Total (told.Total t') (λ a s. t' ≡ total a.plant s.flow) (total_on t') later r.0 d.0 keep' read-t' d.1 in
    let same = same_flowing z.0 (tried g lim) z.1 wide.0 z.2 wide.1 (sym z.3 ∙ ends) in
    let new : t' ≡ total (tried g lim).plant wide.0.flow = z.4 ∙ ap (λ (b : Question). total b.plant z.1.flow) same.0 ∙ ap (λ (p : Plan). total (tried g lim).plant p.flow) same.1 in
    let old : t ≡ total a.plant s.flow = y.3 in
    let l = line a.plant k in (
      λ eq leads. wide.3.0 (sym new ∙ eq ∙ old) (sym (near-is l.from) ∙ leads.0, sym (far-is l.to) ∙ leads.1),
      λ none. new ∙ wide.3.1 (λ leads. none (near-is l.from ∙ leads.0, far-is l.to ∙ leads.1)) ∙ sym old,
    )

-- ---- one reading
on_flow_known : (p q : Phase) (a : Question) (F : Question → Plan → Type 0) → Good p → question_of p ≡ Some a → OnFlow p q F → (s : Plan) × Solved a s × F a s
on_flow_known p q a F g i (j, b, s, t, is, f) =
    let e : b ≡ a = same_question b a (sym (ap question_of is) ∙ i) in
    let good = flowing_good b s t p g is in
    (s, subst (λ (c : Question). Solved c s) e good.2, subst (λ (c : Question). F c s) e f)

-- a reading that is told next, of the question a
read_now : (before after h : Script) (a : Question) (q : Phase) (c : Call) (r : Answer) (F : Question → Plan → Type 0) → ((p q : Phase) → Follows p c r q → OnFlow p q F)
    → h ≡ before ++ (c, r) ∷ after → asked None before ≡ Some a → Run idle h q → (s : Plan) × Solved a s × F a s
read_now before after h a q c r F on e ask run =
    let x = reach before ((c, r) ∷ after) h q e run in
    let next = x.2 in
    on_flow_known x.0 next.0 a F x.1.good (x.1.question ∙ ask) (on x.0 next.0 next.1)

totals : (h : Script) → Law idle h → promise.TotalLaw h
totals h (q, run) before after a t e ask =
    let x = read_now before after h a q Total (told.Total t) (λ a s. t ≡ total a.plant s.flow) (total_on t) e ask run in
    (x.0.flow, x.1.best, x.2)

side_cut : (side : Side) (a : Question) (s : Plan) → Solved a s → CutOn side a (cut_of side s)
side_cut Near a s x = x.near
side_cut Far a s x = x.far

cut : (h : Script) → Law idle h → promise.CutLaw h
cut h (q, run) before after a side room set n b e ask =
    let x = read_now before after h a q (Cut side room) (told.Cut set n b) (IsCut side set n b) (cut_on side room set n b) e ask run in
    (cut_of side x.0, side_cut side a x.0 x.1, x.2.0, x.2.1, x.2.2)

crossings : (h : Script) → Law idle h → promise.CrossingLaw h
crossings h (q, run) before after a side room v e ask =
    let x = read_now before after h a q (Crossing side room) (told.Crossing v) (λ a s. v.items ≡ plants.crossing (cut_of side s) 0 a.plant.lines) (crossing_on side room v) e ask run in
    (cut_of side x.0, side_cut side a x.0 x.1, x.2)

on_hurdle_known : (p q : Phase) (a : Question) (F : Question → Junctions → Type 0) → Good p → question_of p ≡ Some a → OnHurdle p q F → (H : Junctions) × Impossible a H × F a H
on_hurdle_known p q a F g i (j, b, H, t, is, f) =
    let e : b ≡ a = same_question b a (sym (ap question_of is) ∙ i) in
    let good : Fit b × Limited b.plant t × Impossible b H = subst Good is g in
    (H, subst (λ (c : Question). Impossible c H) e good.2, subst (λ (c : Question). F c H) e f)

hurdle : (h : Script) → Law idle h → promise.HurdleLaw h
hurdle h (q, run) before after a room set n d e ask =
    let x = reach before ((Hurdle room, told.Hurdle set n d) ∷ after) h q e run in
    let next = x.2 in
    let y = on_hurdle_known x.0 next.0 a (IsHurdle set n d) x.1.good (x.1.question ∙ ask) (hurdle_on room set n d x.0 next.0 next.1) in
    (y.0, y.1.worst, y.2.0, y.2.1, y.2.2)

-- ---- works and trials
settled_true : (a : Question) (o : Outcome) (q : Phase) → Settles a o q → TrueOf a o × (o ≢ outcome.InWork)
settled_true a outcome.InWork q s = absurd s
settled_true a outcome.Flow q (s, t, e, solved, l) = ((s.flow, solved.best.feasible), λ i. let z : ◌≡◌ {A = ℕ} 0 1 = cc in omega arith)
settled_true a outcome.Impossible q (H, t, e, none, l, z) = (none.none, λ i. let z : ◌≡◌ {A = ℕ} 0 1 = cc in omega arith)

worked_true : (a : Question) (n k : ℕ) (o : Outcome) (m : ℕ) (q : Phase) → Worked a n k o m q → TrueOf a o × Makes o k m
worked_true a n k outcome.InWork m q (t, e, i, l, b, z) = (tt, i)
worked_true a n k outcome.Flow m q (s, i) = ((settled_true a outcome.Flow q s).0, i)
worked_true a n k outcome.Impossible m q (s, i) = ((settled_true a outcome.Impossible q s).0, i)

-- a work that is told next, on the question a
worked_now : (before after h : Script) (a : Question) (k : ℕ) (o : Outcome) (m : ℕ) (q : Phase) → h ≡ before ++ (Work k, told.Worked o m) ∷ after → asked None before ≡ Some a → Run idle h q → (p : Phase) × Worked a (works 0 before) k o m p
worked_now before after h a k o m q e ask run =
    let x = reach before ((Work k, told.Worked o m) ∷ after) h q e run in
    let next = x.2 in
    let w = work_on k o m x.0 next.0 next.1 in
    let is-a : w.0 ≡ a = same_question w.0 a (sym (ap question_of w.3) ∙ x.1.question ∙ ask) in
    let is-n : w.1 ≡ works 0 before = subst (λ (p : Phase). AsksFor p (works 0 before)) w.3 x.1.asks_for in
    (next.0, subst (λ (b : Question). Worked b (works 0 before) k o m next.0) is-a (subst (λ (n : ℕ). Worked w.0 n k o m next.0) is-n w.4))

work : (h : Script) → Law idle h → promise.WorkLaw h
work h (q, run) before after a k o m e ask = let x = worked_now before after h a k o m q e ask run in worked_true a (works 0 before) k o m x.0 x.1

trial : (h : Script) → Law idle h → promise.TrialLaw h
trial h (q, run) before after g lim o e =
    let x = reach before ((Trial g lim, told.Tried o) ∷ after) h q e run in
    let next = x.2 in
    settled_true (tried g lim) o next.0 (trial_on g lim o x.0 next.0 next.1).0

limits : (h : Script) → Law idle h → promise.LimitLaw h
limits h (q, run) before after a k m e ask = let x = worked_now before after h a k outcome.InWork m q e ask run in x.1.4

-- ---- tallies
limited_of : (p : Phase) (a : Question) → Good p → question_of p ≡ Some a → Limited a.plant (counts_of p)
limited_of idle a g e = let z : ◌≡◌ {A = ℕ} 0 1 = cc in absurd (omega arith)
limited_of (working b n t) a g e = subst (λ (c : Question). Limited c.plant t) (same_question b a e) g.1
limited_of (flowing b s t) a g e = subst (λ (c : Question). Limited c.plant t) (same_question b a e) g.1
limited_of (blocked b H t) a g e = subst (λ (c : Question). Limited c.plant t) (same_question b a e) g.1

none_of : (p : Phase) → question_of p ≡ None → counts_of p ≡ no_counts
none_of idle e = refl
none_of (working b n t) e = let z : ◌≡◌ {A = ℕ} 0 1 = cc in absurd (omega arith)
none_of (flowing b s t) e = let z : ◌≡◌ {A = ℕ} 0 1 = cc in absurd (omega arith)
none_of (blocked b H t) e = let z : ◌≡◌ {A = ℕ} 0 1 = cc in absurd (omega arith)

tally : (h : Script) → Law idle h → promise.TallyLaw h
tally h (q, run) before after one two e =
    let rest = (Tallies, told.Tallies one two) ∷ after in
    let c = run_split before rest idle q (subst (λ (x : Script). Run idle x q) e run) in
    let p = c.0 in
    let known = run_known before idle p 0 tt tt c.1 in
    let sums = run_made before idle p None (λ m i. absurd (none_some m i)) c.1 in
    let next = c.2 in
    let is = tallies_on one two p next.0 next.1 in (
      λ a ask. subst (Limited a.plant) is (limited_of p a known.good (known.question ∙ ask)),
      λ ask. sym is ∙ none_of p (known.question ∙ ask),
      λ m i. subst (λ (t : Counts). t.one.discharges + t.two.discharges ≡ m) is (sums m i),
    )
  where
    none_some : (m : ℕ) → ◌≡◌ {A = Option ℕ} None (Some m) → ⊥
    none_some m i = let z : ◌≡◌ {A = ℕ} 0 1 = cc in omega arith

pub law_promises : LawPromises
law_promises h l = record {
  declines = declines h l;
  widening_flows = widening_flows h l;
  widening_totals = widening_totals h l;
  flow = flow h l;
  totals = totals h l;
  cut = cut h l;
  crossing = crossings h l;
  hurdle = hurdle h l;
  work = work h l;
  trial = trial h l;
  limit = limits h l;
  tally = tally h l;
}
