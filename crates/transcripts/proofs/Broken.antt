-- Transcripts that do not obey the law: most break a promise over calls and answers alone.
use Rattle.std.proofs.Common.{◌≡◌, ℕ, ◌+◌, ◌<◌, true, false, cond, List, [], ◌∷◌, pos, ◌≤ℤ◌, Some, None, Option, sym, refl, ap, ◌∙◌, subst, inl, inr, arith}
use Rattle.cuts.proofs.Examples.{blocked_worked}
use Rattle.cuts.specs.Examples.{ends_only}
use Rattle.law.proofs.Promised.{law_promises}
use Rattle.law.proofs.Read.{declines_exactly, tallies_on, work_on}
use Rattle.law.proofs.Steps.{accepted}
use Rattle.law.specs.declared.script.Answer.TheVariants as told
use Rattle.law.specs.declared.script.Call.TheVariants.{Cut, Flow, Start, Tallies, Total, Work}
use Rattle.law.specs.Law.{Follows, Run, Widens}
use Rattle.law.specs.Phases.{Counts, Phase, Question, counts_of, idle, limit, no_counts, question, tried, working}
use Rattle.law.specs.Refusal.{refusal}
use Rattle.law.specs.Scripts.{Script}
use Rattle.planner.specs.declared.answer.Outcome.TheVariants as outcome
use Rattle.planner.specs.declared.answer.Side.TheVariants.{Far, Near}
use Rattle.plant.specs.declared.aim.Aim.TheVariants.{Greatest}
use Rattle.plant.specs.declared.decline.Decline.{Decline}
use Rattle.plant.specs.declared.decline.Decline.TheVariants as bad
use Rattle.plant.specs.declared.line.Line.{Line}
use Rattle.plant.specs.Plants.{Best, FarCut, Feasible, Junctions, Plant, WorstHurdle, line, shortfall, total, with_limits}
use Rattle.reach.specs.Sets.{bit, member, size}
use Rattle.std.proofs.lemmas.Int.{ints}
use Rattle.std.proofs.lemmas.Bool.{cond-true}
use Rattle.transcripts.proofs.Obeyed.{on, start_passes}
use Rattle.transcripts.proofs.Small.{D, D_feasible, D_tight_2, H, also_2, three}
use Rattle.transcripts.specs.Breaking.{NotADeclineThatResets, NotAReadingWhileIdle, NotAStartThatDeclines, NotATotalThatStays, NotAWorkOfNone, NotAllImpossible, NotAnotherShortfall, NotForEver, NotOneCutTwice, NotTheLows, NotUntouched, TalliesMade, started}
use Rattle.transcripts.specs.Plants.{B_lines, D_lines, Lines, bytes, given}

abbrev over : List Line → Plant
over ls = record { junctions = 3; lines = ls }

-- ---- by the promises
two_in : (S : Junctions) → S 0 ≡ true → S 2 ≡ true → 1 ≡ size S 3 → ⊥
unfolding size
two_in S a b e =
    let x : ◌≡◌ {A = ℕ} (cond (S 0) 1 0) 1 = cond-true (S 0) 1 0 a in
    let y : ◌≡◌ {A = ℕ} (cond (S 2) 1 0) 1 = cond-true (S 2) 1 0 b in
    omega arith

pub not_one_cut_twice : NotOneCutTwice
not_one_cut_twice m v e law =
    let x = (law_promises _ law).cut (started v ((Work 60000, told.Worked outcome.Flow m) ∷ (Cut Near 32, told.Cut (bytes 1) 1 (pos 3)) ∷ [])) [] (question (given 3 v 1)) Far 32 (bytes 1) 1 (pos 3) refl refl in
    let far : FarCut Greatest D.plant x.0 = subst (λ (ls : List Line). FarCut Greatest (over ls) x.0) e x.1 in
    two_in x.0 far.tightest.cut.header (far.largest also_2 D_tight_2 2 refl) x.3

pub not_the_lows : NotTheLows
not_the_lows m v e law =
    let x = (law_promises _ law).totals (started v ((Work 60000, told.Worked outcome.Flow m) ∷ [])) ((Flow 0, told.Flow 0) ∷ (Flow 1, told.Flow 0) ∷ []) (question (given 3 v 1)) (pos 0) refl refl in
    let best : Best Greatest D.plant x.0 = subst (λ (ls : List Line). Best Greatest (over ls) x.0) e x.1 in
    let is : pos 0 ≡ total D.plant x.0 = subst (λ (ls : List Line). pos 0 ≡ total (over ls) x.0) e x.2 in
    let most : pos 3 ≤ℤ total D.plant x.0 = best.best three D_feasible in
    omega (arith, ints)

pub not_all_impossible : NotAllImpossible
not_all_impossible m v e law =
    let x = ((law_promises _ law).work (started v []) [] (question (given 3 v 1)) 60000 outcome.Impossible m refl refl).0 in
    x three (subst (λ (ls : List Line). Feasible (over ls) three) (sym e) D_feasible)

pub not_for_ever : NotForEver
not_for_ever m v e law =
    let x = (law_promises _ law).limit (started v ((Work 400, told.Worked outcome.InWork 400) ∷ [])) [] (question (given 3 v 1)) 108 m refl refl in
    let y : 508 < limit D.plant = subst (λ (ls : List Line). 508 < limit (over ls)) e x in
    omega arith

pub not_untouched : NotUntouched
not_untouched v e law = let x : ◌≡◌ {A = ℕ} 0 5 = ((law_promises _ law).work (started v []) [] (question (given 3 v 1)) 5 outcome.InWork 0 refl refl).1 in omega arith

pub not_another_shortfall : NotAnotherShortfall
not_another_shortfall v m d e law =
    let x = (law_promises _ law).hurdle (started v ((Work 60000, told.Worked outcome.Impossible m) ∷ [])) [] (question (given 3 v 1)) 32 (bytes 3) 2 d refl refl in
    let worst : WorstHurdle H.plant x.0 = subst (λ (ls : List Line). WorstHurdle (over ls) x.0) e x.1 in
    let is : d ≡ shortfall H.plant x.0 = subst (λ (ls : List Line). d ≡ shortfall (over ls) x.0) e x.4 in
    let known = blocked_worked in
    omega (arith, worst.largest ends_only known.2.hurdle, known.2.largest x.0 worst.hurdle, known.3)

-- plant B: the line leads from near to beyond far
wide_B : (v : Lines) → v.items ≡ B_lines → Widens (question (given 2 v 1)) 0 (tried (given 2 v 1) (record { line = 0; low = 4; high = 10 }))
wide_B v e = subst (λ (ls : List Line). Widens (on 2 Greatest ls) 0 (record { plant = with_limits (record { junctions = 2; lines = ls }) 0 4 10; aim = Greatest })) (sym e)
    (record { limit = 10; inside = omega arith; wider = omega arith; aim = refl; plant = refl })

line_is : (v : Lines) → v.items ≡ B_lines → line (record { junctions = 2; lines = B_lines }) 0 ≡ line (question (given 2 v 1)).plant 0
line_is v e = ap (λ (ls : List Line). line (record { junctions = 2; lines = ls }) 0) (sym e)

pub not_a_total_that_stays : NotATotalThatStays
unfolding member bit
not_a_total_that_stays v m e law =
    let piece : Script = (Work 60000, told.Worked outcome.Flow m) ∷ (Cut Far 32, told.Cut (bytes 1) 1 (pos 9)) ∷ (Total, told.Total (pos 9)) ∷ (Cut Near 32, told.Cut (bytes 1) 1 (pos 9)) ∷ [] in
    let later : Script = (Work 5, told.Declined bad.NothingInWork) ∷ (Total, told.Total (pos 9)) ∷ [] in
    let x = (law_promises _ law).widening_totals ((Start (given 2 v 1), told.Started) ∷ []) piece later [] (question (given 2 v 1)) 0 (pos 9) (pos 9) (bytes 1) (bytes 1) 1 1 (pos 9) (pos 9) 32 32 (given 2 v 1) (record { line = 0; low = 4; high = 10 }) outcome.Flow
    refl refl refl refl (inr (inr (inl refl))) (inr (inr (inr (inl refl)))) (inr (inl refl)) (wide_B v e) (inr (inl refl)) in
    x.0 refl (subst (λ (l : Line). member (bytes 1) l.from ≡ true) (line_is v e) refl, subst (λ (l : Line). member (bytes 1) l.to ≡ false) (line_is v e) refl)

-- ---- by single steps
refused : (p q : Phase) (n a : ℕ) (v : Lines) (d : Decline) → refusal p (Start (given n v a)) ≡ None → Follows p (Start (given n v a)) (told.Declined d) q → ⊥
refused p q n a v d t f = never d (sym t ∙ (declines_exactly p q (Start (given n v a)) (told.Declined d) d f).0.0 refl)
  where
    never : (d : Decline) → ◌≡◌ {A = Option Decline} None (Some d) → ⊥
    never d e = let z : ◌≡◌ {A = ℕ} 0 1 = cc in omega arith

pub not_a_start_that_declines : NotAStartThatDeclines
not_a_start_that_declines d v e (q, (p, f, r)) = refused idle p 3 1 v d (start_passes idle 3 1 v D_lines e refl) f

pub not_a_reading_while_idle : NotAReadingWhileIdle
not_a_reading_while_idle z (q, (p, (i, c), r)) = let z : ◌≡◌ {A = ℕ} 0 1 = cc in omega arith

-- plant D started: the rest of the run begins in work on it
after_start : (v : Lines) (h : Script) (q : Phase) → v.items ≡ D_lines → Run idle (started v h) q → Run (working D 0 no_counts) h q
after_start v h q e (m, f, r) =
    let s = accepted idle (Start (given 3 v 1)) told.Started m (start_passes idle 3 1 v D_lines e refl) f in
    subst (λ (z : Phase). Run z h q) (s.1 ∙ ap (λ (ls : List Line). working (on 3 Greatest ls) 0 no_counts) e) r

pub not_a_work_of_none : NotAWorkOfNone
not_a_work_of_none o m v e (q, r) = go (after_start v ((Work 0, told.Worked o m) ∷ []) q e r)
  where
    go : Run (working D 0 no_counts) ((Work 0, told.Worked o m) ∷ []) q → ⊥
    go (p, (i, c), r) = let z : ◌≡◌ {A = ℕ} 0 1 = cc in omega arith

pub not_a_decline_that_resets : NotADeclineThatResets
not_a_decline_that_resets w v e (q, r) = go (after_start v ((Start (given 1 w 1), told.Declined bad.JunctionCount) ∷ (Work 1, told.Declined bad.NothingInWork) ∷ []) q e r)
  where
    on_work : Run (working D 0 no_counts) ((Work 1, told.Declined bad.NothingInWork) ∷ []) q → ⊥
    on_work (p, (o, m, i, x), r) = let z : ◌≡◌ {A = ℕ} 0 1 = cc in omega arith

    go : Run (working D 0 no_counts) ((Start (given 1 w 1), told.Declined bad.JunctionCount) ∷ (Work 1, told.Declined bad.NothingInWork) ∷ []) q → ⊥
    go (p, (i, c), r) = on_work (subst (λ (z : Phase). Run z ((Work 1, told.Declined bad.NothingInWork) ∷ []) q) c r)

pub tallies_made : TalliesMade
tallies_made v o m one two e (q, r) = go (after_start v ((Work 60000, told.Worked o m) ∷ (Tallies, told.Tallies one two) ∷ []) q e r)
  where
    zero_before : (a : Question) (n : ℕ) (t : Counts) → working D 0 no_counts ≡ working a n t → t ≡ no_counts
    zero_before a n t e = cc

    go : Run (working D 0 no_counts) ((Work 60000, told.Worked o m) ∷ (Tallies, told.Tallies one two) ∷ []) q → one.discharges + two.discharges ≡ m
    go (p, f, (p', g, r)) =
        let w = work_on 60000 o m (working D 0 no_counts) p f in
        let t = zero_before w.0 w.1 w.2 w.3 in
        let made = subst (λ (t : Counts). (counts_of p).one.discharges + (counts_of p).two.discharges ≡ t.one.discharges + t.two.discharges + m) t w.5.made in
        let is = tallies_on one two p p' g in
        subst (λ (t : Counts). t.one.discharges + t.two.discharges ≡ m) is (omega arith)
