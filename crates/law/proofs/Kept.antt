-- What holds of every phase that a run comes to, and how it agrees with what was told.
use Rattle.std.proofs.Common.{◌≡◌, ℕ, ◌+◌, cond, [], ◌∷◌, Some, None, Option, sym, refl, ap, ◌∙◌, subst, inl, inr, arith}
use Rattle.law.proofs.Settled.{Fit, fit_given, fit_tried, none_limited, settled_flow}
use Rattle.law.proofs.Steps.{accepts}
use Rattle.law.specs.declared.script.Answer.{Answer}
use Rattle.law.specs.declared.script.Answer.TheVariants as told
use Rattle.law.specs.declared.script.Call.{Call}
use Rattle.law.specs.declared.script.Call.TheVariants.{Crossing, Cut, Flow, Hurdle, Start, Tallies, Total, Trial, Work}
use Rattle.law.specs.Law.{Accepted, Decided, Follows, Run, Settles, Worked}
use Rattle.law.specs.Phases.{Begun, Counted, Counts, Impossible, Limited, Phase, Question, Solved, blocked, counts_of, flowing, idle, no_counts, question, tried, working}
use Rattle.law.specs.Promises.{WorksAnswered}
use Rattle.law.specs.Refusal.{refusal}
use Rattle.law.specs.Scripts.{Script, adds, asked, asking, asks, made, makes, outcome_of, question_of, stands, taken, tells, works}
use Rattle.planner.specs.declared.answer.Outcome.{Outcome}
use Rattle.planner.specs.declared.answer.Outcome.TheVariants as outcome
use Rattle.plant.specs.declared.decline.Decline.{Decline}
use Rattle.planner.specs.Tallies.{no_tally}
use Rattle.plant.specs.Plants as Plants
use Rattle.plant.specs.Plants.{Feasible}
use Rattle.cuts.proofs.Bests.{best_exists}
use Rattle.cuts.proofs.Hurdles.{feasible_or, no_flow}

-- the question fits, the tallies are within their limits, and what is settled is right
abbrev pub Good : Phase → Type 0
Good idle = Unit {0}
Good (working a n t) = Fit a × Limited a.plant t × Begun a.plant t
Good (flowing a s t) = Fit a × Limited a.plant t × Solved a s
Good (blocked a H t) = Fit a × Limited a.plant t × Impossible a H

-- in work, so much was asked for since the start
abbrev pub AsksFor : Phase → ℕ → Type 0
AsksFor idle n = Unit {0}
AsksFor (working a m t) n = m ≡ n
AsksFor (flowing a s t) n = Unit {0}
AsksFor (blocked a H t) n = Unit {0}

-- the tallies count what the works are told to have made
abbrev discharges : Counts → ℕ
discharges t = t.one.discharges + t.two.discharges

abbrev pub CountsMade : Counts → Option ℕ → Type 0
CountsMade t d = (m : ℕ) → d ≡ Some m → discharges t ≡ m

-- what is known of a phase
pub record Known (q : Phase) (a : Option Question) (o : Option Outcome) (n : ℕ) : Type 0 where
  pub good : Good q
  pub question : question_of q ≡ a
  pub outcome : outcome_of q ≡ o
  pub asks_for : AsksFor q n

-- what is known after one call
abbrev After : Phase → ℕ → Call → Answer → Phase → Type 0
After p n c r q = Known q (cond (asking (c, r)) (asks c) (question_of p)) (tells r (outcome_of p)) (cond (taken r) (adds c n) n)

settled_known : (a : Question) (o : Outcome) (q : Phase) (n : ℕ) → Fit a → Settles a o q → Known q (Some a) (Some o) n
settled_known a outcome.InWork q n f s = absurd s
settled_known a outcome.Flow q n f (s, t, e, solved, l) = subst (λ (z : Phase). Known z (Some a) (Some outcome.Flow) n) (sym e) (record { good = (f, l, solved); question = refl; outcome = refl; asks_for = tt })
settled_known a outcome.Impossible q n f (H, t, e, none, l, z) = subst (λ (z : Phase). Known z (Some a) (Some outcome.Impossible) n) (sym e) (record { good = (f, l, none); question = refl; outcome = refl; asks_for = tt })

worked_known : (a : Question) (n k : ℕ) (o : Outcome) (m : ℕ) (q : Phase) → Fit a → Worked a n k o m q → Known q (Some a) (Some o) (n + k)
worked_known a n k outcome.InWork m q f (t, e, i, l, b, z) = subst (λ (z : Phase). Known z (Some a) (Some outcome.InWork) (n + k)) (sym e) (record { good = (f, l, z); question = refl; outcome = refl; asks_for = refl })
worked_known a n k outcome.Flow m q f (s, i) = settled_known a outcome.Flow q (n + k) f s
worked_known a n k outcome.Impossible m q f (s, i) = settled_known a outcome.Impossible q (n + k) f s

same_known : (p q : Phase) (n : ℕ) → Good p → AsksFor p n → q ≡ p → Known q (question_of p) (outcome_of p) n
same_known p q n g a e = record { good = subst Good (sym e) g; question = ap question_of e; outcome = ap outcome_of e; asks_for = subst (λ (z : Phase). AsksFor z n) (sym e) a }

accepted_known : (p : Phase) (n : ℕ) (c : Call) (r : Answer) (q : Phase) → Good p → AsksFor p n → refusal p c ≡ None → Accepted p c r q → After p n c r q
accepted_known p n (Start g) r q h a e (i, j) =
    let f = fit_given g None e in
    let at : Known (working (question g) 0 no_counts) (Some (question g)) (Some outcome.InWork) 0 = record { good = (f, none_limited (question g) f, inl refl); question = refl; outcome = refl; asks_for = refl } in
    subst (λ (x : Answer). After p n (Start g) x q) (sym i) (subst (λ (z : Phase). Known z (Some (question g)) (Some outcome.InWork) 0) (sym j) at)
accepted_known p n (Work k) r q h a e (o, m, i, (b, sum, t, is, w, counted)) =
    let good = subst Good is h in
    let known = worked_known b sum k o m q good.0 w in
    let num : sum ≡ n = subst (λ (z : Phase). AsksFor z n) is a in
    let known' : Known q (question_of p) (Some o) (n + k) = subst (λ (z : Phase). Known q (question_of z) (Some o) (n + k)) (sym is) (subst (λ (x : ℕ). Known q (Some b) (Some o) (x + k)) num known) in
    subst (λ (x : Answer). After p n (Work k) x q) (sym i) known'
accepted_known p n (Trial g t) r q h a e (o, i, s, w) = subst (λ (x : Answer). After p n (Trial g t) x q) (sym i) (settled_known (tried g t) o q 0 (fit_tried g t e) s)
accepted_known p n Total r q h a e (j, b, s, t, is, i) = subst (λ (x : Answer). After p n Total x q) (sym i) (same_known p q n h a j)
accepted_known p n (Flow k) r q h a e (j, b, s, t, is, i) = subst (λ (x : Answer). After p n (Flow k) x q) (sym i) (same_known p q n h a j)
accepted_known p n (Cut side room) r q h a e (j, b, s, t, is, i) = subst (λ (x : Answer). After p n (Cut side room) x q) (sym i) (same_known p q n h a j)
accepted_known p n (Crossing side room) r q h a e (j, b, s, t, is, (v, i, c)) = subst (λ (x : Answer). After p n (Crossing side room) x q) (sym i) (same_known p q n h a j)
accepted_known p n (Hurdle room) r q h a e (j, b, H, t, is, i) = subst (λ (x : Answer). After p n (Hurdle room) x q) (sym i) (same_known p q n h a j)
accepted_known p n Tallies r q h a e (j, i) = subst (λ (x : Answer). After p n Tallies x q) (sym i) (same_known p q n h a j)

step_known : (p : Phase) (n : ℕ) (c : Call) (r : Answer) (q : Phase) → Good p → AsksFor p n → Follows p c r q → After p n c r q
step_known p n c r q h a f = go (refusal p c) refl f
  where
    go : (o : Option Decline) → refusal p c ≡ o → Decided o p c r q → After p n c r q
    go None e x = accepted_known p n c r q h a e x
    go (Some d) e (i, j) = subst (λ (x : Answer). After p n c x q) (sym i) (same_known p q n h a j)

-- after a run, the question, how it stands and what was asked for are those told
pub run_known : (h : Script) (p q : Phase) (n : ℕ) → Good p → AsksFor p n → Run p h q → Known q (asked (question_of p) h) (stands (outcome_of p) h) (works n h)
run_known [] p q n g a e = same_known p q n g a e
run_known (x ∷ h) p q n g a (m, f, r) =
    let s = step_known p n x.0 x.1 m g a f in
    let k = run_known h m q (cond (taken x.1) (adds x.0 n) n) s.good s.asks_for r in
    record {
      good = k.good;
      question = k.question ∙ ap (λ (b : Option Question). asked b h) s.question;
      outcome = k.outcome ∙ ap (λ (o : Option Outcome). stands o h) s.outcome;
      asks_for = k.asks_for;
    }

-- ---- and the tallies are of what the works made
some_is : (m n : ℕ) → ◌≡◌ {A = Option ℕ} (Some m) (Some n) → m ≡ n
some_is m n e = cc

no_some : (m : ℕ) → ◌≡◌ {A = Option ℕ} None (Some m) → ⊥
no_some m e = let z : ◌≡◌ {A = ℕ} 0 1 = cc in omega arith

worked_made : (t u : Counts) (m : ℕ) (d : Option ℕ) → Counted t m u → CountsMade t d → CountsMade u (elim d [ Some k ↦ Some (k + m) | None ↦ None ])
worked_made t u m (Some k) c h n e = let i = h k refl in omega (arith, c.made, some_is (k + m) n e)
worked_made t u m None c h n e = absurd (no_some n e)

same_made : (p q : Phase) (d : Option ℕ) → CountsMade (counts_of p) d → q ≡ p → CountsMade (counts_of q) d
same_made p q d h e = subst (λ (z : Phase). CountsMade (counts_of z) d) (sym e) h

accepted_made : (p : Phase) (d : Option ℕ) (c : Call) (r : Answer) (q : Phase) → CountsMade (counts_of p) d → Accepted p c r q → CountsMade (counts_of q) (makes r d)
accepted_made p d (Start g) r q h (i, j) =
    subst (λ (x : Answer). CountsMade (counts_of q) (makes x d)) (sym i) (subst (λ (z : Phase). CountsMade (counts_of z) (Some 0)) (sym j) (λ m e. some_is 0 m e))
accepted_made p d (Work k) r q h (o, m, i, (b, sum, t, is, w, counted)) =
    let at : CountsMade t d = subst (λ (z : Phase). CountsMade (counts_of z) d) is h in
    subst (λ (x : Answer). CountsMade (counts_of q) (makes x d)) (sym i) (worked_made t (counts_of q) m d counted at)
accepted_made p d (Trial g t) r q h (o, i, s, w) = subst (λ (x : Answer). CountsMade (counts_of q) (makes x d)) (sym i) (λ m e. absurd (no_some m e))
accepted_made p d Total r q h (j, b, s, t, is, i) = subst (λ (x : Answer). CountsMade (counts_of q) (makes x d)) (sym i) (same_made p q d h j)
accepted_made p d (Flow k) r q h (j, b, s, t, is, i) = subst (λ (x : Answer). CountsMade (counts_of q) (makes x d)) (sym i) (same_made p q d h j)
accepted_made p d (Cut side room) r q h (j, b, s, t, is, i) = subst (λ (x : Answer). CountsMade (counts_of q) (makes x d)) (sym i) (same_made p q d h j)
accepted_made p d (Crossing side room) r q h (j, b, s, t, is, (v, i, c)) = subst (λ (x : Answer). CountsMade (counts_of q) (makes x d)) (sym i) (same_made p q d h j)
accepted_made p d (Hurdle room) r q h (j, b, H, t, is, i) = subst (λ (x : Answer). CountsMade (counts_of q) (makes x d)) (sym i) (same_made p q d h j)
accepted_made p d Tallies r q h (j, i) = subst (λ (x : Answer). CountsMade (counts_of q) (makes x d)) (sym i) (same_made p q d h j)

step_made : (p : Phase) (d : Option ℕ) (c : Call) (r : Answer) (q : Phase) → CountsMade (counts_of p) d → Follows p c r q → CountsMade (counts_of q) (makes r d)
step_made p d c r q h f = go (refusal p c) f
  where
    go : (o : Option Decline) → Decided o p c r q → CountsMade (counts_of q) (makes r d)
    go None x = accepted_made p d c r q h x
    go (Some b) (i, j) = subst (λ (x : Answer). CountsMade (counts_of q) (makes x d)) (sym i) (same_made p q d h j)

pub run_made : (h : Script) (p q : Phase) (d : Option ℕ) → CountsMade (counts_of p) d → Run p h q → CountsMade (counts_of q) (made d h)
run_made [] p q d c e = same_made p q d c e
run_made (x ∷ h) p q d c (m, f, r) = run_made h m q (makes x.1 d) (step_made p d x.0 x.1 m c f) r

-- a work that changes no tally
none_made : (t : Counts) → Counted t 0 t
none_made t = record { relabels_one = omega arith; relabels_two = omega arith; discharges_one = omega arith; discharges_two = omega arith; made = omega arith }

work_answered : (q : Phase) (k : ℕ) → Good q → refusal q (Work k) ≡ None → (o : Outcome) × (m : ℕ) × (q' : Phase) × Follows q (Work k) (told.Worked o m) q'
work_answered idle k g e = absurd (let z : ◌≡◌ {A = ℕ} 0 1 = cc in omega arith)
work_answered (working a n t) k (f, l, begun) e = elim (feasible_or a.plant f.sound) [
  | inl x ↦
      let b = (best_exists a.aim a.plant f.sound).1 (x.0, x.1) in
      let s = settled_flow a b.0 f.sound b.1 in
      let q = flowing a s.0 t in
      (outcome.Flow, 0, q, accepts (working a n t) (Work k) (told.Worked outcome.Flow 0) q e (outcome.Flow, 0, refl, (a, n, t, refl, ((s.0, t, refl, s.1, l), omega arith), none_made t)))
  | inr x ↦
      let none : (g : Plants.Flow) → Feasible a.plant g → ⊥ = λ g. no_flow a.plant x.0 g f.sound f.outward x.1.hurdle in
      let two : t.two ≡ no_tally = elim begun [ inl z ↦ z | inr z ↦ absurd (none z.0 z.1) ] in
      let q = blocked a x.0 t in
      (outcome.Impossible, 0, q, accepts (working a n t) (Work k) (told.Worked outcome.Impossible 0) q e (outcome.Impossible, 0, refl, (a, n, t, refl, ((x.0, t, refl, record { none = none; worst = x.1 }, l, two), omega arith), none_made t)))
]
work_answered (flowing a s t) k g e = absurd (let z : ◌≡◌ {A = ℕ} 0 1 = cc in omega arith)
work_answered (blocked a H t) k g e = absurd (let z : ◌≡◌ {A = ℕ} 0 1 = cc in omega arith)

pub works_answered : WorksAnswered
works_answered h q k r e = work_answered q k (run_known h idle q 0 tt tt r).good e
