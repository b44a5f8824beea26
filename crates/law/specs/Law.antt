-- What a planner may do at each call, and over whole runs.
use Rattle.std.specs.Prelude.{◌≡◌, ℕ, ◌+◌, ◌<◌, ◌≤◌, ◌↔◌, List, [], ◌∷◌, length, Some, None, Option, Vec}
use Rattle.law.specs.declared.script.Answer.{Answer}
use Rattle.law.specs.declared.script.Answer.TheVariants as told
use Rattle.law.specs.declared.script.Call.{Call}
use Rattle.law.specs.declared.script.Call.TheVariants.{Crossing, Cut, Flow, Hurdle, Start, Tallies, Total, Trial, Work}
use Rattle.law.specs.Phases.{Begun, Counted, Counts, Impossible, Limited, Phase, Plan, Question, Solved, blocked, counts_of, cut_of, flowing, limit, no_counts, question, tried, working}
use Rattle.law.specs.Refusal.{refusal}
use Rattle.planner.specs.declared.answer.Outcome.{Outcome}
use Rattle.planner.specs.declared.answer.Outcome.TheVariants as outcome
use Rattle.planner.specs.Tallies.{no_tally}
use Rattle.plant.specs.declared.decline.Decline.{Decline}
use Rattle.plant.specs.Plants.{Junctions, Leads, Wider, at, bound, crossing, line, shortfall, total, widened}
use Rattle.reach.specs.Sets.{set_bytes, size}
use Rattle.std.specs.declared.alloc.Global.{Global}

-- b is the question a but for a wider limit on line k
pub record Widens (a : Question) (k : ℕ) (b : Question) : Type 0 where
  pub limit : ℕ
  pub inside : k < length a.plant.lines
  pub wider : Wider a.aim (line a.plant k) limit
  pub aim : b.aim ≡ a.aim
  pub plant : b.plant ≡ widened a.aim a.plant k limit

-- a trial b that widens line k of what is settled with a flow has a flow, and the same total exactly if the line does not lead from near to beyond far
abbrev pub Widening : Phase → Question → Phase → Type 0
Widening p b q =
    (a : Question) (s : Plan) (t : Counts) (k : ℕ) → p ≡ flowing a s t → Widens a k b
    → (r : Plan) × (u : Counts) × (q ≡ flowing b r u) × (total b.plant r.flow ≡ total a.plant s.flow ↔ (Leads s.near s.far (line a.plant k) → ⊥))

-- the question a is settled: with a flow, or as impossible, where stage two is never begun
abbrev pub Settles : Question → Outcome → Phase → Type 0
Settles a outcome.InWork q = ⊥
Settles a outcome.Flow q = (s : Plan) × (t : Counts) × (q ≡ flowing a s t) × Solved a s × Limited a.plant t
Settles a outcome.Impossible q = (H : Junctions) × (t : Counts) × (q ≡ blocked a H t) × Impossible a H × Limited a.plant t × (t.two ≡ no_tally)

-- a work of k on the question a, after m discharges: still in work after all k of them, with less asked for than the limit; or settled
abbrev pub Worked : Question → ℕ → ℕ → Outcome → ℕ → Phase → Type 0
Worked a asked k outcome.InWork m q = (t : Counts) × (q ≡ working a (asked + k) t) × (m ≡ k) × Limited a.plant t × (asked + k < limit a.plant) × Begun a.plant t
Worked a asked k outcome.Flow m q = Settles a outcome.Flow q × (m ≤ k)
Worked a asked k outcome.Impossible m q = Settles a outcome.Impossible q × (m ≤ k)

abbrev pub Works : Phase → ℕ → Outcome → ℕ → Phase → Type 0
Works p k o m q = (a : Question) × (asked : ℕ) × (t : Counts) × (p ≡ working a asked t) × Worked a asked k o m q × Counted t m (counts_of q)

-- a reading changes nothing, and speaks of the question and the plan, or of the question and the hurdle
abbrev pub OnFlow : Phase → Phase → (Question → Plan → Type 0) → Type 0
OnFlow p q F = (q ≡ p) × (a : Question) × (s : Plan) × (t : Counts) × (p ≡ flowing a s t) × F a s

abbrev pub OnHurdle : Phase → Phase → (Question → Junctions → Type 0) → Type 0
OnHurdle p q F = (q ≡ p) × (a : Question) × (H : Junctions) × (t : Counts) × (p ≡ blocked a H t) × F a H

-- what an accepted call answers, and how the planner then stands
abbrev pub Accepted : Phase → Call → Answer → Phase → Type 0
Accepted p (Start g) r q = (r ≡ told.Started) × (q ≡ working (question g) 0 no_counts)
Accepted p (Work k) r q = (o : Outcome) × (m : ℕ) × (r ≡ told.Worked o m) × Works p k o m q
Accepted p (Trial g t) r q = (o : Outcome) × (r ≡ told.Tried o) × Settles (tried g t) o q × Widening p (tried g t) q
Accepted p Total r q = OnFlow p q (λ a s. r ≡ told.Total (total a.plant s.flow))
Accepted p (Flow k) r q = OnFlow p q (λ a s. r ≡ told.Flow (at s.flow k))
Accepted p (Cut side room) r q =
    OnFlow p q (λ a s. r ≡ told.Cut (set_bytes (cut_of side s)) (size (cut_of side s) a.plant.junctions) (bound a.aim a.plant (cut_of side s)))
Accepted p (Crossing side room) r q =
    OnFlow p q (λ a s. (v : Vec ℕ Global) × (r ≡ told.Crossing v) × (v.items ≡ crossing (cut_of side s) 0 a.plant.lines))
Accepted p (Hurdle room) r q =
    OnHurdle p q (λ a H. r ≡ told.Hurdle (set_bytes H) (size H a.plant.junctions) (shortfall a.plant H))
Accepted p Tallies r q = (q ≡ p) × (r ≡ told.Tallies (counts_of p).one (counts_of p).two)

-- a call declines by the first test that fails, and then changes nothing; where none fails it is accepted
abbrev pub Decided : Option Decline → Phase → Call → Answer → Phase → Type 0
Decided (Some d) p c r q = (r ≡ told.Declined d) × (q ≡ p)
Decided None p c r q = Accepted p c r q

abbrev pub Follows : Phase → Call → Answer → Phase → Type 0
Follows p c r q = Decided (refusal p c) p c r q

-- calls with their answers, one after the other, from p to q
abbrev pub Run : Phase → List (Call × Answer) → Phase → Type 0
Run p [] q = q ≡ p
Run p (x ∷ h) q = (m : Phase) × Follows p x.0 x.1 m × Run m h q

-- the calls and answers are those of a planner that stands at p first
abbrev pub Law : Phase → List (Call × Answer) → Type 0
Law p h = (q : Phase) × Run p h q

-- a script beside its answers, as far as both go
abbrev pub beside : List Call → List Answer → List (Call × Answer)
beside [] rs = []
beside (c ∷ cs) [] = []
beside (c ∷ cs) (r ∷ rs) = (c, r) ∷ beside cs rs
