-- What calls and answers alone tell: which question is asked, how it stands, what was read of it.
use Rattle.std.specs.Prelude.{◌≡◌, ℕ, ◌+◌, Bool, true, false, cond, not, ◌&&◌, ◌⊎◌, List, [], ◌∷◌, Some, None, Option}
use Rattle.law.specs.declared.script.Answer.{Answer}
use Rattle.law.specs.declared.script.Answer.TheVariants as told
use Rattle.law.specs.declared.script.Call.{Call}
use Rattle.law.specs.declared.script.Call.TheVariants.{Crossing, Cut, Flow, Hurdle, Start, Tallies, Total, Trial, Work}
use Rattle.law.specs.Phases.{Phase, Question, blocked, flowing, idle, question, tried, working}
use Rattle.planner.specs.declared.answer.Outcome.{Outcome}
use Rattle.planner.specs.declared.answer.Outcome.TheVariants as outcome

-- calls with their answers
abbrev pub Script : Type 0
Script = List (Call × Answer)

-- whether a call was accepted
abbrev pub taken : Answer → Bool
taken told.Started = true
taken (told.Worked o m) = true
taken (told.Tried o) = true
taken (told.Total t) = true
taken (told.Flow x) = true
taken (told.Cut x n b) = true
taken (told.Crossing v) = true
taken (told.Hurdle x n b) = true
taken (told.Tallies x y) = true
taken (told.Declined d) = false

-- the question that a start or a trial asks
abbrev pub asks : Call → Option Question
asks (Start g) = Some (question g)
asks (Work k) = None
asks (Trial g t) = Some (tried g t)
asks Total = None
asks (Flow k) = None
asks (Cut side room) = None
asks (Crossing side room) = None
asks (Hurdle room) = None
asks Tallies = None

-- an accepted start or trial
abbrev pub asking : Call × Answer → Bool
asking x = taken x.1 && elim (asks x.0) [ Some a ↦ true | None ↦ false ]

-- the question of the last one, a before the first
abbrev pub asked : Option Question → Script → Option Question
asked a [] = a
asked a (x ∷ h) = asked (cond (asking x) (asks x.0) a) h

-- no new question is asked
abbrev pub kept : Script → Bool
kept [] = true
kept (x ∷ h) = not (asking x) && kept h

-- this call got this answer
abbrev pub Told : Script → Call → Answer → Type 0
Told [] c r = ⊥
Told (x ∷ h) c r = (x ≡ (c, r)) ⊎ Told h c r

-- how the question stands after an answer, and as last told
abbrev pub tells : Answer → Option Outcome → Option Outcome
tells told.Started o = Some outcome.InWork
tells (told.Worked x m) o = Some x
tells (told.Tried x) o = Some x
tells (told.Total t) o = o
tells (told.Flow x) o = o
tells (told.Cut x n b) o = o
tells (told.Crossing v) o = o
tells (told.Hurdle x n b) o = o
tells (told.Tallies x y) o = o
tells (told.Declined d) o = o

abbrev pub stands : Option Outcome → Script → Option Outcome
stands o [] = o
stands o (x ∷ h) = stands (tells x.1 o) h

-- what the works accepted since the last accepted start ask for together
abbrev pub adds : Call → ℕ → ℕ
adds (Start g) n = 0
adds (Work k) n = n + k
adds (Trial g t) n = 0
adds Total n = n
adds (Flow k) n = n
adds (Cut side room) n = n
adds (Crossing side room) n = n
adds (Hurdle room) n = n
adds Tallies n = n

abbrev pub works : ℕ → Script → ℕ
works n [] = n
works n (x ∷ h) = works (cond (taken x.1) (adds x.0 n) n) h

-- what the works since the last accepted start made together; none where a trial was accepted after it
abbrev pub makes : Answer → Option ℕ → Option ℕ
makes told.Started n = Some 0
makes (told.Worked o m) n = elim n [ Some k ↦ Some (k + m) | None ↦ None ]
makes (told.Tried o) n = None
makes (told.Total t) n = n
makes (told.Flow x) n = n
makes (told.Cut x m b) n = n
makes (told.Crossing v) n = n
makes (told.Hurdle x m b) n = n
makes (told.Tallies x y) n = n
makes (told.Declined d) n = n

abbrev pub made : Option ℕ → Script → Option ℕ
made n [] = n
made n (x ∷ h) = made (makes x.1 n) h

-- a phase stands as was told: with the question asked, and as it was last said to stand
abbrev pub question_of : Phase → Option Question
question_of idle = None
question_of (working a n t) = Some a
question_of (flowing a s t) = Some a
question_of (blocked a H t) = Some a

abbrev pub outcome_of : Phase → Option Outcome
outcome_of idle = None
outcome_of (working a n t) = Some outcome.InWork
outcome_of (flowing a s t) = Some outcome.Flow
outcome_of (blocked a H t) = Some outcome.Impossible

abbrev pub AsTold : Script → Phase → Type 0
AsTold h p = (question_of p ≡ asked None h) × (outcome_of p ≡ stands None h)
