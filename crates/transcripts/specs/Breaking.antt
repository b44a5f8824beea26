-- Transcripts that do not obey the law, whatever else is answered.
use Rattle.std.specs.Prelude.{◌≡◌, ℕ, ◌+◌, [], ◌∷◌, ℤ, pos}
use Rattle.law.specs.declared.script.Answer.TheVariants as told
use Rattle.law.specs.declared.script.Call.TheVariants.{Cut, Flow, Hurdle, Start, Tallies, Total, Trial, Work}
use Rattle.law.specs.Law.{Law}
use Rattle.law.specs.Phases.{idle}
use Rattle.law.specs.Scripts.{Script}
use Rattle.planner.specs.declared.answer.Outcome.{Outcome}
use Rattle.planner.specs.declared.answer.Outcome.TheVariants as outcome
use Rattle.planner.specs.declared.answer.Side.TheVariants.{Far, Near}
use Rattle.planner.specs.declared.answer.Tally.{Tally}
use Rattle.plant.specs.declared.decline.Decline.{Decline}
use Rattle.plant.specs.declared.decline.Decline.TheVariants as bad
use Rattle.transcripts.specs.Plants.{B_lines, D_lines, H_lines, Lines, bytes, given}

-- plant D started, and then h
abbrev pub started : Lines → Script → Script
started v h = (Start (given 3 v 1), told.Started) ∷ h

-- of plant D no such transcript obeys the law
abbrev pub Never : (Lines → Script) → Type 0
Never h = (v : Lines) → v.items ≡ D_lines → Law idle (h v) → ⊥

-- one cut shown twice
abbrev pub NotOneCutTwice : Type 0
NotOneCutTwice = (m : ℕ) → Never (λ v. started v ((Work 60000, told.Worked outcome.Flow m) ∷ (Cut Near 32, told.Cut (bytes 1) 1 (pos 3)) ∷ (Cut Far 32, told.Cut (bytes 1) 1 (pos 3)) ∷ []))

-- the lows shown as the flow
abbrev pub NotTheLows : Type 0
NotTheLows = (m : ℕ) → Never (λ v. started v ((Work 60000, told.Worked outcome.Flow m) ∷ (Total, told.Total (pos 0)) ∷ (Flow 0, told.Flow 0) ∷ (Flow 1, told.Flow 0) ∷ []))

-- a possible plant settled as impossible
abbrev pub NotAllImpossible : Type 0
NotAllImpossible = (m : ℕ) → Never (λ v. started v ((Work 60000, told.Worked outcome.Impossible m) ∷ []))

-- a start declined that passes the tests
abbrev pub NotAStartThatDeclines : Type 0
NotAStartThatDeclines = (d : Decline) → Never (λ v. (Start (given 3 v 1), told.Declined d) ∷ [])

-- a reading accepted with nothing settled
abbrev pub NotAReadingWhileIdle : Type 0
NotAReadingWhileIdle = (z : ℤ) → Law idle ((Total, told.Total z) ∷ []) → ⊥

-- plant B with a larger high, and the total that it had before
abbrev pub NotATotalThatStays : Type 0
NotATotalThatStays = (v : Lines) (m : ℕ) → v.items ≡ B_lines →
    Law idle (
    (Start (given 2 v 1), told.Started)
    ∷ (Work 60000, told.Worked outcome.Flow m)
    ∷ (Cut Far 32, told.Cut (bytes 1) 1 (pos 9))
    ∷ (Total, told.Total (pos 9))
    ∷ (Cut Near 32, told.Cut (bytes 1) 1 (pos 9))
    ∷ (Trial (given 2 v 1) (record { line = 0; low = 4; high = 10 }), told.Tried outcome.Flow)
    ∷ (Work 5, told.Declined bad.NothingInWork)
    ∷ (Total, told.Total (pos 9))
    ∷ []) → ⊥

-- a work of no discharges accepted
abbrev pub NotAWorkOfNone : Type 0
NotAWorkOfNone = (o : Outcome) (m : ℕ) → Never (λ v. started v ((Work 0, told.Worked o m) ∷ []))

-- works enough for both stages, and still in work
abbrev pub NotForEver : Type 0
NotForEver = (m : ℕ) → Never (λ v. started v ((Work 400, told.Worked outcome.InWork 400) ∷ (Work 108, told.Worked outcome.InWork m) ∷ []))

-- still in work, with fewer discharges made than asked for
abbrev pub NotUntouched : Type 0
NotUntouched = Never (λ v. started v ((Work 5, told.Worked outcome.InWork 0) ∷ []))

-- a declined start that forgets the question before it
abbrev pub NotADeclineThatResets : Type 0
NotADeclineThatResets = (w : Lines) → Never (λ v. started v ((Start (given 1 w 1), told.Declined bad.JunctionCount) ∷ (Work 1, told.Declined bad.NothingInWork) ∷ []))

-- of plant H the shortfall told is 1
abbrev pub NotAnotherShortfall : Type 0
NotAnotherShortfall = (v : Lines) (m d : ℕ) → v.items ≡ H_lines → Law idle (started v ((Work 60000, told.Worked outcome.Impossible m) ∷ (Hurdle 32, told.Hurdle (bytes 3) 2 d) ∷ [])) → d ≡ 1

-- the tallies read after a work are of what it made
abbrev pub TalliesMade : Type 0
TalliesMade = (v : Lines) (o : Outcome) (m : ℕ) (one two : Tally) → v.items ≡ D_lines → Law idle (started v ((Work 60000, told.Worked o m) ∷ (Tallies, told.Tallies one two) ∷ [])) → one.discharges + two.discharges ≡ m
