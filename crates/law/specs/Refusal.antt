-- Which calls are declined, and by which test: how the planner stands comes first, then the tests in their order.
use Rattle.std.specs.Prelude.{ℕ, length, Some, None, Ok, Err, Option, Result, nat_le, nat_lt}
use Rattle.law.specs.declared.script.Call.{Call}
use Rattle.law.specs.declared.script.Call.TheVariants.{Crossing, Cut, Flow, Hurdle, Start, Tallies, Total, Trial, Work}
use Rattle.law.specs.declared.script.Given.{Given}
use Rattle.law.specs.Phases.{Phase, Plan, Question, blocked, cut_of, flowing, idle, working}
use Rattle.planner.specs.Calls.{bad_work}
use Rattle.plant.specs.declared.aim.Aim.{Aim}
use Rattle.plant.specs.declared.decline.Decline.{Decline}
use Rattle.plant.specs.declared.decline.Decline.TheVariants as bad
use Rattle.plant.specs.Plants.{crossing}
use Rattle.plant.specs.Tests.{test, test_trial, tested}

-- declines where a test has failed, and else goes on
abbrev pub passing : Result Aim Decline → Option Decline → Option Decline
passing (Ok aim) on = on
passing (Err d) on = Some d

-- 1 to 6, on what is handed over
abbrev pub test_given : Given → Option Decline → Option Decline
test_given g on = passing (tested g.n g.lines.items g.aim) on

-- 21: nothing in work
abbrev pub test_work : Phase → Option Decline → Option Decline
test_work idle on = Some bad.NothingInWork
test_work (working a asked t) on = on
test_work (flowing a s t) on = Some bad.NothingInWork
test_work (blocked a H t) on = Some bad.NothingInWork

-- 22 and 23: nothing settled, or no flow
abbrev pub test_flow : Phase → (Question → Plan → Option Decline) → Option Decline
test_flow idle on = Some bad.NothingSettled
test_flow (working a asked t) on = Some bad.NothingSettled
test_flow (flowing a s t) on = on a s
test_flow (blocked a H t) on = Some bad.NoFlow

-- 22 and 24: nothing settled, or no hurdle
abbrev pub test_hurdle : Phase → Option Decline → Option Decline
test_hurdle idle on = Some bad.NothingSettled
test_hurdle (working a asked t) on = Some bad.NothingSettled
test_hurdle (flowing a s t) on = Some bad.NoHurdle
test_hurdle (blocked a H t) on = on

-- 9: less room than is needed
abbrev pub test_room : ℕ → ℕ → Option Decline
test_room needed room = test bad.BufferLength (nat_lt room needed) None

-- the first test that fails, if any
abbrev pub refusal : Phase → Call → Option Decline
refusal p (Start g) = test_given g None
refusal p (Work k) = test_work p (test bad.WorkNumber (bad_work k) None)
refusal p (Trial g t) = test_given g (test_trial (length g.lines.items) t.line t.low t.high)
refusal p Total = test_flow p (λ a s. None)
refusal p (Flow k) = test_flow p (λ a s. test bad.LineNumber (nat_le (length a.plant.lines) k) None)
refusal p (Cut side room) = test_flow p (λ a s. test_room 32 room)
refusal p (Crossing side room) = test_flow p (λ a s. test_room (length (crossing (cut_of side s) 0 a.plant.lines)) room)
refusal p (Hurdle room) = test_hurdle p (test_room 32 room)
refusal p Tallies = None
