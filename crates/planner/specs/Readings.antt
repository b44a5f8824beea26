-- What each reading answers, and what its buffer then holds.
use Rattle.std.specs.Prelude.{◌≡◌, ℕ, List, ◌++◌, length, drop, ℤ, Some, None, Ok, Err, Option, Result, nat_le, nat_lt, slice_index}
use Rattle.plant.specs.declared.decline.Decline.{Decline}
use Rattle.plant.specs.declared.decline.Decline.TheVariants.{BufferLength, LineNumber, NoFlow, NoHurdle, NothingSettled}
use Rattle.plant.specs.Held.{flows_of, lines_of}
use Rattle.plant.specs.Plants.{Best, Feasible, Flow, Junctions, WorstHurdle, bound_over, crossing, list_total, shortfall_over}
use Rattle.plant.specs.Tests.{test, unless}
use Rattle.reach.specs.Drying.{first_of}
use Rattle.reach.specs.Sets.{set_bytes, size}
use Rattle.planner.specs.declared.answer.Side.{Side}
use Rattle.planner.specs.declared.answer.Tally.{Tally}
use Rattle.planner.specs.declared.machine.State.{State}
use Rattle.planner.specs.declared.machine.State.TheVariants.{Idle, SettledFlow, SettledImpossible, StageOne, StageTwo}
use Rattle.planner.specs.Cuts.{CutSet, Extreme, HurdleSet}
use Rattle.planner.specs.Views.{View}

-- a flow can be read where one is settled
abbrev pub test_flow : State → Option Decline
test_flow Idle = Some NothingSettled
test_flow StageOne = Some NothingSettled
test_flow StageTwo = Some NothingSettled
test_flow SettledFlow = None
test_flow SettledImpossible = Some NoFlow

-- a hurdle can be read where the plant was found impossible
abbrev pub test_hurdle : State → Option Decline
test_hurdle Idle = Some NothingSettled
test_hurdle StageOne = Some NothingSettled
test_hurdle StageTwo = Some NothingSettled
test_hurdle SettledFlow = Some NoHurdle
test_hurdle SettledImpossible = None

-- what a planner that is settled has: a best flow of its plant, or a plant with none
abbrev pub Facts : State → View → Type 0
Facts Idle p = Unit {0}
Facts StageOne p = Unit {0}
Facts StageTwo p = Unit {0}
Facts SettledFlow p = (lines_of p.arcs ≡ p.plant.lines) × Best p.aim p.plant (flows_of p.arcs)
Facts SettledImpossible p = (f : Flow) → Feasible p.plant f → ⊥

-- the total of the flow
abbrev pub total_answer : View → Result ℤ Decline
total_answer p = unless (test_flow p.state) (list_total (lines_of p.arcs) (flows_of p.arcs))

-- the flow of line k
abbrev pub flow_answer : View → ℕ → Result ℕ Decline
flow_answer p k = unless (first_of (test_flow p.state) (test LineNumber (nat_le (length p.arcs) k) None)) (slice_index (flows_of p.arcs) k)

-- the two tallies
abbrev pub tallies_answer : View → Tally × Tally
tallies_answer p = (p.one, p.two)

-- a call with a buffer: the answer, and the buffer before and after
pub record Lending (A : Type 0) : Type 0 where
  pub before : List ℕ
  pub answer : Result A Decline
  pub after : List ℕ

-- declined: the buffer is as it was
abbrev pub Declined : {A : Type 0} → Lending A → Decline → Type 0
Declined b d = (b.answer ≡ Err d) × (b.after ≡ b.before)

-- answered: the list stands in the first places of the buffer, and the rest is as it was
abbrev pub Filled : {A : Type 0} → Lending A → ℕ → List ℕ → A → Type 0
Filled b places xs a = (b.answer ≡ Ok a) × (b.after ≡ xs ++ drop places b.before)

-- declined by a test, and else what is said
abbrev pub Unless : {A : Type 0} → Lending A → Option Decline → Type 0 → Type 0
Unless b (Some d) on = Declined b d
Unless b None on = on

-- the buffer has fewer places than these
abbrev pub test_room : {A : Type 0} → Lending A → ℕ → Option Decline
test_room b places = test BufferLength (nat_lt (length b.before) places) None

-- a set put into a buffer
abbrev pub PutSet : List ℕ → Lending (Unit {0}) → Type 0
PutSet bytes b = Unless b (test_room b 32) (Filled b 32 bytes tt)

-- numbers put into a buffer that has a place for each, and how many they are
abbrev pub Listed : Lending ℕ → List ℕ → Type 0
Listed b xs = Unless b (test_room b (length xs)) (Filled b (length xs) xs (length xs))

-- the near or the far cut, its number of junctions and its bound
abbrev pub CutRead : View → Side → Lending (ℕ × ℤ) → Type 0
CutRead p side b =
    Unless b (first_of (test_flow p.state) (test_room b 32))
    ((S : Junctions) × CutSet side p.aim p.plant.junctions p.arcs S
    × Filled b 32 (set_bytes S) (size S p.plant.junctions, bound_over p.aim p.plant.lines S))

-- the lines that lead out of the near or the far cut, by number, and how many they are
abbrev pub CrossingRead : View → Side → Lending ℕ → Type 0
CrossingRead p side b =
    Unless b (test_flow p.state)
    ((S : Junctions) × CutSet side p.aim p.plant.junctions p.arcs S
    × Listed b (crossing S 0 p.plant.lines))

-- the hurdle, its number of junctions and its shortfall
abbrev pub HurdleRead : View → Lending (ℕ × ℕ) → Type 0
HurdleRead p b =
    Unless b (first_of (test_hurdle p.state) (test_room b 32))
    ((S : Junctions) × HurdleSet p.plant.junctions p.arcs S
    × Filled b 32 (set_bytes S) (size S p.plant.junctions, shortfall_over p.plant.lines S))

-- the near or the far cut of the settled flow: what residuals tell of it, and what it is
pub record CutShown (p : View) (side : Side) (S : Junctions) : Type 0 where
  pub residuals : CutSet side p.aim p.plant.junctions p.arcs S
  pub extreme : Extreme side p.aim p.plant S

-- the hurdle of a plant with no feasible flow: what residuals tell of it, and what it is
pub record HurdleShown (p : View) (S : Junctions) : Type 0 where
  pub residuals : HurdleSet p.plant.junctions p.arcs S
  pub worst : WorstHurdle p.plant S

-- the near or the far cut as it is read, with what it is
abbrev pub CutSeen : View → Side → Lending (ℕ × ℤ) → Type 0
CutSeen p side b =
    Unless b (first_of (test_flow p.state) (test_room b 32))
    ((S : Junctions) × CutShown p side S
    × Filled b 32 (set_bytes S) (size S p.plant.junctions, bound_over p.aim p.plant.lines S))

-- the lines that lead out of it, with what it is
abbrev pub CrossingSeen : View → Side → Lending ℕ → Type 0
CrossingSeen p side b =
    Unless b (test_flow p.state)
    ((S : Junctions) × CutShown p side S
    × Listed b (crossing S 0 p.plant.lines))

-- the hurdle as it is read, with what it is
abbrev pub HurdleSeen : View → Lending (ℕ × ℕ) → Type 0
HurdleSeen p b =
    Unless b (first_of (test_hurdle p.state) (test_room b 32))
    ((S : Junctions) × HurdleShown p S
    × Filled b 32 (set_bytes S) (size S p.plant.junctions, shortfall_over p.plant.lines S))
