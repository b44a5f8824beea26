-- What the sheet of a plant file shows, and what the calls that write it answer.
use Rattle.std.specs.Prelude.{◌≡◌, ℕ, ◌<◌, ◌≤◌, Bool, cond, List, ◌++◌, length, drop, ℤ, pos, neg_ℤ, Some, None, Ok, Err, Option, Result, nat_lt, slice_index_or}
use Rattle.plant.specs.declared.aim.Aim.{Aim}
use Rattle.plant.specs.declared.decline.Decline.{Decline}
use Rattle.plant.specs.declared.decline.Decline.TheVariants.{BufferLength}
use Rattle.plant.specs.Held.{marked}
use Rattle.plant.specs.Numbers.{number_of}
use Rattle.plant.specs.Plants as plants
use Rattle.plant.specs.Plants.{Best, FarCut, Feasible, Flow, NearCut, Plant, WorstHurdle, shortfall, with_limits}
use Rattle.plant.specs.Tests.{test_list, unless}
use Rattle.plant.specs.declared.line.Trial.{Trial}
use Rattle.plantfile.specs.Format.{Content, parse}
use Rattle.plantfile.specs.Writing.{test_each, then_test}
use Rattle.text.specs.declared.sheets.Tried.{Tried}
use Rattle.text.specs.Text.{declined_text, flow_text, hurdle_text, nothing}

-- the tests of what a file says: its list, then trial by trial
abbrev pub test_content : Content → Option Decline
test_content c = then_test (test_list c.junctions c.lines None) (test_each (length c.lines) c.trials)

abbrev pub tested_content : Result Content Decline → Result Content Decline
tested_content (Ok c) = unless (test_content c) c
tested_content (Err d) = Err d

-- what a file says, or the first fault that it has
abbrev pub checked : List ℕ → Result Content Decline
checked file = tested_content (parse file)

-- the plant that a file tells of
abbrev pub plant_told : Content → Plant
plant_told c = record { junctions = c.junctions; lines = c.lines }

-- the best total of a plant, or none where no flow is feasible
abbrev pub BestTotal : Aim → Plant → Option ℕ → Type 0
BestTotal aim P (Some x) = (f : Flow) × Best aim P f × (plants.total P f ≡ pos x)
BestTotal aim P None = (f : Flow) → Feasible P f → ⊥

-- the answer to one trial: its line, and the best total of the plant with its limits on that line
pub record TriedOne (aim : Aim) (P : Plant) (t : Trial) (r : Tried) : Type 0 where
  pub line : r.line ≡ t.line
  pub total : BestTotal aim (with_limits P t.line t.low t.high) r.total

-- stands for a trial where there is none
abbrev pub no_trial : Trial
no_trial = record { line = 0; low = 0; high = 0 }

-- the answers to all trials, in their order
pub record TriedAll (aim : Aim) (P : Plant) (ts : List Trial) (rs : List Tried) : Type 0 where
  pub count : length rs ≡ length ts
  pub each : (i : ℕ) → i < length ts → TriedOne aim P (slice_index_or ts i no_trial) (slice_index_or rs i nothing)

-- the sheet of a plant with a feasible flow: a best flow, its total, and the near and the far cut by a mark for each junction
pub record FlowSheet (c : Content) (text : List ℕ) : Type 0 where
  pub flow : Flow
  pub total : ℕ
  pub near : List Bool
  pub far : List Bool
  pub tried : List Tried
  pub best : Best c.aim (plant_told c) flow
  pub is_total : plants.total (plant_told c) flow ≡ pos total
  pub near_marks : length near ≡ c.junctions
  pub is_near : NearCut c.aim (plant_told c) (marked near)
  pub far_marks : length far ≡ c.junctions
  pub is_far : FarCut c.aim (plant_told c) (marked far)
  pub is_tried : TriedAll c.aim (plant_told c) c.trials tried
  pub is : text ≡ flow_text c.aim total flow near far tried

-- the sheet of an impossible plant: the smallest hurdle of largest shortfall, by a mark for each junction
pub record HurdleSheet (c : Content) (text : List ℕ) : Type 0 where
  pub hurdle : List Bool
  pub tried : List Tried
  pub none : (f : Flow) → Feasible (plant_told c) f → ⊥
  pub marks : length hurdle ≡ c.junctions
  pub worst : WorstHurdle (plant_told c) (marked hurdle)
  pub is_tried : TriedAll c.aim (plant_told c) c.trials tried
  pub is : text ≡ hurdle_text (shortfall (plant_told c) (marked hurdle)) hurdle tried

-- the sheet is one or the other
pub data Sheet (c : Content) (text : List ℕ) : Type 0 where
  with_flow : FlowSheet c text → Sheet c text
  impossible : HurdleSheet c text → Sheet c text

-- a text in the front of a buffer, and its length as the answer
abbrev pub Front : List ℕ → List ℕ → Result ℕ Decline → List ℕ → Type 0
Front text before r after = (r ≡ Ok (length text)) × (after ≡ text ++ drop (length text) before)

-- a decline, which leaves the buffer as it was
abbrev pub Declined : Decline → List ℕ → Result ℕ Decline → List ℕ → Type 0
Declined d before r after = (r ≡ Err d) × (after ≡ before)

-- the sheet in the front of a buffer
pub record Shown (c : Content) (before : List ℕ) (r : Result ℕ Decline) (after : List ℕ) : Type 0 where
  pub text : List ℕ
  pub sheet : Sheet c text
  pub short : length text ≤ 16384
  pub front : Front text before r after

-- 9 for a buffer of fewer than 16,384 bytes, and else what is said
abbrev pub WithRoom : List ℕ → Result ℕ Decline → List ℕ → Type 0 → Type 0
WithRoom before r after on = cond (nat_lt (length before) 16384) (Declined BufferLength before r after) on

-- the listing: the first fault of the file, then 9, else the sheet
abbrev pub Listed : Result Content Decline → List ℕ → Result ℕ Decline → List ℕ → Type 0
Listed (Err d) before r after = Declined d before r after
Listed (Ok c) before r after = WithRoom before r after (Shown c before r after)

-- the sheet, or the line that names the first fault of the file
abbrev pub ToldText : Result Content Decline → List ℕ → Result ℕ Decline → List ℕ → Type 0
ToldText (Ok c) before r after = Shown c before r after
ToldText (Err d) before r after = Front (declined_text (number_of d)) before r after

-- the text call: 9, else that text
abbrev pub Texted : Result Content Decline → List ℕ → Result ℕ Decline → List ℕ → Type 0
Texted o before r after = WithRoom before r after (ToldText o before r after)

-- an answer as C sees it: the length, or the number of the decline as a negative
abbrev pub as_number : Result ℕ Decline → ℤ
as_number (Ok len) = pos len
as_number (Err d) = neg_ℤ (pos (number_of d))

-- the call for C: an answer of the listing as a number
abbrev pub ListedNumber : Result Content Decline → List ℕ → ℤ → List ℕ → Type 0
ListedNumber o before z after = (r : Result ℕ Decline) × Listed o before r after × (z ≡ as_number r)
