-- Reading what was written, and writing what was read.
use Rattle.std.specs.Prelude.{◌≡◌, ℕ, ◌^◌, ◌<◌, ◌≤◌, List, [], ◌∷◌, ◌++◌, length, Some, Ok}
use Rattle.std.specs.List.{flat_map, AllByRecursion}
use Rattle.plant.specs.Tests.{aim_numbered}
use Rattle.plant.specs.declared.aim.Aim.{Aim}
use Rattle.plant.specs.declared.line.Line.{Line}
use Rattle.plant.specs.declared.line.Trial.{Trial}
use Rattle.plantfile.specs.Format.{Content, parse}
use Rattle.plantfile.specs.Writing.{encoded, written}

-- the numbers fit their bytes
abbrev pub FitsLine : Line → Type 0
FitsLine l = (l.from < 256) × (l.to < 256) × (l.low < 2 ^ 32) × (l.high < 2 ^ 32)

abbrev pub FitsTrial : Trial → Type 0
FitsTrial t = (t.line < 2 ^ 16) × (t.low < 2 ^ 32) × (t.high < 2 ^ 32)

-- each number fits its bytes, and there are at most 64 trials
pub record Writable (c : Content) : Type 0 where
  pub junctions : c.junctions < 256
  pub lines : AllByRecursion FitsLine c.lines
  pub trials : AllByRecursion FitsTrial c.trials
  pub few : length c.trials ≤ 64

-- what was written reads back as it was
abbrev pub ReadsBack : Type 0
ReadsBack = (c : Content) → Writable c → parse (encoded c) ≡ Ok c

-- whatever the writer writes reads back as the plant, its trials and its aim
abbrev pub WrittenReadsBack : Type 0
WrittenReadsBack =
    (n : ℕ) (ls : List Line) (ts : List Trial) (a : ℕ) (text : List ℕ) → written n ls ts a ≡ Ok text
    → (aim : Aim) × (aim_numbered a ≡ Some aim) × (parse text ≡ Ok (record { junctions = n; lines = ls; trials = ts; aim = aim }))

-- ten operands
abbrev pub Ten : List ℕ → Type 0
Ten bs = length bs ≡ 10

-- a letter and its operands
abbrev pub lettered : ℕ → List ℕ → List ℕ
lettered letter bs = letter ∷ bs

-- the bytes stand in the writer's order: N and a byte, then each L, then each T, with ten operands each, then one byte
pub record InOrder (bs : List ℕ) : Type 0 where
  pub junctions : ℕ
  pub ls : List (List ℕ)
  pub ts : List (List ℕ)
  pub last : ℕ
  pub ls_ten : AllByRecursion Ten ls
  pub ts_ten : AllByRecursion Ten ts
  pub is : bs ≡ (78 ∷ junctions ∷ []) ++ (flat_map (lettered 76) ls ++ (flat_map (lettered 84) ts ++ last ∷ []))

abbrev pub Byte : ℕ → Type 0
Byte b = b < 256

-- bytes in the writer's order that read as a content are what is written of it
abbrev pub WritesAgain : Type 0
WritesAgain = (bs : List ℕ) (c : Content) → AllByRecursion Byte bs → InOrder bs → parse bs ≡ Ok c → encoded c ≡ bs

-- what is written stands in that order
abbrev pub WritesInOrder : Type 0
WritesInOrder = (c : Content) → InOrder (encoded c)
