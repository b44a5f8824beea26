-- What holds of a stage with n junctions, a start s and a goal t.
use Rattle.std.specs.Prelude.{◌≡◌, ℕ, ◌+◌, ◌*◌, ◌<◌, ◌≤◌, true, false, ◌≢◌, List, length, pos, ◌+ℤ◌, neg_ℤ, ◌≤ℤ◌}
use borrow.Author.Differences.{up}
use Rattle.std.specs.List.{ContainsAt, AllByRecursion}
use Rattle.plant.specs.Plants.{SoundLine, Junctions, low_of, high_of}
use Rattle.plant.specs.Held.{Arc, lines_of}
use Rattle.stage.specs.declared.Row.{Row}
use Rattle.stage.specs.Model.{exc, lab, come, gone}
use Rattle.plant.specs.Held.{residual, other}

-- a sound line with a flow between its limits
pub record SoundArc (n : ℕ) (l : Arc) : Type 0 where
  pub sound : SoundLine n l.line
  pub above : low_of l.line ≤ l.flow
  pub below : l.flow ≤ high_of l.line

-- valid labels at one line: no residual leads more than one down
pub record Valid (h : ℕ → ℕ) (l : Arc) : Type 0 where
  pub on : l.flow < high_of l.line → h l.line.from ≤ h l.line.to + 1
  pub back : low_of l.line < l.flow → h l.line.to ≤ h l.line.from + 1

-- no residual leads out of X by the line
pub record Tight (X : Junctions) (l : Arc) : Type 0 where
  pub out : X l.line.from ≡ true → X l.line.to ≡ false → l.flow ≡ high_of l.line
  pub back : X l.line.to ≡ true → X l.line.from ≡ false → l.flow ≡ low_of l.line

-- a balanced flow: sound, and as much comes into each junction but s and t as goes out
pub record Balanced (n s t : ℕ) (ls : List Arc) : Type 0 where
  pub lines : AllByRecursion (SoundArc n) ls
  pub even : (u : ℕ) → u < n → u ≢ s → u ≢ t → come ls u ≡ gone ls u

-- sound lines, and valid labels with the start at n and the goal at 0
pub record Standing (n s t : ℕ) (ls : List Arc) (rs : List Row) : Type 0 where
  pub lines : AllByRecursion (SoundArc n) ls
  pub size : length rs ≡ n
  pub start_in : s < n
  pub goal_in : t < n
  pub start_label : lab rs s ≡ n
  pub goal_label : lab rs t ≡ 0
  pub valid : AllByRecursion (Valid (lab rs)) ls

-- what holds between two discharges; ms is a balanced flow of the same lines
pub record Holds (n s t : ℕ) (ms ls : List Arc) (rs : List Row) : Type 0 where
  pub standing : Standing n s t ls rs
  pub balanced : Balanced n s t ms
  pub alike : lines_of ls ≡ lines_of ms
  pub truth : (u : ℕ) → u < n → exc rs u +ℤ pos (gone ls u) ≡ pos (come ls u)
  pub off : (u : ℕ) → u < n → u ≢ s → u ≢ t → pos 0 ≤ℤ exc rs u
  pub roof : (u : ℕ) → u < n → lab rs u < 2 * n

-- an active junction, in words
pub record Active (n s t : ℕ) (rs : List Row) (v : ℕ) : Type 0 where
  pub inside : v < n
  pub no_start : v ≢ s
  pub no_goal : v ≢ t
  pub some : 0 < up (exc rs v)

-- every excess lies between -b and b
abbrev pub Bounded : ℕ → List Row → Type 0
Bounded b rs = (u : ℕ) → (neg_ℤ (pos b) ≤ℤ exc rs u) × (exc rs u ≤ℤ pos b)

-- a path of residuals
pub data Reach (ls : List Arc) (v : ℕ) : ℕ → Type 0 where
  here : Reach ls v v
  on : {w x : ℕ} → Reach ls v w → (l : Arc) → ContainsAt ls l → 0 < residual w l → x ≡ other w l → Reach ls v x
