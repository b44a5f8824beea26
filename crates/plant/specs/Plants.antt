-- A plant, its feasible flows, its cuts and its hurdles.
use Rattle.std.specs.Prelude.{◌≡◌, ℕ, ◌+◌, ◌-◌, ◌<◌, ◌≤◌, Bool, true, false, cond, not, ◌&&◌, ◌≢◌, List, [], ◌∷◌, length, ℤ, pos, ◌-ℤ◌, ◌≤ℤ◌, ◌==◌, slice_index, slice_index_or, slice_set}
use Rattle.plant.specs.declared.aim.Aim.{Aim}
use Rattle.plant.specs.declared.aim.Aim.TheVariants.{Greatest, Least}
use Rattle.plant.specs.declared.line.Line.{Line}

-- junctions numbered from 0, and the lines between them; 0 is the header and 1 the tank
pub record Plant : Type 0 where
  pub junctions : ℕ
  pub lines : List Line

-- stands for a line where there is none
abbrev pub no_line : Line
no_line = record { from = 0; to = 0; low = 0; high = 0 }

-- line number k
abbrev pub line : Plant → ℕ → Line
line P k = slice_index_or P.lines k no_line

-- the smallest and the largest flow of a line
abbrev pub low_of : Line → ℕ
low_of l = l.low

abbrev pub high_of : Line → ℕ
high_of l = l.high

-- a line joins two different junctions below n, and its low is at most its high
pub record SoundLine (n : ℕ) (l : Line) : Type 0 where
  pub from_in : l.from < n
  pub to_in : l.to < n
  pub apart : l.from ≢ l.to
  pub ordered : low_of l ≤ high_of l

-- a plant has a header, a tank and sound lines (which may end at the header or leave the tank)
pub record Sound (P : Plant) : Type 0 where
  pub both : 1 < P.junctions
  pub each : (k : ℕ) → k < length P.lines → SoundLine P.junctions (line P k)

-- a flow: a number for each line
abbrev pub Flow : Type 0
Flow = List ℕ

-- the number of line k
abbrev pub at : Flow → ℕ → ℕ
at f k = slice_index f k

-- what f carries over the lines that p picks
abbrev pub carried : (Line → Bool) → List Line → Flow → ℕ
carried p [] f = 0
carried p (l ∷ ls) [] = 0
carried p (l ∷ ls) (x ∷ f) = cond (p l) x 0 + carried p ls f

-- the sum of a limit over the lines that p picks
abbrev pub summed : (Line → Bool) → (Line → ℕ) → List Line → ℕ
summed p g [] = 0
summed p g (l ∷ ls) = cond (p l) (g l) 0 + summed p g ls

-- picks every line, the lines that leave v, the lines that end there
abbrev pub every : Line → Bool
every l = true

abbrev pub leaves : ℕ → Line → Bool
leaves v l = l.from == v

abbrev pub ends : ℕ → Line → Bool
ends v l = l.to == v

-- what leaves a junction and what comes in
abbrev pub outflow : Plant → Flow → ℕ → ℕ
outflow P f v = carried (leaves v) P.lines f

abbrev pub inflow : Plant → Flow → ℕ → ℕ
inflow P f v = carried (ends v) P.lines f

-- each line has a number between its limits
pub record Within (P : Plant) (f : Flow) : Type 0 where
  pub each : length f ≡ length P.lines
  pub above : (k : ℕ) → k < length P.lines → low_of (line P k) ≤ at f k
  pub below : (k : ℕ) → k < length P.lines → at f k ≤ high_of (line P k)

-- feasible: within the limits, and at each junction but 0 and 1 as much comes in as goes out
pub record Feasible (P : Plant) (f : Flow) : Type 0 where
  pub within : Within P f
  pub kept : (v : ℕ) → v < P.junctions → v ≢ 0 → v ≢ 1 → inflow P f v ≡ outflow P f v

-- the total of a flow: what leaves the header less what enters it
abbrev pub list_total : List Line → Flow → ℤ
list_total ls f = pos (carried (leaves 0) ls f) -ℤ pos (carried (ends 0) ls f)

abbrev pub total : Plant → Flow → ℤ
total P f = list_total P.lines f

-- t is no better than b: at most as much under the greatest, at least as much under the least
abbrev pub NoBetter : Aim → ℤ → ℤ → Type 0
NoBetter Greatest t b = t ≤ℤ b
NoBetter Least t b = b ≤ℤ t

-- best: feasible, and no feasible flow has a better total
pub record Best (aim : Aim) (P : Plant) (f : Flow) : Type 0 where
  pub feasible : Feasible P f
  pub best : (g : Flow) → Feasible P g → NoBetter aim (total P g) (total P f)

-- a set of junctions, by its test
abbrev pub Junctions : Type 0
Junctions = ℕ → Bool

-- every member of S is one of R
abbrev pub Subset : Junctions → Junctions → Type 0
Subset S R = (v : ℕ) → S v ≡ true → R v ≡ true

-- whether a line crosses S forward (leads out), and whether it crosses backward (leads in)
abbrev pub leads_out : Junctions → Line → Bool
leads_out S l = S l.from && not (S l.to)

abbrev pub leads_in : Junctions → Line → Bool
leads_in S l = S l.to && not (S l.from)

-- a cut: a set of the plant's junctions with the header and without the tank
pub record Cut (P : Plant) (S : Junctions) : Type 0 where
  pub inside : (v : ℕ) → S v ≡ true → v < P.junctions
  pub header : S 0 ≡ true
  pub tank : S 1 ≡ false

-- the limit that a cut counts of a line that crosses forward: its high under the greatest, its low under the least
abbrev pub forward : Aim → Line → ℕ
forward Greatest l = high_of l
forward Least l = low_of l

-- and of a line that crosses backward: its low under the greatest, its high under the least
abbrev pub backward : Aim → Line → ℕ
backward Greatest l = low_of l
backward Least l = high_of l

-- the bound of a set: what it counts forward less what it counts backward
abbrev pub bound_over : Aim → List Line → Junctions → ℤ
bound_over aim ls S = pos (summed (leads_out S) (forward aim) ls) -ℤ pos (summed (leads_in S) (backward aim) ls)

abbrev pub bound : Aim → Plant → Junctions → ℤ
bound aim P S = bound_over aim P.lines S

-- a tightest cut: no cut has a smaller bound; under the least, none has a larger
pub record Tightest (aim : Aim) (P : Plant) (S : Junctions) : Type 0 where
  pub cut : Cut P S
  pub tight : (R : Junctions) → Cut P R → NoBetter aim (bound aim P S) (bound aim P R)

-- the near cut: the tightest one that is contained in all others
pub record NearCut (aim : Aim) (P : Plant) (N : Junctions) : Type 0 where
  pub tightest : Tightest aim P N
  pub smallest : (R : Junctions) → Tightest aim P R → Subset N R

-- the far cut: the tightest one that contains all others
pub record FarCut (aim : Aim) (P : Plant) (F : Junctions) : Type 0 where
  pub tightest : Tightest aim P F
  pub largest : (R : Junctions) → Tightest aim P R → Subset R F

-- the line leads from the near cut to beyond the far
abbrev pub Leads : Junctions → Junctions → Line → Type 0
Leads near far l = (near l.from ≡ true) × (far l.to ≡ false)

-- by how much the lows leading in exceed the highs leading out
abbrev pub shortfall_over : List Line → Junctions → ℕ
shortfall_over ls S = summed (leads_in S) low_of ls - summed (leads_out S) high_of ls

abbrev pub shortfall : Plant → Junctions → ℕ
shortfall P S = shortfall_over P.lines S

-- a hurdle: a set that does not hold the tank without the header, and has a shortfall
pub record Hurdle (P : Plant) (S : Junctions) : Type 0 where
  pub inside : (v : ℕ) → S v ≡ true → v < P.junctions
  pub tank : S 1 ≡ true → S 0 ≡ true
  pub short : summed (leads_out S) high_of P.lines < summed (leads_in S) low_of P.lines

-- the smallest hurdle of largest shortfall
pub record WorstHurdle (P : Plant) (S : Junctions) : Type 0 where
  pub hurdle : Hurdle P S
  pub largest : (R : Junctions) → Hurdle P R → shortfall P R ≤ shortfall P S
  pub smallest : (R : Junctions) → Hurdle P R → shortfall P R ≡ shortfall P S → Subset S R

-- a residual from v to w: a line v → w below its high, or a line w → v above its low
pub data Residual (P : Plant) (f : Flow) (v w : ℕ) : Type 0 where
  more : (k : ℕ) → k < length P.lines → (line P k).from ≡ v → (line P k).to ≡ w → at f k < high_of (line P k) → Residual P f v w
  less : (k : ℕ) → k < length P.lines → (line P k).to ≡ v → (line P k).from ≡ w → low_of (line P k) < at f k → Residual P f v w

-- under the least every residual is read reversed
abbrev pub Step : Aim → Plant → Flow → ℕ → ℕ → Type 0
Step Greatest P f v w = Residual P f v w
Step Least P f v w = Residual P f w v

-- a path of steps leads from v to w; v reaches itself
pub data Reaches (E : ℕ → ℕ → Type 0) (v : ℕ) : ℕ → Type 0 where
  here : Reaches E v v
  on : {u w : ℕ} → Reaches E v u → E u w → Reaches E v w

-- N is what residuals reach from the header
pub record Reached (aim : Aim) (P : Plant) (f : Flow) (N : Junctions) : Type 0 where
  pub below : (v : ℕ) → N v ≡ true → v < P.junctions
  pub inside : (v : ℕ) → N v ≡ true → Reaches (Step aim P f) 0 v
  pub outside : (v : ℕ) → v < P.junctions → N v ≡ false → Reaches (Step aim P f) 0 v → ⊥

-- F is all from which residuals do not reach the tank
pub record Unreaching (aim : Aim) (P : Plant) (f : Flow) (F : Junctions) : Type 0 where
  pub below : (v : ℕ) → F v ≡ true → v < P.junctions
  pub inside : (v : ℕ) → F v ≡ true → Reaches (Step aim P f) v 1 → ⊥
  pub outside : (v : ℕ) → v < P.junctions → F v ≡ false → Reaches (Step aim P f) v 1

-- a line with other limits, and the plant with that line in the place of line k
abbrev pub limited : Line → ℕ → ℕ → Line
limited l low high = record { from = l.from; to = l.to; low = low; high = high }

abbrev pub with_line : Plant → ℕ → Line → Plant
with_line P k l = record { junctions = P.junctions; lines = slice_set P.lines k l }

abbrev pub with_limits : Plant → ℕ → ℕ → ℕ → Plant
with_limits P k low high = with_line P k (limited (line P k) low high)

-- a wider limit: a larger high under the greatest, a smaller low under the least
abbrev pub Wider : Aim → Line → ℕ → Type 0
Wider Greatest l x = high_of l < x
Wider Least l x = x < low_of l

-- the plant with that limit on line k
abbrev pub widened : Aim → Plant → ℕ → ℕ → Plant
widened Greatest P k x = with_limits P k (low_of (line P k)) x
widened Least P k x = with_limits P k x (high_of (line P k))

-- the numbers of the lines that lead out of S, in rising order, where the first line has number k
abbrev pub crossing : Junctions → ℕ → List Line → List ℕ
crossing S k [] = []
crossing S k (l ∷ ls) = cond (leads_out S l) (k ∷ crossing S (k + 1) ls) (crossing S (k + 1) ls)

-- the lows into v less the lows out of it
abbrev pub surplus : List Line → ℕ → ℤ
surplus ls v = pos (summed (ends v) low_of ls) -ℤ pos (summed (leaves v) low_of ls)
