-- How the end of stage one over a plant is read.
use Rattle.std.specs.Prelude.{◌≡◌, ℕ, zero, suc, ◌+◌, ◌*◌, ◌<◌, ◌≤◌, true, false, cond, ◌↔◌, List, length, ◌==◌}
use Rattle.std.specs.List.{AllByRecursion}
use Rattle.plant.specs.declared.line.Line.{Line}
use Rattle.plant.specs.Plants.{Plant, Flow, Junctions, Sound, Feasible, WorstHurdle, summed, every, leaves, ends, low_of, high_of}
use Rattle.plant.specs.Held.{Arc, lines_of, flows_of}
use Rattle.cuts.specs.Theorems.{Outward}
use Rattle.stage.specs.declared.Row.{Row}
use Rattle.stage.specs.States.{SoundArc, Balanced, Reach}
use Rattle.stage.specs.Laws.{Ended}
use Rattle.stage.specs.First.{first_lines, first_arcs, filled, second_arcs}

-- how many junctions below n have lows in other than lows out
abbrev pub uneven : List Line → ℕ → ℕ
uneven ls zero = 0
uneven ls (suc v) = uneven ls v + cond (summed (ends v) low_of ls == summed (leaves v) low_of ls) 0 1

-- a balanced flow of stage one's lines
pub record FirstFlow (P : Plant) (ls : List Arc) : Type 0 where
  pub balanced : Balanced (P.junctions + 2) P.junctions (P.junctions + 1) ls
  pub lines : lines_of ls ≡ first_lines P

-- stage one has ended
pub record FirstEnded (P : Plant) (ms ls : List Arc) (rs : List Row) : Type 0 where
  pub ended : Ended (P.junctions + 2) P.junctions (P.junctions + 1) ms ls rs
  pub lines : lines_of ls ≡ first_lines P

-- H is what residuals reach from n, without n
pub record ReachedFirst (n : ℕ) (ls : List Arc) (H : Junctions) : Type 0 where
  pub below : (v : ℕ) → H v ≡ true → v < n
  pub inside : (v : ℕ) → H v ≡ true → Reach ls n v
  pub outside : (v : ℕ) → v < n → H v ≡ false → Reach ls n v → ⊥

-- Over a sound plant the empty flow of stage one is balanced, so that the stage may begin.
abbrev pub FirstBegins : Type 0
FirstBegins = (P : Plant) → Sound P → FirstFlow P (first_arcs P)

-- how many lines stage one has, and how large its highs are
pub record FirstSize (P : Plant) : Type 0 where
  pub count : length (first_lines P) ≡ length P.lines + 1 + uneven P.lines P.junctions
  pub few : uneven P.lines P.junctions ≤ P.junctions
  pub each : AllByRecursion (λ l. high_of l ≤ summed every high_of P.lines) (first_lines P)
  pub sum : summed every high_of (first_lines P) ≤ 3 * summed every high_of P.lines

-- Stage one has a line for each line of the plant, one back, and one for each uneven junction, and no high is beyond the sum of the plant's.
abbrev pub FirstCount : Type 0
FirstCount = (P : Plant) → Sound P → FirstSize P

-- the plant's lines with the flow found, low added
pub record SecondArcs (P : Plant) (ls : List Arc) : Type 0 where
  pub lines : lines_of (second_arcs P.lines ls) ≡ P.lines
  pub limits : AllByRecursion (SoundArc P.junctions) (second_arcs P.lines ls)
  pub feasible : filled P.junctions ls ≡ true → Feasible P (flows_of (second_arcs P.lines ls))

-- A balanced flow of stage one gives numbers within the plant's limits, and where every line from n is full they are feasible.
abbrev pub FirstFeasible : Type 0
FirstFeasible = (P : Plant) (ls : List Arc) → Sound P → FirstFlow P ls → SecondArcs P ls

-- There stage two may begin, either way.
abbrev pub SecondBegins : Type 0
SecondBegins = (P : Plant) (ls : List Arc) → Sound P → FirstFlow P ls → filled P.junctions ls ≡ true →
    Balanced P.junctions 0 1 (second_arcs P.lines ls) × Balanced P.junctions 1 0 (second_arcs P.lines ls)

-- what blocks the plant
pub record Blocked (P : Plant) (ls : List Arc) : Type 0 where
  pub none : Outward P → (f : Flow) → Feasible P f → ⊥
  pub worst : (H : Junctions) → ReachedFirst P.junctions ls H → WorstHurdle P H

-- Where stage one has ended and a line from n is not full, no flow is feasible if no line ends at the header, and what residuals reach from n is the smallest hurdle of largest shortfall.
abbrev pub FirstBlocked : Type 0
FirstBlocked = (P : Plant) (ms ls : List Arc) (rs : List Row) → Sound P → FirstEnded P ms ls rs → filled P.junctions ls ≡ false → Blocked P ls

-- Where no line ends at the header, stage one ends with every line from n full exactly if a flow is feasible.
abbrev pub FirstExactly : Type 0
FirstExactly = (P : Plant) (ms ls : List Arc) (rs : List Row) → Sound P → Outward P → FirstEnded P ms ls rs →
    filled P.junctions ls ≡ true ↔ ((f : Flow) × Feasible P f)
