-- Small plants, as a caller hands them over.
use Rattle.std.specs.Prelude.{ℕ, List, [], ◌∷◌, replicate, Vec}
use Rattle.law.specs.declared.script.Given.{Given}
use Rattle.planner.specs.declared.answer.Tally.{Tally}
use Rattle.plant.specs.declared.line.Line.{Line}
use Rattle.std.specs.declared.alloc.Global.{Global}

-- lines and line numbers as a caller holds them
abbrev pub Lines : Type 0
Lines = Vec Line Global

abbrev pub Numbers : Type 0
Numbers = Vec ℕ Global

abbrev pub given : ℕ → Lines → ℕ → Given
given n v aim = record { n = n; lines = v; aim = aim }

-- plant D: 0 → 2 → 1, three litres on each line
abbrev pub D_lines : List Line
D_lines = record { from = 0; to = 2; low = 0; high = 3 } ∷ record { from = 2; to = 1; low = 0; high = 3 } ∷ []

-- plant H: the second line needs more than the first can bring
abbrev pub H_lines : List Line
H_lines = record { from = 0; to = 2; low = 0; high = 2 } ∷ record { from = 2; to = 1; low = 3; high = 5 } ∷ []

-- plant B: one line from the header to the tank
abbrev pub B_lines : List Line
B_lines = record { from = 0; to = 1; low = 4; high = 9 } ∷ []

-- the bytes of a set of junctions below 8, from the sum of their values
abbrev pub bytes : ℕ → List ℕ
bytes b = b ∷ replicate 31 0

abbrev pub tally : ℕ → ℕ → Tally
tally r d = record { relabels = r; discharges = d }
