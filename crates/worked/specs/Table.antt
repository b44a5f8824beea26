-- The worked plants.
use Rattle.std.specs.Prelude.{ℕ, List, [], ◌∷◌, ℤ, pos, Some, Option}
use Rattle.plant.specs.declared.aim.Aim.{Aim}
use Rattle.plant.specs.declared.aim.Aim.TheVariants.{Greatest, Least}
use Rattle.plant.specs.declared.line.Line.{Line}
use Rattle.plant.specs.Plants.{Plant}
use Rattle.worked.specs.Rows.{Answer, flows, impossible, Row, Trial}

-- a line by its from, to, low and high
abbrev joined : ℕ → ℕ → ℕ → ℕ → Line
joined from to low high = record { from = from; to = to; low = low; high = high }

-- a plant by its number of junctions and its lines
abbrev plant : ℕ → List Line → Plant
plant junctions lines = record { junctions = junctions; lines = lines }

-- a trial by its line, low, high and total
abbrev trial : ℕ → ℕ → ℕ → Option ℤ → Trial
trial line low high total = record { line = line; low = low; high = high; total = total }

-- a row by its plant, aim, answer and trials
abbrev row : Plant → Aim → Answer → List Trial → Row
row plant aim answer trials = record { plant = plant; aim = aim; answer = answer; trials = trials }

-- header and tank without a line
abbrev pub bare : Plant
bare = plant 2 []

-- the same with a third junction
abbrev pub bare_three : Plant
bare_three = plant 3 []

-- one line from the header to the tank
abbrev pub single : Plant
single = plant 2 (joined 0 1 4 9 ∷ [])

-- two lines in series
abbrev pub series : Plant
series = plant 3 (joined 0 2 0 3 ∷ joined 2 1 0 3 ∷ [])

-- two ways from junction 2 to the tank
abbrev pub forked : Plant
forked = plant 4 (joined 0 2 2 6 ∷ joined 2 3 0 4 ∷ joined 3 1 1 5 ∷ joined 2 1 0 1 ∷ [])

-- two lines in series, of which the second wants more than the first can bring
abbrev pub starved : Plant
starved = plant 3 (joined 0 2 0 2 ∷ joined 2 1 3 5 ∷ [])

-- the answers: total, near and far, or hurdle and shortfall
abbrev pub table : List Row
table =
    row bare Greatest (flows (pos 0) (0 ∷ []) (0 ∷ [])) []
    ∷ row bare Least (flows (pos 0) (0 ∷ []) (0 ∷ [])) []
    ∷ row single Greatest (flows (pos 9) (0 ∷ []) (0 ∷ [])) []
    ∷ row single Least (flows (pos 4) (0 ∷ []) (0 ∷ [])) []
    ∷ row bare_three Greatest (flows (pos 0) (0 ∷ []) (0 ∷ 2 ∷ [])) []
    ∷ row bare_three Least (flows (pos 0) (0 ∷ []) (0 ∷ 2 ∷ [])) []
    ∷ row series Greatest (flows (pos 3) (0 ∷ []) (0 ∷ 2 ∷ [])) (trial 0 0 4 (Some (pos 3)) ∷ [])
    ∷ row forked Greatest (flows (pos 5) (0 ∷ 2 ∷ []) (0 ∷ 2 ∷ [])) (trial 1 0 5 (Some (pos 6)) ∷ trial 0 2 7 (Some (pos 5)) ∷ [])
    ∷ row forked Least (flows (pos 2) (0 ∷ []) (0 ∷ [])) (trial 0 1 6 (Some (pos 1)) ∷ [])
    ∷ row starved Greatest (impossible (0 ∷ 1 ∷ []) 1) (trial 0 0 3 (Some (pos 3)) ∷ [])
    ∷ []
