-- The network of stage one over a plant, and how its end is read.
use Rattle.std.specs.Prelude.{ℕ, zero, suc, ◌+◌, ◌-◌, Bool, true, cond, not, ◌&&◌, List, [], ◌∷◌, ◌++◌, map, ◌==◌, nat_lt}
use borrow.Author.Differences.{up, down}
use Rattle.plant.specs.declared.line.Line.{Line}
use Rattle.plant.specs.Held.{Arc}
use Rattle.plant.specs.Plants.{Plant, every, high_of, limited, low_of, summed, surplus}

-- a plant's line in stage one: low 0, and what lies between low and high
abbrev pub shifted : Line → Line
shifted l = limited l 0 (high_of l - low_of l)

-- an added line has low 0
abbrev pub added_line : ℕ → ℕ → ℕ → Line
added_line from to high = record { from = from; to = to; low = 0; high = high }

-- the line tank → header, which can carry all highs
abbrev pub back_line : List Line → Line
back_line ls = added_line 1 0 (summed every high_of ls)

-- the line for junction v: from n for a surplus above zero, to n + 1 for one below zero, none for zero
abbrev pub surplus_line : ℕ → List Line → ℕ → List Line
surplus_line n ls v =
    cond (nat_lt 0 (up (surplus ls v))) (added_line n v (up (surplus ls v)) ∷ [])
    (cond (nat_lt 0 (down (surplus ls v))) (added_line v (n + 1) (down (surplus ls v)) ∷ []) [])

-- the lines for the junctions below v, by junction
abbrev pub surplus_lines : ℕ → List Line → ℕ → List Line
surplus_lines n ls zero = []
surplus_lines n ls (suc v) = surplus_lines n ls v ++ surplus_line n ls v

-- the lines of stage one: the plant's, tank → header, then by junction
abbrev pub first_lines : Plant → List Line
first_lines P = map shifted P.lines ++ (back_line P.lines ∷ surplus_lines P.junctions P.lines P.junctions)

-- all flows begin at 0
abbrev pub empty_arc : Line → Arc
empty_arc l = record { line = l; flow = 0 }

abbrev pub first_arcs : Plant → List Arc
first_arcs P = map empty_arc (first_lines P)

-- whether every line from n is full
abbrev pub filled : ℕ → List Arc → Bool
filled n [] = true
filled n (l ∷ ls) = not (l.line.from == n && nat_lt l.flow (high_of l.line)) && filled n ls

-- the plant's lines in stage two: their own limits, and the flow found with low added
abbrev pub second_arcs : List Line → List Arc → List Arc
second_arcs [] ls = []
second_arcs (l ∷ ls) [] = []
second_arcs (l ∷ ls) (a ∷ as') = record { line = l; flow = low_of l + a.flow } ∷ second_arcs ls as'
