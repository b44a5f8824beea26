-- How the code makes the lines of each stage.
use Rattle.std.specs.Prelude.{ℕ, ◌+◌, cond, List, [], ◌∷◌, ℤ, Some, None, Option, nat_lt}
use borrow.Author.Differences.{up, down}
use Rattle.plant.specs.declared.held.HeldLine.{HeldLine}
use Rattle.plant.specs.declared.line.Line.{Line}
use Rattle.plant.specs.Held.{Arc, arc}
use Rattle.stage.specs.First.{added_line}
use Rattle.stage.specs.Model.{State}
use Rattle.preflow.specs.declared.network.Network.{Network}
use Rattle.preflow.specs.Stages.{state_of}

-- the arc of a held line, if there is one
abbrev pub arc_if : Option HeldLine → List Arc
arc_if None = []
arc_if (Some h) = arc h ∷ []

-- the line for junction v with surplus z
abbrev pub line_for : ℕ → ℕ → ℤ → List Line
line_for n v z = cond (nat_lt 0 (up z)) (added_line n v (up z) ∷ []) (cond (nat_lt 0 (down z)) (added_line v (n + 1) (down z) ∷ []) [])

-- the state that a network holds
abbrev pub state_in : {C : Type 0} → Network C → State
state_in w = state_of w.lines.items w.rows.items
