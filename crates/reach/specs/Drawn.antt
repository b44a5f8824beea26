-- Graphs of lines, by their edges.
use Rattle.std.specs.Prelude.{ℕ, Bool, false, ◌&&◌, ◌||◌, List, [], ◌∷◌, ◌==◌, nat_lt, slice_index_or}
use Rattle.plant.specs.declared.line.Line.{Line}
use Rattle.plant.specs.Held.{Arc}
use Rattle.plant.specs.Plants.{high_of, low_of}

-- the mark in row v and column w of a table
abbrev pub tabled : List (List Bool) → ℕ → ℕ → Bool
tabled rows v w = slice_index_or (slice_index_or rows v []) w false

-- the graph read backward
abbrev pub turned : (ℕ → ℕ → Bool) → ℕ → ℕ → Bool
turned edge v w = edge w v

-- the test holds of some element
abbrev pub any : {X : Type 0} → (X → Bool) → List X → Bool
any f [] = false
any f (x ∷ xs) = f x || any f xs

-- a line leads from v to w
abbrev pub joins : Line → ℕ → ℕ → Bool
joins l v w = l.from == v && l.to == w

-- some line leads from v to w
abbrev pub drawn : List Line → ℕ → ℕ → Bool
drawn ls v w = any (λ l. joins l v w) ls

-- an arc from v to w is below its high
abbrev pub can_rise : Arc → ℕ → ℕ → Bool
can_rise a v w = joins a.line v w && nat_lt a.flow (high_of a.line)

-- an arc from w to v is above its low
abbrev pub can_fall : Arc → ℕ → ℕ → Bool
can_fall a v w = joins a.line w v && nat_lt (low_of a.line) a.flow

-- an arc has a residual from v to w
abbrev pub opens : Arc → ℕ → ℕ → Bool
opens a v w = can_rise a v w || can_fall a v w

-- some arc has a residual from v to w
abbrev pub residual_edge : List Arc → ℕ → ℕ → Bool
residual_edge as' v w = any (λ a. opens a v w) as'
