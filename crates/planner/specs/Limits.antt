-- A list with other limits on one line.
use Rattle.std.specs.Prelude.{ℕ, List, slice_index_or, slice_set}
use Rattle.plant.specs.declared.line.Line.{Line}
use Rattle.plant.specs.Plants as plants

-- the list with the limits low and high on line k
unfoldable pub limited : List Line → ℕ → ℕ → ℕ → List Line
limited ls k low high = slice_set ls k (plants.limited (slice_index_or ls k plants.no_line) low high)
