-- What the calls of the chooser by order of arrival do.
use Rattle.std.specs.Prelude.{◌≡◌, ℕ, ◌<◌, ◌≤◌, Bool, true, false, List, [], ◌∷◌, ◌++◌, Some, None, Option, slice_index_or}
use Rattle.chooser.specs.declared.fifo.Fifo.{Fifo}
use Rattle.chooser.specs.Lists.{run}

-- whether `v` is a member
abbrev pub holds : Fifo → ℕ → Bool
holds c v = slice_index_or c.member v false

-- the members in order of arrival
abbrev pub arrivals : Fifo → List ℕ
arrivals c = run c.ring c.head c.count

-- nothing is left
abbrev pub Cleared : Fifo → Type 0
Cleared d = arrivals d ≡ []

-- a number below 252 that is no member comes last; any other changes nothing
abbrev pub Put : Fifo → ℕ → Fifo → Type 0
Put c v d =
    (v < 252 → holds c v ≡ false → arrivals d ≡ arrivals c ++ v ∷ [])
    × (holds c v ≡ true → d ≡ c)
    × (252 ≤ v → d ≡ c)

-- the first is taken
abbrev pub TakenFirst : Fifo → Option ℕ → Fifo → Type 0
TakenFirst c None d = (arrivals c ≡ []) × (d ≡ c)
TakenFirst c (Some v) d = arrivals c ≡ v ∷ arrivals d
