-- Sets of junctions below 252, by their tests, and how a chooser changes them.
use Rattle.std.specs.Prelude.{◌≡◌, ℕ, ◌<◌, ◌≤◌, true, false, Some, None, Option, ◌≢◌}
use Rattle.plant.specs.Plants.{Junctions}

-- no junction is a member
abbrev pub Empty : Junctions → Type 0
Empty S = (u : ℕ) → S u ≡ false

-- R is S but at v
abbrev pub Elsewhere : Junctions → ℕ → Junctions → Type 0
Elsewhere S v R = (u : ℕ) → (u ≢ v) → R u ≡ S u

-- R is S with v added, if v is below 252
abbrev pub Added : Junctions → ℕ → Junctions → Type 0
Added S v R = (v < 252 → R v ≡ true) × (252 ≤ v → R v ≡ S v) × Elsewhere S v R

-- what one taking answers, and what it leaves
abbrev pub Taken : Junctions → Option ℕ → Junctions → Type 0
Taken S None R = Empty S × Empty R
Taken S (Some v) R = (S v ≡ true) × (R v ≡ false) × Elsewhere S v R
