-- What the calls of the chooser by highest label do.
use Rattle.std.specs.Prelude.{◌≡◌, ℕ, ◌<◌, ◌≤◌, Bool, true, false, List, [], ◌∷◌, ◌++◌, Some, None, Option, ◌≢◌, slice_index}
use Rattle.chooser.specs.declared.highest.HighestLabel.{HighestLabel}
use Rattle.chooser.specs.Arrivals as arrived
use Rattle.chooser.specs.Lists.{times}

-- whether `v` is a member
abbrev pub holds : HighestLabel → ℕ → Bool
holds c v = arrived.holds c.arrived v

-- the members in order of arrival
abbrev pub arrivals : HighestLabel → List ℕ
arrivals c = c.arrived.order.items

-- the label that `v` was put with
abbrev pub label_of : HighestLabel → ℕ → ℕ
label_of c v = slice_index c.labels v

-- nothing is left
abbrev pub Cleared : HighestLabel → Type 0
Cleared d = arrivals d ≡ []

-- `v` comes last, with its label; the other labels stay
pub record Came (c : HighestLabel) (v l : ℕ) (d : HighestLabel) : Type 0 where
  pub last : arrivals d ≡ arrivals c ++ v ∷ []
  pub label : label_of d v ≡ l
  pub others : (u : ℕ) → (u ≢ v) → label_of d u ≡ label_of c u

-- a number below 252 that is no member comes last; any other changes nothing
abbrev pub Put : HighestLabel → ℕ → ℕ → HighestLabel → Type 0
Put c v l d =
    (v < 252 → holds c v ≡ false → Came c v l d)
    × (holds c v ≡ true → d ≡ c)
    × (252 ≤ v → d ≡ c)

-- `v` has the highest label, is the first to have it, and is left out; all else stays
pub record Picked (c : HighestLabel) (v : ℕ) (d : HighestLabel) : Type 0 where
  pub earlier : List ℕ
  pub later : List ℕ
  pub split : arrivals c ≡ earlier ++ v ∷ later
  pub left : arrivals d ≡ earlier ++ later
  pub highest : (u : ℕ) → holds c u ≡ true → label_of c u ≤ label_of c v
  pub first : (u : ℕ) → 0 < times u earlier → label_of c u < label_of c v
  pub labels : (u : ℕ) → label_of d u ≡ label_of c u

-- the earliest of highest label is taken
abbrev pub TakenHighest : HighestLabel → Option ℕ → HighestLabel → Type 0
TakenHighest c None d = (arrivals c ≡ []) × (d ≡ c)
TakenHighest c (Some v) d = Picked c v d
