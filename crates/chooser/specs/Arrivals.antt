-- The members of a chooser in order of arrival, and what its calls leave.
use Rattle.std.specs.Prelude.{◌≡◌, ℕ, ◌<◌, ◌≤◌, Bool, true, false, [], ◌∷◌, ◌++◌, length, remove, slice_index, slice_index_or}
use Rattle.chooser.specs.declared.arrived.Arrived.{Arrived}
use Rattle.chooser.specs.Sets.{Elsewhere}

-- whether `v` is a member
abbrev pub holds : Arrived → ℕ → Bool
holds c v = slice_index_or c.member v false

-- a number below 252 that is no member comes last; any other changes nothing
abbrev pub Put : Arrived → ℕ → Arrived → Type 0
Put c v d =
    (v < 252 → holds c v ≡ false → d.order.items ≡ c.order.items ++ v ∷ [])
    × (holds c v ≡ true → d ≡ c)
    × (252 ≤ v → d ≡ c)

-- the member `v` at the place `at` of the order is left out
pub record Left (c : Arrived) (at v : ℕ) (d : Arrived) : Type 0 where
  pub within : at < length c.order.items
  pub stood : slice_index c.order.items at ≡ v
  pub order : d.order.items ≡ remove c.order.items at
  pub was : holds c v ≡ true
  pub gone : holds d v ≡ false
  pub others : Elsewhere (holds c) v (holds d)
