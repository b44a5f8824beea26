-- What a walk over a graph marks.
use Rattle.std.specs.Prelude.{◌≡◌, ℕ, ◌<◌, Bool, true, false, cond, ◌||◌, List, length, Ok, Err, Result, nat_lt, slice_index_or}
use Rattle.plant.specs.declared.decline.Decline.{Decline}
use Rattle.plant.specs.declared.decline.Decline.TheVariants.{BufferLength}

-- a path of edges among the junctions below n leads from `from` to w; a junction below n reaches itself
pub data Reaches (edge : ℕ → ℕ → Bool) (n from : ℕ) : ℕ → Type 0 where
  here : from < n → Reaches edge n from from
  on : (v w : ℕ) → Reaches edge n from v → w < n → edge v w ≡ true → Reaches edge n from w

-- just what is reached is marked
abbrev pub Marks : (ℕ → ℕ → Bool) → ℕ → ℕ → List Bool → Type 0
Marks edge n from marks = (w : ℕ) → w < n → (slice_index_or marks w false ≡ true → Reaches edge n from w) × (Reaches edge n from w → slice_index_or marks w false ≡ true)

-- the answer of a walk: the marks, or a decline that changes nothing where marks or places are fewer than n
abbrev pub Searched : (ℕ → ℕ → Bool) → ℕ → ℕ → List Bool → ℕ → Result (Unit {0}) Decline → List Bool → Type 0
Searched edge n from before room r after =
    cond (nat_lt (length before) n || nat_lt room n) ((r ≡ Err BufferLength) × (after ≡ before)) ((r ≡ Ok tt) × Marks edge n from after)
