-- The dry junctions of a list, and the answer of a call that asks for them.
use Rattle.std.specs.Prelude.{◌≡◌, ℕ, ◌<◌, true, ◌||◌, ◌≢◌, List, ◌++◌, drop, Some, None, Ok, Err, Option, Result, nat_lt}
use Rattle.plant.specs.declared.decline.Decline.{Decline}
use Rattle.plant.specs.declared.decline.Decline.TheVariants.{BufferLength}
use Rattle.plant.specs.declared.line.Line.{Line}
use Rattle.plant.specs.Plants.{Junctions}
use Rattle.plant.specs.Tests.{test, test_list}
use Rattle.reach.specs.Drawn.{drawn}
use Rattle.reach.specs.Marking.{Reaches}
use Rattle.reach.specs.Sets.{set_bytes, size}

-- below n, not the header, and no chain of lines leads there from the header
abbrev pub Dry : ℕ → List Line → ℕ → Type 0
Dry n ls v = (v < n) × (v ≢ 0) × (Reaches (drawn ls) n 0 v → ⊥)

-- D is the set of the dry junctions
abbrev pub DrySet : ℕ → List Line → Junctions → Type 0
DrySet n ls D = (v : ℕ) → (D v ≡ true → Dry n ls v) × (Dry n ls v → D v ≡ true)

-- the first of two tests that fails
abbrev pub first_of : Option Decline → Option Decline → Option Decline
first_of (Some d) next = Some d
first_of None next = next

-- the tests of the list, then fewer than n places or fewer than 32 bytes
abbrev pub test_dry : ℕ → List Line → ℕ → ℕ → Option Decline
test_dry n ls places bytes = first_of (test_list n ls None) (test BufferLength (nat_lt places n || nat_lt bytes 32) None)

-- what the places and the bytes hold
pub record Lent : Type 0 where
  pub places : List ℕ
  pub bytes : List ℕ

-- a failed test changes nothing; else the dry junctions stand in the first 32 bytes, and the answer is their number
abbrev pub Dried : ℕ → List Line → Lent → Lent → Result ℕ Decline → Option Decline → Type 0
Dried n ls before after r (Some d) = (r ≡ Err d) × (after ≡ before)
Dried n ls before after r None =
    (D : Junctions) × DrySet n ls D × (r ≡ Ok (size D n)) × (after.bytes ≡ set_bytes D ++ drop 32 before.bytes)
