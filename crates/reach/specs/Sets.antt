-- Sets of junctions in bytes: junction v at byte v div 8, value 2 to the power v mod 8.
use Rattle.std.specs.Prelude.{ℕ, zero, suc, ◌+◌, ◌*◌, ◌/◌, ◌%◌, ◌^◌, Bool, cond, List, [], ◌∷◌, ◌++◌, ◌==◌, slice_index}
use Rattle.plant.specs.Plants.{Junctions}

-- the digit of value 2 to the power k is 1
unfoldable pub bit : ℕ → ℕ → Bool
bit x k = x / 2 ^ k % 2 == 1

-- v is a member of the set in these bytes
unfoldable pub member : List ℕ → Junctions
member bytes v = bit (slice_index bytes (v / 8)) (v % 8)

-- how many junctions below n are in S
unfoldable pub size : Junctions → ℕ → ℕ
size S zero = 0
size S (suc v) = cond (S v) 1 0 + size S v

-- the members of S below n in rising order
unfoldable pub members_below : Junctions → ℕ → List ℕ
members_below S zero = []
members_below S (suc v) = members_below S v ++ cond (S v) (v ∷ []) []

-- the bits of the w junctions from v on: the first counts 1, each next one twice as much
unfoldable pub bits_from : Junctions → ℕ → ℕ → ℕ
bits_from S v zero = 0
bits_from S v (suc w) = cond (S v) 1 0 + 2 * bits_from S (v + 1) w

-- the bytes of the 8 * w junctions from v on
unfoldable pub bytes_from : Junctions → ℕ → ℕ → List ℕ
bytes_from S v zero = []
bytes_from S v (suc w) = bits_from S v 8 ∷ bytes_from S (v + 8) w

-- a set as 32 bytes
unfoldable pub set_bytes : Junctions → List ℕ
set_bytes S = bytes_from S 0 32
