-- Lists of junction numbers, and of flags.
use Rattle.std.specs.Prelude.{ℕ, zero, suc, ◌+◌, ◌%◌, Bool, true, false, cond, List, [], ◌∷◌, ◌==◌, slice_index, slice_index_or}

-- how often `v` stands in a list
abbrev pub times : ℕ → List ℕ → ℕ
times v [] = 0
times v (x ∷ xs) = cond (v == x) 1 0 + times v xs

-- 1 if the flag of `v` is set, else 0
abbrev pub flag : List Bool → ℕ → ℕ
flag bs v = cond (slice_index_or bs v false) 1 0

-- how many of a list of flags are set
abbrev pub ones : List Bool → ℕ
ones [] = 0
ones (true ∷ bs) = 1 + ones bs
ones (false ∷ bs) = ones bs

-- the `n` numbers of a ring of 252 places from the place `h` on
abbrev pub run : List ℕ → ℕ → ℕ → List ℕ
run ring h zero = []
run ring h (suc n) = slice_index ring (h % 252) ∷ run ring (h + 1) n
