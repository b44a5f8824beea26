-- A set of junction numbers, as a test of each number.
use Rattle.std.specs.Prelude.{◌≡◌, ℕ, ◌<◌, ◌≤◌, Bool, true, false, Some, None, Option, ◌≢◌}

-- no number is a member
abbrev pub Empty : (ℕ → Bool) → Type 0
Empty s = (u : ℕ) → s u ≡ false

-- `t` is `s` but at `v`
abbrev pub Elsewhere : (ℕ → Bool) → ℕ → (ℕ → Bool) → Type 0
Elsewhere s v t = (u : ℕ) → (u ≢ v) → t u ≡ s u

-- `t` is `s` with `v` added, where `v` is below 252
abbrev pub Added : (ℕ → Bool) → ℕ → (ℕ → Bool) → Type 0
Added s v t = (v < 252 → t v ≡ true) × (252 ≤ v → t v ≡ s v) × Elsewhere s v t

-- what one taking answers, and what it leaves
abbrev pub Taken : (ℕ → Bool) → Option ℕ → (ℕ → Bool) → Type 0
Taken s None t = Empty s × Empty t
Taken s (Some v) t = (s v ≡ true) × (t v ≡ false) × Elsewhere s v t
