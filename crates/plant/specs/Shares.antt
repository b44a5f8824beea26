-- What one line adds to a sum.
use Rattle.std.specs.Prelude.{◌≡◌, ℕ, ◌*◌, ◌^◌, cond, List, [], ◌∷◌, drop, ℤ, pos, ◌+ℤ◌, ◌-ℤ◌, neg_ℤ, ◌≤ℤ◌, ◌==◌}
use Rattle.plant.specs.declared.aim.Aim.{Aim}
use Rattle.plant.specs.declared.line.Line.{Line}
use Rattle.plant.specs.Held.{Arc}
use Rattle.plant.specs.Plants.{Junctions, backward, forward, leads_in, leads_out, low_of}

-- what a line adds to the bound of S
abbrev pub share : Aim → Junctions → Line → ℤ
share aim S l = pos (cond (leads_out S l) (forward aim l) 0) -ℤ pos (cond (leads_in S l) (backward aim l) 0)

-- to the surplus of v
abbrev pub at_junction : ℕ → Line → ℤ
at_junction v l = pos (cond (l.to == v) (low_of l) 0) -ℤ pos (cond (l.from == v) (low_of l) 0)

-- to the total
abbrev pub at_header : Arc → ℤ
at_header a = pos (cond (a.line.from == 0) a.flow 0) -ℤ pos (cond (a.line.to == 0) a.flow 0)

-- no more than 32 bits either way
abbrev pub Small : ℤ → Type 0
Small z = (neg_ℤ (pos (2 ^ 32)) ≤ℤ z) × (z ≤ℤ pos (2 ^ 32))

-- the sum of whole numbers over a list
abbrev pub added : {X : Type 0} → (X → ℤ) → List X → ℤ
added g [] = pos 0
added g (x ∷ xs) = g x +ℤ added g xs

-- what gives answers for an item can only be its number by g
abbrev pub Tells : {X : Type 0} → (X → ℤ → Type 0) → (X → ℤ) → Type 0
Tells gives g = (x : _) (z : ℤ) → gives x z → z ≡ g x

-- a loop that adds up what gives answers over xs stands before place i with this sum
pub record Adds {X : Type 0} (gives : X → ℤ → Type 0) (xs : List X) (i : ℕ) (sum : ℤ) : Type 0 where
  pub left : (g : X → ℤ) → Tells gives g → sum +ℤ added g (drop i xs) ≡ added g xs
  pub above : neg_ℤ (pos (4294967296 * i)) ≤ℤ sum
  pub below : sum ≤ℤ pos (4294967296 * i)
