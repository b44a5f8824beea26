-- What the tests leave of a line.
use Rattle.std.specs.Prelude.{◌≡◌, ℕ, ◌<◌, ◌≤◌, ◌≢◌}
use Rattle.plant.specs.declared.line.Line.{Line}

-- two different junctions below n, low at most high, high at most 1,000,000
abbrev pub Fine : ℕ → Line → Type 0
Fine n l = (l.from < n) × (l.to < n) × (l.from ≢ l.to) × (l.low ≤ l.high) × (l.high ≤ 1000000)

-- the line does not end at the header
abbrev pub Outward : Line → Type 0
Outward l = l.to ≡ 0 → ⊥
