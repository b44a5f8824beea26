-- The sets that are read off residuals.
use Rattle.std.specs.Prelude.{◌≡◌, ℕ, ◌+◌, ◌<◌, Bool, true, false, List}
use Rattle.plant.specs.declared.aim.Aim.{Aim}
use Rattle.plant.specs.declared.aim.Aim.TheVariants.{Greatest, Least}
use Rattle.plant.specs.Held.{Arc}
use Rattle.plant.specs.Plants.{FarCut, Junctions, NearCut, Plant}
use Rattle.reach.specs.Drawn.{residual_edge, turned}
use Rattle.reach.specs.Marking.{Reaches}
use Rattle.planner.specs.declared.answer.Side.{Side}
use Rattle.planner.specs.declared.answer.Side.TheVariants.{Near, Far}

-- the residuals as the aim reads them: under the least reversed
abbrev pub edges : Aim → List Arc → ℕ → ℕ → Bool
edges Greatest as' = residual_edge as'
edges Least as' = turned (residual_edge as')

-- S has just the junctions below m that are reached from one over junctions below n
abbrev pub Found : (ℕ → ℕ → Bool) → ℕ → ℕ → ℕ → Junctions → Type 0
Found edge n from m S = (v : ℕ) → (S v ≡ true → (v < m) × Reaches edge n from v) × (v < m → Reaches edge n from v → S v ≡ true)

-- S has just the junctions below m that are not reached
abbrev pub Missed : (ℕ → ℕ → Bool) → ℕ → ℕ → ℕ → Junctions → Type 0
Missed edge n from m S = (v : ℕ) → (S v ≡ true → (v < m) × (Reaches edge n from v → ⊥)) × (v < m → S v ≡ false → Reaches edge n from v)

-- near: what the header reaches; far: all from which the tank is not reached
abbrev pub CutSet : Side → Aim → ℕ → List Arc → Junctions → Type 0
CutSet Near aim n as' S = Found (edges aim as') n 0 n S
CutSet Far aim n as' S = Missed (turned (edges aim as')) n 1 n S

-- the near cut is the smallest of the tightest, the far cut the largest
abbrev pub Extreme : Side → Aim → Plant → Junctions → Type 0
Extreme Near aim P S = NearCut aim P S
Extreme Far aim P S = FarCut aim P S

-- what the added junction n reaches, without the added junctions n and n + 1
abbrev pub HurdleSet : ℕ → List Arc → Junctions → Type 0
HurdleSet n as' S = Found (residual_edge as') (n + 2) n n S
