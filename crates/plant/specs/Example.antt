-- A small plant, worked out: 0 → 2 → 1, and a line 2 → 0 back into the header.
use Rattle.std.specs.Prelude.{◌≡◌, ◌||◌, [], ◌∷◌, pos, negsuc, ◌==◌}
use Rattle.plant.specs.declared.aim.Aim.TheVariants.{Greatest, Least}
use Rattle.plant.specs.Plants.{bound, Feasible, Flow, Junctions, Leads, line, Plant, Sound, total}

abbrev pub small : Plant
small = record {
  junctions = 3;
  lines = record { from = 0; to = 2; low = 0; high = 3 } ∷ record { from = 2; to = 1; low = 0; high = 2 } ∷ record { from = 2; to = 0; low = 1; high = 2 } ∷ [];
}

abbrev pub full : Flow
full = 3 ∷ 2 ∷ 1 ∷ []

abbrev pub near : Junctions
near v = v == 0

abbrev pub far : Junctions
far v = v == 0 || v == 2

-- the flow stands at limits and is feasible; its total and both bounds count the line back; line 0 does not lead from near to beyond far
abbrev pub Worked : Type 0
Worked =
    Sound small
    × Feasible small full
    × (total small full ≡ pos 2)
    × (bound Greatest small near ≡ pos 2)
    × (bound Greatest small far ≡ pos 2)
    × (bound Least small near ≡ negsuc 1)
    × (Leads near far (line small 0) → ⊥)
