-- Two small plants, worked out.
use Rattle.std.specs.Prelude.{◌≡◌, true, ◌||◌, [], ◌∷◌, pos, ◌==◌}
use Rattle.plant.specs.declared.aim.Aim.TheVariants.{Greatest, Least}
use Rattle.plant.specs.Plants.{Plant, Flow, Junctions, Sound, Feasible, Best, NearCut, FarCut, WorstHurdle, bound, total, line, leads_in, shortfall}

-- four junctions: 0 → 2 → 1 and 0 → 3 → 1, and a line 3 → 2 with a low
abbrev pub small : Plant
small = record {
  junctions = 4;
  lines =
      record { from = 0; to = 2; low = 0; high = 3 }
      ∷ record { from = 2; to = 1; low = 0; high = 2 }
      ∷ record { from = 0; to = 3; low = 0; high = 2 }
      ∷ record { from = 3; to = 1; low = 0; high = 1 }
      ∷ record { from = 3; to = 2; low = 1; high = 2 }
      ∷ [];
}

-- its greatest flow, with its near and its far cut
abbrev pub full : Flow
full = 1 ∷ 2 ∷ 2 ∷ 1 ∷ 1 ∷ []

abbrev pub near : Junctions
near v = v == 0 || v == 2

abbrev pub far : Junctions
far v = v == 0 || (v == 2 || v == 3)

-- its least flow, with its one tightest cut
abbrev pub scant : Flow
scant = 0 ∷ 1 ∷ 1 ∷ 0 ∷ 1 ∷ []

abbrev pub without_2 : Junctions
without_2 v = v == 0 || v == 3

-- line 4 leads backward over the near cut, and its low counts
abbrev pub Small : Type 0
Small =
    Sound small
    × Best Greatest small full
    × (total small full ≡ pos 3)
    × (leads_in near (line small 4) ≡ true)
    × (bound Greatest small near ≡ pos 3)
    × (bound Greatest small far ≡ pos 3)
    × NearCut Greatest small near
    × FarCut Greatest small far
    × Best Least small scant
    × (total small scant ≡ pos 1)
    × NearCut Least small without_2
    × FarCut Least small without_2

-- 0 → 2 carries at most 2, and 2 → 1 at least 3
abbrev pub blocked : Plant
blocked = record {
  junctions = 3;
  lines = record { from = 0; to = 2; low = 0; high = 2 } ∷ record { from = 2; to = 1; low = 3; high = 5 } ∷ [];
}

abbrev pub ends_only : Junctions
ends_only v = v == 0 || v == 1

-- no flow is feasible, and header and tank are the worst hurdle
abbrev pub Blocked : Type 0
Blocked = Sound blocked × ((f : Flow) → Feasible blocked f → ⊥) × WorstHurdle blocked ends_only × (shortfall blocked ends_only ≡ 1)
