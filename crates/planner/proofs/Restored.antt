-- A line whose own limits are put back.
use Rattle.std.proofs.Common.{◌≡◌, ℕ, ◌<◌, List, length, get_or}
use Rattle.std.proofs.lemmas.List.{set-set, set-get_or, get_or-set_same}
use Rattle.plant.specs.declared.line.Line.{Line}
use Rattle.plant.specs.Plants.{no_line}
use Rattle.planner.specs.Limits.{limited}

-- the list is what it was
limited_back : (ls : List Line) (k low high : ℕ) → k < length ls → limited (limited ls k low high) k (get_or ls k no_line).low (get_or ls k no_line).high ≡ ls
unfolding limited
limited_back ls k low high h = rw (get_or-set_same, set-set) (set-get_or ls k no_line)

pub restored : (ls ms : List Line) (k at low high : ℕ) → at ≡ k → k < length ls → ms ≡ limited ls k low high → limited ms k (get_or ls at no_line).low (get_or ls at no_line).high ≡ ls
restored ls ms k at low high ek h e = rw (e, ek) (limited_back ls k low high h)
