-- How tallies grow.
use Rattle.std.specs.Prelude.{ℕ, ◌+◌}
use Rattle.planner.specs.declared.answer.Tally.{Tally}

-- nothing done yet
abbrev pub no_tally : Tally
no_tally = record { relabels = 0; discharges = 0 }

-- m discharges more, r of them with a relabel
abbrev pub more : Tally → ℕ → ℕ → Tally
more t m r = record { relabels = t.relabels + r; discharges = t.discharges + m }
