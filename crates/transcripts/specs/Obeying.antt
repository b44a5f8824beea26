-- Transcripts that obey the law: what a planner answered on the small plants.
use Rattle.std.specs.Prelude.{◌≡◌, [], ◌∷◌, pos}
use Rattle.law.specs.declared.script.Answer.TheVariants as told
use Rattle.law.specs.declared.script.Call.TheVariants.{Crossing, Cut, Flow, Hurdle, Start, Tallies, Total, Trial, Work}
use Rattle.law.specs.Law.{Law}
use Rattle.law.specs.Phases.{idle}
use Rattle.law.specs.Scripts.{Script}
use Rattle.planner.specs.declared.answer.Outcome.TheVariants as outcome
use Rattle.planner.specs.declared.answer.Side.TheVariants.{Far, Near}
use Rattle.plant.specs.declared.decline.Decline.TheVariants as bad
use Rattle.transcripts.specs.Plants.{B_lines, D_lines, H_lines, Lines, Numbers, bytes, given, tally}

-- plant D: the greatest total 3, near {0}, far {0, 2}; a wider line 0 leaves it 3
abbrev pub D_script : Lines → Numbers → Script
D_script v w =
    (Total, told.Declined bad.NothingSettled)
    ∷ (Start (given 3 v 1), told.Started)
    ∷ (Start (given 1 v 1), told.Declined bad.JunctionCount)
    ∷ (Work 1, told.Worked outcome.InWork 1)
    ∷ (Tallies, told.Tallies (tally 0 0) (tally 1 1))
    ∷ (Work 60000, told.Worked outcome.Flow 1)
    ∷ (Total, told.Total (pos 3))
    ∷ (Flow 0, told.Flow 3)
    ∷ (Flow 1, told.Flow 3)
    ∷ (Flow 2, told.Declined bad.LineNumber)
    ∷ (Cut Near 32, told.Cut (bytes 1) 1 (pos 3))
    ∷ (Cut Far 31, told.Declined bad.BufferLength)
    ∷ (Cut Far 32, told.Cut (bytes 5) 2 (pos 3))
    ∷ (Crossing Far 1, told.Crossing w)
    ∷ (Tallies, told.Tallies (tally 0 0) (tally 1 2))
    ∷ (Trial (given 3 v 1) (record { line = 0; low = 0; high = 4 }), told.Tried outcome.Flow)
    ∷ (Total, told.Total (pos 3))
    ∷ (Tallies, told.Tallies (tally 0 0) (tally 2 3))
    ∷ (Hurdle 32, told.Declined bad.NoHurdle)
    ∷ []

abbrev pub DObeys : Type 0
DObeys = (v : Lines) (w : Numbers) → v.items ≡ D_lines → w.items ≡ 1 ∷ [] → Law idle (D_script v w)

-- plant H: impossible, hurdle {0, 1}, shortfall 1; a wider line 0 makes it possible
abbrev pub H_script : Lines → Numbers → Script
H_script v w =
    (Start (given 3 v 1), told.Started)
    ∷ (Work 60000, told.Worked outcome.Impossible 17)
    ∷ (Total, told.Declined bad.NoFlow)
    ∷ (Hurdle 31, told.Declined bad.BufferLength)
    ∷ (Hurdle 32, told.Hurdle (bytes 3) 2 1)
    ∷ (Tallies, told.Tallies (tally 9 17) (tally 0 0))
    ∷ (Trial (given 3 v 1) (record { line = 0; low = 0; high = 3 }), told.Tried outcome.Flow)
    ∷ (Total, told.Total (pos 3))
    ∷ (Crossing Near 0, told.Declined bad.BufferLength)
    ∷ (Crossing Near 1, told.Crossing w)
    ∷ (Work 0, told.Declined bad.NothingInWork)
    ∷ []

abbrev pub HObeys : Type 0
HObeys = (v : Lines) (w : Numbers) → v.items ≡ H_lines → w.items ≡ 0 ∷ [] → Law idle (H_script v w)

-- plant B: the least total 4; a smaller low makes it 3
abbrev pub B_script : Lines → Script
B_script v =
    (Start (given 2 v 2), told.Started)
    ∷ (Work 1, told.Worked outcome.InWork 1)
    ∷ (Work 60000, told.Worked outcome.Flow 3)
    ∷ (Total, told.Total (pos 4))
    ∷ (Cut Far 32, told.Cut (bytes 1) 1 (pos 4))
    ∷ (Trial (given 2 v 2) (record { line = 0; low = 3; high = 9 }), told.Tried outcome.Flow)
    ∷ (Total, told.Total (pos 3))
    ∷ []

abbrev pub BObeys : Type 0
BObeys = (v : Lines) → v.items ≡ B_lines → Law idle (B_script v)
