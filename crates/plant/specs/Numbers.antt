-- The number of each test.
use Rattle.std.specs.Prelude.{ℕ}
use Rattle.plant.specs.declared.decline.Decline.{Decline}
use Rattle.plant.specs.declared.decline.Decline.TheVariants.{AimNumber, JunctionCount, LineCount, LineEnds, LineDirection, LineLimits, WorkNumber, LineNumber, BufferLength, TrialCount, NoCommand, FileEnds, FileGoesOn, NothingInWork, NothingSettled, NoFlow, NoHurdle}

-- the number that a declined call answers
abbrev pub number_of : Decline → ℕ
number_of AimNumber = 1
number_of JunctionCount = 2
number_of LineCount = 3
number_of LineEnds = 4
number_of LineDirection = 5
number_of LineLimits = 6
number_of WorkNumber = 7
number_of LineNumber = 8
number_of BufferLength = 9
number_of TrialCount = 10
number_of NoCommand = 11
number_of FileEnds = 12
number_of FileGoesOn = 13
number_of NothingInWork = 21
number_of NothingSettled = 22
number_of NoFlow = 23
number_of NoHurdle = 24
