-- The plant file that the writer makes of a plant.
use Rattle.std.specs.Prelude.{◌≡◌, ℕ, ◌/◌, ◌%◌, cond, List, [], ◌∷◌, ◌++◌, length, drop, Some, None, Ok, Err, Option, Result, nat_le, nat_lt}
use Rattle.std.specs.List.{flat_map}
use Rattle.plant.specs.Tests.{test, test_trial, tested, unless}
use Rattle.plant.specs.declared.aim.Aim.{Aim}
use Rattle.plant.specs.declared.aim.Aim.TheVariants.{Greatest, Least}
use Rattle.plant.specs.declared.decline.Decline.{Decline}
use Rattle.plant.specs.declared.decline.Decline.TheVariants.{BufferLength, TrialCount}
use Rattle.plant.specs.declared.line.Line.{Line}
use Rattle.plantfile.specs.declared.reader.Command.{Command}
use Rattle.plantfile.specs.declared.reader.Command.TheVariants.{Draw, Try, End}
use Rattle.plant.specs.declared.line.Trial.{Trial}
use Rattle.plantfile.specs.Format.{Content}

-- highest byte first
abbrev pub two : ℕ → List ℕ
two x = (x / 256 % 256) ∷ (x % 256) ∷ []

abbrev pub four : ℕ → List ℕ
four x = (x / 16777216 % 256) ∷ (x / 65536 % 256) ∷ (x / 256 % 256) ∷ (x % 256) ∷ []

-- L, T and the aim
abbrev pub line_bytes : Line → List ℕ
line_bytes l = (76 ∷ l.from ∷ l.to ∷ []) ++ (four l.low ++ four l.high)

abbrev pub trial_bytes : Trial → List ℕ
trial_bytes t = (84 ∷ []) ++ (two t.line ++ (four t.low ++ four t.high))

abbrev pub aim_byte : Aim → ℕ
aim_byte Greatest = 71
aim_byte Least = 77

-- what the writer makes of a command
abbrev pub command_bytes : Command → List ℕ
command_bytes (Draw l) = line_bytes l
command_bytes (Try t) = trial_bytes t
command_bytes (End a) = aim_byte a ∷ []

-- N, all L, all T, the aim
abbrev pub encoded : Content → List ℕ
encoded c = (78 ∷ c.junctions ∷ []) ++ (flat_map line_bytes c.lines ++ (flat_map trial_bytes c.trials ++ aim_byte c.aim ∷ []))

-- the first of two tests that fails
abbrev pub then_test : Option Decline → Option Decline → Option Decline
then_test None on = on
then_test (Some d) on = Some d

-- 8, then 6, trial by trial, on a list of m lines
abbrev pub test_each : ℕ → List Trial → Option Decline
test_each m [] = None
test_each m (t ∷ ts) = then_test (test_trial m t.line t.low t.high) (test_each m ts)

-- 10, then each trial
abbrev pub test_trials : ℕ → List Trial → Option Decline
test_trials m ts = test TrialCount (nat_lt 64 (length ts)) (test_each m ts)

-- the bytes of a plant with trials, or the first test that fails: those of the plant, then those of the trials
abbrev pub written : ℕ → List Line → List Trial → ℕ → Result (List ℕ) Decline
written n ls ts a = elim (tested n ls a) [
  | Ok aim ↦ unless (test_trials (length ls) ts) (encoded (record { junctions = n; lines = ls; trials = ts; aim = aim }))
  | Err d ↦ Err d
]

-- the text stands at the buffer's beginning, and the bytes after it are as they were; a decline changes nothing, and 9 declines a buffer that is too short
abbrev pub Laid : Result (List ℕ) Decline → List ℕ → Result ℕ Decline → List ℕ → Type 0
Laid (Err d) before r after = (r ≡ Err d) × (after ≡ before)
Laid (Ok text) before r after = cond (nat_le (length text) (length before)) ((r ≡ Ok (length text)) × (after ≡ text ++ drop (length text) before)) ((r ≡ Err BufferLength) × (after ≡ before))
