-- The tests of what a caller hands over, in their order. `None` means that all tests passed.
use Rattle.std.specs.Prelude.{ℕ, Bool, cond, ◌||◌, List, [], ◌∷◌, length, Some, None, Ok, Err, Option, Result, ◌==◌, nat_le, nat_lt}
use Rattle.plant.specs.declared.aim.Aim.{Aim}
use Rattle.plant.specs.declared.aim.Aim.TheVariants.{Greatest, Least}
use Rattle.plant.specs.declared.decline.Decline.{Decline}
use Rattle.plant.specs.declared.decline.Decline.TheVariants.{AimNumber, JunctionCount, LineCount, LineEnds, LineDirection, LineLimits, LineNumber}
use Rattle.plant.specs.declared.line.Line.{Line}

-- 1 is the greatest, 2 the least
abbrev pub aim_numbered : ℕ → Option Aim
aim_numbered a = cond (a == 1) (Some Greatest) (cond (a == 2) (Some Least) None)

-- the aim of a number, or the decline of the test of the aim
abbrev pub numbered : ℕ → Result Aim Decline
numbered a = elim (aim_numbered a) [ Some aim ↦ Ok aim | None ↦ Err AimNumber ]

-- declines by d where the test fails, and else goes on
abbrev pub test : Decline → Bool → Option Decline → Option Decline
test d fails on = cond fails (Some d) on

-- 6: low above high, or high above 1,000,000
abbrev pub bad_limits : ℕ → ℕ → Bool
bad_limits low high = nat_lt high low || nat_lt 1000000 high

abbrev pub test_limits : ℕ → ℕ → Option Decline → Option Decline
test_limits low high on = test LineLimits (bad_limits low high) on

-- 4: an end not below n, or equal ends
abbrev pub bad_ends : ℕ → Line → Bool
bad_ends n l = nat_le n l.from || (nat_le n l.to || l.from == l.to)

-- 5: ends at the header or leaves the tank
abbrev pub bad_direction : Line → Bool
bad_direction l = l.to == 0 || l.from == 1

-- 4 to 6 on one line
abbrev pub test_line : ℕ → Line → Option Decline → Option Decline
test_line n l on = test LineEnds (bad_ends n l) (test LineDirection (bad_direction l) (test_limits l.low l.high on))

-- 4 to 6, line by line
abbrev pub test_lines : ℕ → List Line → Option Decline → Option Decline
test_lines n [] on = on
test_lines n (l ∷ ls) on = test_line n l (test_lines n ls on)

-- 2 to 6 on n and a list
abbrev pub test_list : ℕ → List Line → Option Decline → Option Decline
test_list n ls on =
    test JunctionCount (nat_lt n 2 || nat_lt 250 n)
    (test LineCount (nat_lt 1000 (length ls))
    (test_lines n ls on))

-- an answer unless a test failed
abbrev pub unless : {A : Type 0} → Option Decline → A → Result A Decline
unless None a = Ok a
unless (Some d) a = Err d

-- nothing unless a test failed
abbrev pub pass : Option Decline → Result (Unit {0}) Decline
pass o = unless o (tt {0})

-- 1 to 6: the aim, or the first test that fails
abbrev pub tested : ℕ → List Line → ℕ → Result Aim Decline
tested n ls a = elim (aim_numbered a) [ Some aim ↦ unless (test_list n ls None) aim | None ↦ Err AimNumber ]

-- 8, then 6, on a trial of line k of a list of m lines
abbrev pub test_trial : ℕ → ℕ → ℕ → ℕ → Option Decline
test_trial m k low high = test LineNumber (nat_le m k) (test_limits low high None)
