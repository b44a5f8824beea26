-- The test of a row: each definition, computed over all sets of junctions.
use Rattle.std.specs.Prelude.{◌≡◌, ℕ, zero, suc, Bool, true, false, not, ◌&&◌, ◌||◌, List, [], ◌∷◌, length, ℤ, Some, None, Option, ◌==◌, int_le, nat_le, nat_lt}
use Rattle.plant.specs.declared.aim.Aim.{Aim}
use Rattle.plant.specs.declared.aim.Aim.TheVariants.{Greatest, Least}
use Rattle.plant.specs.Plants.{bound, high_of, Junctions, leads_in, leads_out, low_of, Plant, shortfall, summed}
use Rattle.plant.specs.Tests.{test_list}
use Rattle.worked.specs.Rows.{Answer, flows, impossible, Right, Row, set_of, total_of, Trial, tried}

-- b holds if a does
abbrev pub implies : Bool → Bool → Bool
implies a b = not a || b

-- q holds of each element of a list
abbrev pub each : {X : Type 0} → (X → Bool) → List X → Bool
each q [] = true
each q (x ∷ xs) = q x && each q xs

-- q holds of each junction below n
abbrev pub each_below : ℕ → (ℕ → Bool) → Bool
each_below zero q = true
each_below (suc n) q = each_below n q && q n

-- the set without members
abbrev pub nothing : Junctions
nothing v = false

-- junction u and the members of S
abbrev pub joining : ℕ → Junctions → Junctions
joining u S v = v == u || S v

-- q holds of each set of junctions below n
abbrev pub each_set : ℕ → (Junctions → Bool) → Bool
each_set zero q = q nothing
each_set (suc n) q = each_set n q && each_set n (λ S. q (joining n S))

-- q holds of some set of junctions below n
abbrev pub some_set : ℕ → (Junctions → Bool) → Bool
some_set zero q = q nothing
some_set (suc n) q = some_set n q || some_set n (λ S. q (joining n S))

-- every member of S below n is one of R
abbrev pub subset : ℕ → Junctions → Junctions → Bool
subset n S R = each_below n (λ v. implies (S v) (R v))

-- the plant passes the tests of a list
abbrev pub passes : Plant → Bool
passes P = elim (test_list P.junctions P.lines None) [ Some d ↦ false | None ↦ true ]

-- t is no better than b
abbrev pub no_better : Aim → ℤ → ℤ → Bool
no_better Greatest t b = int_le t b
no_better Least t b = int_le b t

-- a and b are equal
abbrev pub same : ℤ → ℤ → Bool
same a b = int_le a b && int_le b a

-- S holds the header and not the tank
abbrev pub is_cut : Junctions → Bool
is_cut S = S 0 && not (S 1)

-- S is a cut of bound t
abbrev pub cuts_at : Aim → Plant → ℤ → Junctions → Bool
cuts_at aim P t S = is_cut S && same (bound aim P S) t

-- S does not hold the tank without the header, and its lows leading in exceed its highs leading out
abbrev pub is_hurdle : Plant → Junctions → Bool
is_hurdle P S = implies (S 1) (S 0) && nat_lt (summed (leads_out S) high_of P.lines) (summed (leads_in S) low_of P.lines)

-- no set is a hurdle, t is no better than any cut's bound, and is the bound of some cut; for None, some set is a hurdle
abbrev pub checks_total : Aim → Plant → Option ℤ → Bool
checks_total aim P (Some t) =
    each_set P.junctions (λ S. not (is_hurdle P S))
    && each_set P.junctions (λ S. implies (is_cut S) (no_better aim t (bound aim P S)))
    && some_set P.junctions (cuts_at aim P t)
checks_total aim P None = some_set P.junctions (is_hurdle P)

-- N is a cut of bound t that each cut of that bound contains
abbrev pub checks_near : Aim → Plant → ℤ → Junctions → Bool
checks_near aim P t N = cuts_at aim P t N && each_set P.junctions (λ R. implies (cuts_at aim P t R) (subset P.junctions N R))

-- F is a cut of bound t that contains each cut of that bound
abbrev pub checks_far : Aim → Plant → ℤ → Junctions → Bool
checks_far aim P t F = cuts_at aim P t F && each_set P.junctions (λ R. implies (cuts_at aim P t R) (subset P.junctions R F))

-- S is a hurdle of shortfall s; no hurdle has a larger one, and each that has the same contains S
abbrev pub checks_worst : Plant → ℕ → Junctions → Bool
checks_worst P s S =
    is_hurdle P S
    && shortfall P S == s
    && each_set P.junctions (λ R. implies (is_hurdle P R) (nat_le (shortfall P R) s && implies (shortfall P R == s) (subset P.junctions S R)))

-- each number of the list is below n
abbrev pub all_below : ℕ → List ℕ → Bool
all_below n vs = each (λ v. nat_lt v n) vs

-- the sets of an answer, of junctions of the plant
abbrev pub checks_sets : Aim → Plant → Answer → Bool
checks_sets aim P (flows best near far) =
    all_below P.junctions near
    && all_below P.junctions far
    && checks_near aim P best (set_of near)
    && checks_far aim P best (set_of far)
checks_sets aim P (impossible hurdle short) = all_below P.junctions hurdle && checks_worst P short (set_of hurdle)

-- a trial, of a line of the plant
abbrev pub checks_trial : Aim → Plant → Trial → Bool
checks_trial aim P t = nat_lt t.line (length P.lines) && passes (tried P t) && checks_total aim (tried P t) t.total

-- the whole row
abbrev pub checks : Row → Bool
checks row =
    passes row.plant
    && checks_total row.aim row.plant (total_of row.answer)
    && checks_sets row.aim row.plant row.answer
    && each (checks_trial row.aim row.plant) row.trials

-- a row that passes the test is right
abbrev pub ChecksTell : Type 0
ChecksTell = (row : Row) → checks row ≡ true → Right row
