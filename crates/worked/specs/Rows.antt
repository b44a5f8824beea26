-- A worked plant with its answer, and what it is for the answer to be right.
use Rattle.std.specs.Prelude.{◌≡◌, ℕ, zero, suc, ◌<◌, false, ◌||◌, List, [], ◌∷◌, length, ℤ, Some, None, Option, ◌==◌}
use Rattle.plant.specs.declared.aim.Aim.{Aim}
use Rattle.plant.specs.Plants.{Best, FarCut, Feasible, Flow, Junctions, NearCut, Plant, shortfall, Sound, total, with_limits, WorstHurdle}
use Rattle.std.specs.List.{AllByRecursion}

-- a trial: a line at other limits, and the best total then, or None if no flow is feasible
pub record Trial : Type 0 where
  pub line : ℕ
  pub low : ℕ
  pub high : ℕ
  pub total : Option ℤ

-- a best total with the near and the far cut, or else the worst hurdle with its shortfall
pub data Answer : Type 0 where
  flows : (best : ℤ) (near far : List ℕ) → Answer
  impossible : (hurdle : List ℕ) (short : ℕ) → Answer

-- a plant and an aim, with the answer and the trials
pub record Row : Type 0 where
  pub plant : Plant
  pub aim : Aim
  pub answer : Answer
  pub trials : List Trial

-- the set of the junctions listed
abbrev pub set_of : List ℕ → Junctions
set_of [] v = false
set_of (u ∷ us) v = v == u || set_of us v

-- the total that an answer gives
abbrev pub total_of : Answer → Option ℤ
total_of (flows best near far) = Some best
total_of (impossible hurdle short) = None

-- the plant with the limits of a trial
abbrev pub tried : Plant → Trial → Plant
tried P t = with_limits P t.line t.low t.high

-- some flow is best and has this total; for None, no flow is feasible
abbrev pub HasTotal : Aim → Plant → Option ℤ → Type 0
HasTotal aim P (Some t) = (f : Flow) × Best aim P f × (total P f ≡ t)
HasTotal aim P None = (f : Flow) → Feasible P f → ⊥

-- Q holds of S, and of no other set
abbrev pub The : (Junctions → Type 0) → Junctions → Type 0
The Q S = Q S × ((R : Junctions) → Q R → (v : ℕ) → R v ≡ S v)

-- the sets are the near and the far cut, or the worst hurdle, and its shortfall is the number given
abbrev pub RightSets : Aim → Plant → Answer → Type 0
RightSets aim P (flows best near far) = The (NearCut aim P) (set_of near) × The (FarCut aim P) (set_of far)
RightSets aim P (impossible hurdle short) = The (WorstHurdle P) (set_of hurdle) × (shortfall P (set_of hurdle) ≡ short)

-- the trial's line is one of the plant's, and the plant with its limits has its total
abbrev pub RightTrial : Aim → Plant → Trial → Type 0
RightTrial aim P t = (t.line < length P.lines) × Sound (tried P t) × HasTotal aim (tried P t) t.total

-- everything that a row says
abbrev pub Right : Row → Type 0
Right row =
    Sound row.plant
    × HasTotal row.aim row.plant (total_of row.answer)
    × RightSets row.aim row.plant row.answer
    × AllByRecursion (RightTrial row.aim row.plant) row.trials

-- r is the total of row k; past the last row it is None
abbrev pub TotalAt : List Row → ℕ → Option ℤ → Type 0
TotalAt [] k r = r ≡ None
TotalAt (row ∷ rows) zero r = HasTotal row.aim row.plant r
TotalAt (row ∷ rows) (suc k) r = TotalAt rows k r
