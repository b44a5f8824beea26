-- How a planner stands between two calls.
use Rattle.plant.specs.declared.line.Trial as limits
use Rattle.std.specs.Prelude.{◌≡◌, ℕ, ◌+◌, ◌*◌, ◌≤◌, cond, ◌⊎◌, length, ◌==◌}
use Rattle.first.specs.Theorems.{uneven}
use Rattle.law.specs.declared.script.Given.{Given}
use Rattle.planner.specs.declared.answer.Side.{Side}
use Rattle.planner.specs.declared.answer.Side.TheVariants.{Near, Far}
use Rattle.planner.specs.declared.answer.Tally.{Tally}
use Rattle.planner.specs.Standing.{Few}
use Rattle.planner.specs.Tallies.{no_tally}
use Rattle.plant.specs.declared.aim.Aim.{Aim}
use Rattle.plant.specs.declared.aim.Aim.TheVariants.{Greatest, Least}
use Rattle.plant.specs.Plants.{Best, FarCut, Feasible, Flow, Junctions, NearCut, Plant, WorstHurdle, bound, total, with_limits}

-- a plant and what is looked for in it
pub record Question : Type 0 where
  pub plant : Plant
  pub aim : Aim

-- 1 is the greatest; of the other numbers only 2, the least, passes the tests
abbrev pub aim_of : ℕ → Aim
aim_of a = cond (a == 1) Greatest Least

-- what a caller hands over, as a question
abbrev pub question : Given → Question
question g = record { plant = record { junctions = g.n; lines = g.lines.items }; aim = aim_of g.aim }

-- the question of a trial: what is handed over, with its limits on its line
abbrev pub tried : Given → limits.Trial → Question
tried g t = record { plant = with_limits (question g).plant t.line t.low t.high; aim = aim_of g.aim }

-- a flow with the near and the far cut
pub record Plan : Type 0 where
  pub flow : Flow
  pub near : Junctions
  pub far : Junctions

abbrev pub cut_of : Side → Plan → Junctions
cut_of Near s = s.near
cut_of Far s = s.far

-- what settles a question with a flow: a best flow, the smallest and the largest tightest cut, and a bound that the total meets
pub record Solved (a : Question) (s : Plan) : Type 0 where
  pub best : Best a.aim a.plant s.flow
  pub near : NearCut a.aim a.plant s.near
  pub far : FarCut a.aim a.plant s.far
  pub meets : total a.plant s.flow ≡ bound a.aim a.plant s.near

-- what settles it as impossible: no flow is feasible, and H is the smallest hurdle of largest shortfall
pub record Impossible (a : Question) (H : Junctions) : Type 0 where
  pub none : (f : Flow) → Feasible a.plant f → ⊥
  pub worst : WorstHurdle a.plant H

-- the tallies of both stages
pub record Counts : Type 0 where
  pub one : Tally
  pub two : Tally

abbrev pub no_counts : Counts
no_counts = record { one = no_tally; two = no_tally }

-- idle; in work, with what the works since the start asked for; settled with a flow; settled as impossible, with a hurdle
pub data Phase : Type 0 where
  idle : Phase
  working : Question → ℕ → Counts → Phase
  flowing : Question → Plan → Counts → Phase
  blocked : Question → Junctions → Counts → Phase

-- the tallies since the last accepted start or trial, zero before the first
abbrev pub counts_of : Phase → Counts
counts_of idle = no_counts
counts_of (working a asked t) = t
counts_of (flowing a s t) = t
counts_of (blocked a H t) = t

-- stage one has two junctions more than the plant, a line back, and a line for each junction whose lows in are not its lows out
abbrev pub junctions_one : Plant → ℕ
junctions_one P = P.junctions + 2

abbrev pub lines_one : Plant → ℕ
lines_one P = length P.lines + 1 + uneven P.lines P.junctions

-- both stages stay below their limits
pub record Limited (P : Plant) (t : Counts) : Type 0 where
  pub first : Few (junctions_one P) (lines_one P) t.one
  pub second : Few P.junctions (length P.lines) t.two

-- stage two is begun only where a flow is feasible
abbrev pub Begun : Plant → Counts → Type 0
Begun P t = (t.two ≡ no_tally) ⊎ ((f : Flow) × Feasible P f)

-- once the works since the start have asked for this many discharges, the question is settled
abbrev pub limit : Plant → ℕ
limit P = 4 * (junctions_one P * junctions_one P) * (lines_one P + 1) + 4 * (P.junctions * P.junctions) * (length P.lines + 1)

-- a work made m discharges: the tallies only grow, and grow by that many discharges
pub record Counted (t : Counts) (m : ℕ) (u : Counts) : Type 0 where
  pub relabels_one : t.one.relabels ≤ u.one.relabels
  pub relabels_two : t.two.relabels ≤ u.two.relabels
  pub discharges_one : t.one.discharges ≤ u.one.discharges
  pub discharges_two : t.two.discharges ≤ u.two.discharges
  pub made : u.one.discharges + u.two.discharges ≡ t.one.discharges + t.two.discharges + m
