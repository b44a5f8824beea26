-- The numbers of the outcomes.
use Rattle.std.specs.Prelude.{ℕ}
use Rattle.planner.specs.declared.answer.Outcome.{Outcome}
use Rattle.planner.specs.declared.answer.Outcome.TheVariants.{InWork, Flow, Impossible}

-- 0 in work, 1 a flow, 2 impossible
abbrev pub outcome_number : Outcome → ℕ
outcome_number InWork = 0
outcome_number Flow = 1
outcome_number Impossible = 2
