use Rattle.std.proofs.Common.{sym, refl, ap, ⊎_elim}
use Rattle.planner.specs.Calls.{nothing, number}
use Rattle.planner.specs.Works.{in_work}
use Rattle.planner.proofs.machine.Planner.work.Goals as goal

pub returns-in-StageOne-clause-works : goal.returns-in-StageOne-clause-works
returns-in-StageOne-clause-works g c = (number (⊎_elim (ap in_work) (ap in_work) c.in-StageOne.is) (sym c.if-is_bad_number.ensures), refl)

pub returns-in-Idle-2 : goal.returns-in-Idle-2
returns-in-Idle-2 g c = record { works = (nothing (⊎_elim (ap in_work) (⊎_elim (ap in_work) (ap in_work)) c.in-Idle.is), refl); sound = c.requires }
