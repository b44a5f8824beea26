use Rattle.std.proofs.Common.{◌∙◌, subst, arith}
use Rattle.planner.specs.declared.answer.Outcome.{Outcome}
use Rattle.planner.specs.Works.{Reached}
use Rattle.sheet_text.proofs.Working.{made_few, made_more, never_fails, open_stage}
use Rattle.sheet_text.proofs.readings.settle.Goals as goal

pub returns-in_err-work : goal.returns-in_err-work
returns-in_err-work c = absurd (never_fails _ _ _ _ _ c.loop-outcome.invariant.1 c.in_err-work.ensures.works.0)

pub loop-outcome-smaller : goal.loop-outcome-smaller
loop-outcome-smaller c =
    let w = c.in_ok-work.ensures.works.runs in
    let e = subst (λ (o : Outcome). Reached 60000 o c.in_ok-work.field-0.1 c.work.new.self) c.in-InWork-default.is-0 w.ends in
    omega (arith, e.0, made_more _ _ _ _ _ _ _ w.ways, made_few c.work.new.self c.in_ok-work.ensures.sound)

pub loop-outcome-preserved : goal.loop-outcome-preserved
loop-outcome-preserved c =
    let w = c.in_ok-work.ensures.works.runs in
    let e = subst (λ (o : Outcome). Reached 60000 o c.in_ok-work.field-0.1 c.work.new.self) c.in-InWork-default.is-0 w.ends in
    (c.in_ok-work.ensures.sound, open_stage c.work.new.self.state c.work.new.self e.1, w.plant ∙ c.loop-outcome.invariant.2)
