use Rattle.std.proofs.Common.{sym, refl, ap, ◌∙◌, arith}
use Rattle.plant.specs.Held.{arc, other, shift}
use Rattle.stage.specs.Model.{sent}
use Rattle.stage.proofs.Scan.{amount_fits}
use Rattle.stage.proofs.Stops.{still}
use Rattle.preflow.proofs.Wakes.{woken_yes, woken_old, woken_never}
use Rattle.preflow.proofs.push.push_due.Goals as goal
use Rattle.preflow.proofs.push.push_due.Goals.{else-not-was_active-via-then-not-was_active+else-is_active, else-not-was_active-via-else-not-was_active}

pub returns-then-given-eq0 : goal.returns-then-given-eq0
returns-then-given-eq0 c =
    let m = still c.args.stage.start c.args.stage.goal c.args.v (arc c.args.held.now) c.args.rows.now (sym c.due-given.ensures ∙ c.if-given-eq0.true) in
    record { line = sym m.arc; rows = sym m.rows; woken = rw m.none refl }

pub push-requires : goal.push-requires
push-requires c =
    record { line = c.requires.line; junction = c.requires.junction; bounded = c.requires.roomy.bounded; given = omega (arith, c.due-given.ensures, amount_fits c.args.v (arc c.args.held.now) c.args.rows.now) }

pub returns-then-is_active : goal.returns-then-is_active
returns-then-is_active c =
    let v = c.args.v in
    let x = arc c.args.held.now in
    let rs = c.args.rows.now in
    let er = c.push.ensures.rows ∙ ap (λ d. sent v (other v x) d rs) c.due-given.ensures in
    record {
      line = c.push.ensures.line ∙ ap (λ d. shift v d x) c.due-given.ensures;
      rows = er;
      woken = woken_yes c.args.stage.start c.args.stage.goal v x rs c.push.new.rows c.other_end-w.result er c.other_end-w.ensures
          (sym c.if-is_active.ensures) (sym c.if-not-was_active.ensures);
    }

pub returns-else-not-was_active : goal.returns-else-not-was_active
returns-else-not-was_active c =
    let v = c.args.v in
    let x = arc c.args.held.now in
    let rs = c.args.rows.now in
    let er = c.push.ensures.rows ∙ ap (λ d. sent v (other v x) d rs) c.due-given.ensures in
    record {
      line = c.push.ensures.line ∙ ap (λ d. shift v d x) c.due-given.ensures;
      rows = er;
      woken = elim c.else-not-was_active.branch [
        | else-not-was_active-via-then-not-was_active+else-is_active w ↦
            woken_never c.args.stage.start c.args.stage.goal v x rs c.push.new.rows c.other_end-w.result er c.other_end-w.ensures
            (sym w.if-is_active.ensures)
        | else-not-was_active-via-else-not-was_active w ↦
            woken_old c.args.stage.start c.args.stage.goal v x rs c.push.new.rows c.other_end-w.result er c.other_end-w.ensures
            (sym w.if-not-was_active.ensures)
      ];
    }
