use Rattle.std.proofs.Common.{[], ◌∷◌, Ok, sym, refl, ap, ◌∙◌}
use Rattle.std.proofs.lemmas.Result.{err_from_is_err_and}
use Rattle.ring.specs.Held.{items, room}
use Rattle.ring.proofs.Turns.{items_fit}
use Rattle.plantfile.specs.Format.{queued}
use Rattle.plantfile.proofs.Steps.{tail_is}
use Rattle.plantfile.proofs.Places.{begins, err_kept, end_kept, draw_kept, try_kept}
use Rattle.plantfile.proofs.reader.read_body.Goals as goal
use Rattle.plantfile.proofs.reader.read_body.Goals.{in-Draw, in-Try}

pub loop-line-init : goal.loop-line-init
loop-line-init c = (refl, begins c.args.n c.args.lines.now (room c.args.waiting.now) (items c.args.waiting.now) c.args.body.now)

pub returns-in_err-line : goal.returns-in_err-line
returns-in_err-line c =
    let p = err_from_is_err_and c.from_residual.result c.from_residual.ensures.1 in
    record {
      room = c.loop-line.invariant.0;
      told = rw (p.1, p.2) (err_kept c.loop-line.invariant.1 (sym c.first_command.ensures ∙ c.in_err-line.was));
    }

pub returns-in-End : goal.returns-in-End
returns-in-End c = record {
  room = c.loop-line.invariant.0;
  told = end_kept c.loop-line.invariant.1 (sym c.first_command.ensures ∙ c.in_ok-line.was ∙ ap Ok c.in-End.is);
}

pub loop-line-preserved : goal.loop-line-preserved
loop-line-preserved c =
    let was = sym c.first_command.ensures ∙ c.in_ok-line.was in
    let s = c.loop-line.invariant.1 in
    let same = c.loop-line.invariant.0 in
    elim c.match-branch-2.branch [
      | in-Draw w ↦
          rw (w.waiting-is, w.tried-is) (same, draw_kept s (was ∙ ap Ok w.in-Draw.is) (w.lines-is ∙ w.keep_line.ensures) w.drawn-is (tail_is c.loop-line.rest.now 11))
      | in-Try w ↦
          let q = c.loop-line.waiting in
          let held = ap items w.waiting-is ∙ w.keep_trial.ensures.kept ∙ ap (λ k. queued k (items q) (w.in-Try.trial ∷ [])) same in (
            ap room w.waiting-is ∙ w.keep_trial.ensures.room ∙ same,
            rw (w.lines-is, w.drawn-is) (try_kept s (items_fit c.args.waiting.now) (was ∙ ap Ok w.in-Try.is) held w.tried-is (tail_is c.loop-line.rest.now 11)),
          )
    ]
