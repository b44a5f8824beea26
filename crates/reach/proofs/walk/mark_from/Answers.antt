use Rattle.std.proofs.Common.{Bool, false, List, get_or, [], ◌∷◌, ◌++◌, length, sym, refl, ap, ◌∙◌, arith}
use Rattle.reach.proofs.Going.{begun, ended, taken}
use Rattle.reach.proofs.Drying.{no_mark}
use Rattle.reach.proofs.Joined.{join_marked, join_passed}
use Rattle.std.proofs.lemmas.Bool.{both_ways}
use Rattle.reach.proofs.walk.mark_from.Goals as goal
use Rattle.reach.proofs.walk.mark_from.Goals.{then-not-marks-w+then-leads, else-not-marks-w, else-not-marks-w-via-then-not-marks-w+else-leads, else-not-marks-w-via-else-not-marks-w}

pub loop-v-init : goal.loop-v-init
loop-v-init g c =
    let none = ap length c.new-queue.ensures.empty in
    let kept = c.put.ensures.kept (omega arith) in (
      begun _ _ _ _ _ (omega arith) (omega arith) (λ k. ap (λ (xs : List Bool). get_or xs k false) (c.fill.ensures.after (λ y e. e)) ∙ no_mark (length c.args.marks.now) k)
          (kept.1 ∙ ap (λ q. q ++ (c.args.from ∷ [])) c.new-queue.ensures.empty),
      omega arith,
    )

pub loop-w-init : goal.loop-w-init
loop-w-init g c =
    (taken _ _ _ _ _ _ _ _ c.loop-v.invariant.0 c.in-Some.ensures.took, omega (arith, c.in-Some.ensures.room), refl)

pub loop-w-preserved : goal.loop-w-preserved
loop-w-preserved g c =
    elim c.if-not-marks-w.branch [
      | then-not-marks-w+then-leads w ↦
          join_marked (g.G.Graph.edge c.args.graph.now) c.args.n c.args.from c.loop-w.marks c.if-not-marks-w.marks
          c.loop-w.queue w.put-then-leads.new.self c.if-not-marks-w.queue c.in-Some.v c.loop-w.w
          c.loop-w.invariant.0 c.loop-w.invariant.1 c.loop-w.invariant.2
          c.loop-w-test.true w.if-not-marks-w.true w.if-leads.ensures w.marks-is w.queue-is
          w.put-then-leads.ensures.room (λ h. (w.put-then-leads.ensures.kept h).1)
      | else-not-marks-w w ↦
          join_passed (g.G.Graph.edge c.args.graph.now) c.args.n c.args.from c.loop-w.marks c.if-not-marks-w.marks
          c.loop-w.queue c.if-not-marks-w.queue c.in-Some.v c.loop-w.w
          c.loop-w.invariant.0 c.loop-w.invariant.1 c.loop-w.invariant.2
          (λ h. elim w.else-not-marks-w.branch [
            | else-not-marks-w-via-then-not-marks-w+else-leads z ↦ absurd (both_ways _ (sym z.if-leads.ensures) h)
            | else-not-marks-w-via-else-not-marks-w z ↦ z.if-not-marks-w.false
          ])
          w.marks-is w.queue-is
    ]

pub returns : goal.returns
returns g c = ended _ _ _ _ _ _ c.loop-v.invariant.0 c.in_default.ensures.took.0
