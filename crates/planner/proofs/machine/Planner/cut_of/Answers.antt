use Rattle.std.proofs.Common.{List, subst}
use Rattle.plant.specs.declared.aim.Aim.{Aim}
use Rattle.plant.specs.declared.held.HeldLine.{HeldLine}
use Rattle.plant.specs.Held.{arcs, marked}
use Rattle.planner.specs.Cuts.{CutSet}
use Rattle.planner.specs.Standing.{arcs_in}
use Rattle.planner.proofs.Shown.{cut_shown}
use Rattle.planner.proofs.machine.Planner.cut_of.Goals as goal

pub returns-clause-shown : goal.returns-clause-shown
returns-clause-shown g c =
    let p = c.args.self.now in
    let S = marked c.cut_marks.result in
    λ s t. cut_shown g.C.Chooser.has p c.args.side S s t
    (subst (λ (a : Aim). CutSet c.args.side a p.plant.n (arcs_in p) S) c.aim.ensures
    (subst (λ m. CutSet c.args.side c.aim.result m (arcs_in p) S) c.junctions-n.ensures.value
    (subst (λ (hs : List HeldLine). CutSet c.args.side c.aim.result c.junctions-n.result (arcs hs) S) c.lines-lines.ensures.value c.cut_marks.ensures)))
