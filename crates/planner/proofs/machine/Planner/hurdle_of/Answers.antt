use Rattle.std.proofs.Common.{List, subst}
use Rattle.plant.specs.declared.held.HeldLine.{HeldLine}
use Rattle.plant.specs.Held.{arcs, marked}
use Rattle.planner.specs.Cuts.{HurdleSet}
use Rattle.planner.specs.Standing.{arcs_in}
use Rattle.planner.proofs.Shown.{hurdle_shown}
use Rattle.planner.proofs.machine.Planner.hurdle_of.Goals as goal

pub returns-clause-shown : goal.returns-clause-shown
returns-clause-shown g c =
    let p = c.args.self.now in
    let S = marked c.hurdle_marks.result in
    λ s t. hurdle_shown g.C.Chooser.has p S s t
    (subst (λ m. HurdleSet m (arcs_in p) S) c.junctions.ensures.value
    (subst (λ (hs : List HeldLine). HurdleSet c.junctions.result (arcs hs) S) c.lines.ensures.value c.hurdle_marks.ensures))
