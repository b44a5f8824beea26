use Rattle.std.proofs.Common.{◌+◌, arith, rules}
use Rattle.reach.proofs.Selected.{selected}
use Rattle.plant.specs.Held.{arcs, marked}
use Rattle.planner.proofs.Marked.{found_set}
use Rattle.reach.proofs.Paths.{marks_alike}
use Rattle.reach.specs.Drawn.{residual_edge, tabled}
use Rattle.planner.proofs.machine.readings.hurdle_marks.Goals as goal

pub returns : goal.returns
returns c =
    let edge = residual_edge (arcs c.args.lines.now) in
    let n = c.args.n in
    let marks = c.reached.result in
    found_set edge (n + 2) n n marks (marked c.select.result) (omega arith)
    (marks_alike (tabled c.residuals-graph.result.rows) edge (n + 2) n marks c.residuals-graph.ensures c.reached.ensures) (λ v. selected n v (marked c.select.result v) (marked marks v) (λ h. search (rules, c.select.ensures.below v h)) (c.select.ensures.beyond v))
