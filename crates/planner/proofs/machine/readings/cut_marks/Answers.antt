use Rattle.std.proofs.Common.{not, sym, ap, ◌∙◌, rules}
use Rattle.reach.proofs.Selected.{selected}
use Rattle.plant.specs.declared.aim.Aim.{Aim}
use Rattle.plant.specs.Held.{arcs, marked}
use Rattle.planner.specs.Cuts.{edges}
use Rattle.planner.proofs.Marked.{far_cut, near_cut}
use Rattle.reach.specs.Drawn.{tabled, turned}
use Rattle.planner.proofs.machine.readings.cut_marks.Goals as goal

pub returns-in-Near-Greatest : goal.returns-in-Near-Greatest
returns-in-Near-Greatest c =
    let as' = arcs c.args.lines.now in
    let rows = c.residuals-graph.result.rows in
    near_cut c.args.side c.args.aim c.args.n as' (tabled rows) c.reached.result (marked c.select.result) c.in-Near-Greatest.is-0
    (λ v w. c.residuals-graph.ensures v w ∙ ap (λ (a : Aim). edges a as' v w) (sym c.in-Near-Greatest.is-1)) c.reached.ensures (λ v. selected c.args.n v (marked c.select.result v) (marked c.reached.result v) (λ h. search (rules, c.select.ensures.below v h)) (c.select.ensures.beyond v))

pub returns-in-Near-Least : goal.returns-in-Near-Least
returns-in-Near-Least c =
    let as' = arcs c.args.lines.now in
    let rows = c.residuals-graph.result.rows in
    near_cut c.args.side c.args.aim c.args.n as' (turned (tabled rows)) c.reached-in-Near-Least.result (marked c.select-in-Near-Least.result) c.in-Near-Least.is-0
    (λ v w. c.residuals-graph.ensures w v ∙ ap (λ (a : Aim). edges a as' v w) (sym c.in-Near-Least.is-1)) c.reached-in-Near-Least.ensures (λ v. selected c.args.n v (marked c.select-in-Near-Least.result v) (marked c.reached-in-Near-Least.result v) (λ h. search (rules, c.select-in-Near-Least.ensures.below v h)) (c.select-in-Near-Least.ensures.beyond v))

pub returns-in-Far-Greatest : goal.returns-in-Far-Greatest
returns-in-Far-Greatest c =
    let as' = arcs c.args.lines.now in
    let rows = c.residuals-graph.result.rows in
    far_cut c.args.side c.args.aim c.args.n as' (turned (tabled rows)) c.reached-in-Far-Greatest.result (marked c.select-in-Far-Greatest.result) c.in-Far-Greatest.is-0
    (λ v w. c.residuals-graph.ensures w v ∙ ap (λ (a : Aim). edges a as' w v) (sym c.in-Far-Greatest.is-1)) c.reached-in-Far-Greatest.ensures (λ v. selected c.args.n v (marked c.select-in-Far-Greatest.result v) (not (marked c.reached-in-Far-Greatest.result v)) (λ h. search (rules, c.select-in-Far-Greatest.ensures.below v h)) (c.select-in-Far-Greatest.ensures.beyond v))

pub returns-in-Far-Least : goal.returns-in-Far-Least
returns-in-Far-Least c =
    let as' = arcs c.args.lines.now in
    let rows = c.residuals-graph.result.rows in
    far_cut c.args.side c.args.aim c.args.n as' (tabled rows) c.reached-in-Far-Least.result (marked c.select-in-Far-Least.result) c.in-Far-Least.is-0
    (λ v w. c.residuals-graph.ensures v w ∙ ap (λ (a : Aim). edges a as' w v) (sym c.in-Far-Least.is-1)) c.reached-in-Far-Least.ensures (λ v. selected c.args.n v (marked c.select-in-Far-Least.result v) (not (marked c.reached-in-Far-Least.result v)) (λ h. search (rules, c.select-in-Far-Least.ensures.below v h)) (c.select-in-Far-Least.ensures.beyond v))
