use Rattle.std.proofs.Common.{◌<◌, [], ◌∷◌, ◌++◌, length, get_or, sym, ap, ◌∙◌, arith, length-take-le}
use Rattle.std.proofs.lemmas.List.{take_all, take_more}
use Rattle.plant.specs.Held.{flows_of}
use Rattle.plant.proofs.Tested.{held_front}
use Rattle.planner.specs.Standing.{arcs_in, plant_in}
use Rattle.sheet_text.proofs.Reading.{flow_length, flow_told, never_declined, ok_same}
use Rattle.sheet_text.proofs.Showing.{small_flows}
use Rattle.sheet_text.proofs.readings.read_flows.Goals as goal

pub push-requires : goal.push-requires
push-requires c =
    let p = c.args.planner.now in
    let n = flow_length p c.requires.0 c.requires.1 in
    let l = length-take-le c.loop-line.line (flows_of (arcs_in p)) (omega (arith, c.loop-line-test.true, n, c.requires.2)) in
    (omega arith, omega (arith, c.loop-line-test.true, ap length c.loop-line.invariant, l, (held_front p.plant).few, c.requires.2))

pub returns-in_err-flow-clause-flows : goal.returns-in_err-flow-clause-flows
returns-in_err-flow-clause-flows c =
    let p = c.args.planner.now in
    never_declined _ _ c.in_err-flow.ensures.answer (flow_told p c.requires.0 c.requires.1 c.loop-line.line (omega (arith, c.loop-line-test.true, c.requires.2)))

pub loop-line-preserved : goal.loop-line-preserved
loop-line-preserved c =
    let p = c.args.planner.now in
    let k = c.loop-line.line in
    let fs = flows_of (arcs_in p) in
    let n = flow_length p c.requires.0 c.requires.1 in
    let there : k < length (plant_in p).lines = omega (arith, c.loop-line-test.true, c.requires.2) in
    let is = ok_same c.in_ok-flow.flow (get_or fs k 0) (c.in_ok-flow.ensures.answer ∙ flow_told p c.requires.0 c.requires.1 k there) in
    c.push.ensures.items ∙ (λ i. c.loop-line.invariant i ++ is i ∷ []) ∙ sym (take_more fs k 0 (omega (arith, there, n)))

pub returns-clause-flows : goal.returns-clause-flows
returns-clause-flows c =
    let p = c.args.planner.now in
    c.loop-line.invariant ∙ take_all c.loop-line.line (flows_of (arcs_in p)) (omega (arith, c.loop-line-test.false, flow_length p c.requires.0 c.requires.1, c.requires.2))

pub returns-clause-small : goal.returns-clause-small
returns-clause-small c = small_flows c.args.planner.now c.loop-line.flows.items c.requires.0 c.requires.1 (returns-clause-flows c)
