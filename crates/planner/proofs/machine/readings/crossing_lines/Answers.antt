use Rattle.std.proofs.Common.{sym, ap, ◌∙◌, arith}
use Rattle.plant.specs.Held.{marked}
use Rattle.plant.specs.Plants.{crossing}
use Rattle.planner.proofs.Numbered.{numbered_else, numbered_then}
use Rattle.std.proofs.lemmas.List.{take_all}
use Rattle.planner.proofs.machine.readings.crossing_lines.Goals as goal
use Rattle.planner.proofs.machine.readings.crossing_lines.Goals.{then-crosses, else-crosses}

pub push-requires : goal.push-requires
push-requires c = (omega arith, omega (arith, c.loop-k.invariant.1, c.loop-k-test.true, c.requires))

pub loop-k-preserved : goal.loop-k-preserved
loop-k-preserved c =
    let S = marked c.args.set.now in
    let ls = c.args.lines.now in
    elim c.if-crosses.branch [
      | then-crosses w ↦ numbered_then S ls c.loop-k.k c.loop-k.numbers.items c.if-crosses.numbers.items c.loop-k-test.true (sym c.crosses.ensures ∙ w.if-crosses.true) c.loop-k.invariant
          (ap (λ n. n.items) w.numbers-is ∙ w.push.ensures.items)
      | else-crosses w ↦ numbered_else S ls c.loop-k.k c.loop-k.numbers.items c.if-crosses.numbers.items c.loop-k-test.true (sym c.crosses.ensures ∙ w.if-crosses.false) c.loop-k.invariant
          (ap (λ n. n.items) w.numbers-is)
    ]

pub returns : goal.returns
returns c = c.loop-k.invariant.0 ∙ ap (crossing (marked c.args.set.now) 0) (take_all c.loop-k.k c.args.lines.now (omega arith))
