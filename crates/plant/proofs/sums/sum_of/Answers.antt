use Rattle.std.proofs.Common.{refl, subst, arith}
use Rattle.std.proofs.lemmas.Fn.{says_at}
use Rattle.std.proofs.lemmas.Int.{ints}
use Rattle.std.specs.Fn.{FnReturnsAt}
use Rattle.plant.proofs.Adding.{adds_none, adds_more, adds_all}
use Rattle.plant.proofs.sums.sum_of.Goals as goal

pub loop-item-init : goal.loop-item-init
loop-item-init g c = adds_none _ _

pub overflow_add-sum : goal.overflow_add-sum
overflow_add-sum g c =
    let s = c.requires.small _ _ (says_at g.F.Fn c.gives-sum.ensures refl) in
    omega (arith, ints, s.0, s.1, c.requires.few, c.loop-item-test.true, c.loop-item.invariant.above, c.loop-item.invariant.below)

pub loop-item-preserved : goal.loop-item-preserved
loop-item-preserved g c =
    let e = says_at g.F.Fn c.gives-sum.ensures refl in
    let s = c.requires.small _ _ e in
    adds_more _ _ c.loop-item.item-index c.item-item.result _ c.gives-sum.result _ c.loop-item-test.true c.loop-item.invariant (subst (λ x. FnReturnsAt g.F.Fn c.args.gives x c.gives-sum.result) c.item-item.is e) s
    (omega (arith, ints, s.0, s.1, c.requires.few, c.loop-item-test.true, c.loop-item.invariant.above, c.loop-item.invariant.below))

pub returns : goal.returns
returns g c = λ h t. adds_all _ _ c.loop-item.item-index _ h c.loop-item-test.false c.loop-item.invariant t
