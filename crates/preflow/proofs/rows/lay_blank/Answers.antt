use Rattle.std.proofs.Common.{◌≡◌, ◌++◌, ◌∷◌, [], length, ap, ◌∙◌, replicate, arith, rules}
use Rattle.std.proofs.lemmas.List.{length-replicate, replicate_more}
use Rattle.stage.specs.Model.{row0}
use Rattle.preflow.proofs.rows.lay_blank.Goals as goal

pub push-requires : goal.push-requires
push-requires c = let e : length c.loop.rows.items ≡ c.loop.counter = ap length c.loop.invariant ∙ length-replicate c.loop.counter row0 in (omega arith, omega (arith, e, c.loop-test.true, c.requires))

pub loop-preserved : goal.loop-preserved
loop-preserved c =
    let e : c.default.result ≡ row0 = search rules in
    c.push.ensures.items ∙ ap (λ rs. rs ++ c.default.result ∷ []) c.loop.invariant ∙ ap (λ r. replicate c.loop.counter row0 ++ r ∷ []) e ∙ replicate_more c.loop.counter row0

pub returns : goal.returns
returns c = let e : c.loop.counter ≡ c.args.junctions = omega (arith, c.loop-test.false, c.loop.auto.counter-end) in c.loop.invariant ∙ ap (λ n. replicate n row0) e
