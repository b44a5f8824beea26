use Rattle.std.proofs.Common.{◌≡◌, length, take, sym, ap, ◌∙◌, arith}
use Rattle.std.proofs.lemmas.List.{length-take-le, take_at}
use Rattle.plant.specs.Held.{arcs}
use Rattle.stage.specs.First.{second_arcs}
use Rattle.preflow.proofs.Opens.{second_light}
use Rattle.preflow.proofs.Standing.{light_like}
use Rattle.preflow.proofs.arrays.open_second.Goals as goal

pub returns-clause-light : goal.returns-clause-light
returns-clause-light c =
    let ls = c.lines-count.result.now in
    let n = length ls in
    let hs = take n c.args.held.now in
    let size : length c.settle_lines.new.held ≡ n = c.settle_lines.auto.held ∙ length-take-le n c.args.held.now (omega (arith, c.lines-count.ensures.few)) in
    let e = ap arcs (take_at c.settle_lines.new.held _ n size) ∙ c.settle_lines.ensures ∙ ap (λ l. second_arcs l (arcs hs)) (sym c.lines-count.ensures.value) in
    light_like _ (second_arcs ls (arcs hs)) e (second_light c.args.plant.now.n ls c.lines-count.ensures.few c.lines-count.ensures.fine (arcs hs))
