use Rattle.std.proofs.Common.{◌≡◌, List, length, take, ap, ◌∙◌, arith}
use Rattle.arrayvec.proofs.ArrayVecLemmas.{items-with_items}
use Rattle.plant.specs.declared.line.Line.{Line}
use Rattle.plant.specs.Held.{arcs, lines_of, plant_of}
use Rattle.plant.proofs.Tested.{held_front}
use Rattle.stage.specs.First.{second_arcs}
use Rattle.preflow.proofs.Opens.{second_cut, second_light, settle_count}
use Rattle.preflow.proofs.Standing.{light_like}
use Rattle.preflow.proofs.opening.open_second.Goals as goal

pub settle_lines-requires : goal.settle_lines-requires
settle_lines-requires c =
    let hs = c.args.held.now.items in
    let front = c.as_mut_slice.ensures.value ∙ c.truncate.ensures.items ∙ ap (λ (ls : List Line). take (length ls) hs) c.lines.ensures.value in
    ap (λ xs. lines_of (arcs xs)) front ∙ c.requires

pub returns : goal.returns
returns c =
    let h = c.args.plant.now in
    let ls = (plant_of h).lines in
    let hs = c.args.held.now.items in
    let front = c.as_mut_slice.ensures.value ∙ c.truncate.ensures.items ∙ ap (λ (xs : List Line). take (length xs) hs) c.lines.ensures.value in
    let w = items-with_items c.truncate.new.self c.settle_lines.new.held (omega (arith, c.settle_lines.auto.held, ap length c.as_mut_slice.ensures.value)) in
    let e = ap arcs w ∙ c.settle_lines.ensures ∙ ap (λ xs. second_arcs ls (arcs xs)) front ∙ second_cut ls hs in
    let n : length c.settle_lines.new.held ≡ length ls = c.settle_lines.auto.held ∙ ap length front ∙ settle_count (take (length ls) hs) ls c.requires in
    record {
      lines = e;
      number = ap length w ∙ n;
      few = omega (arith, ap length w, n, (held_front h).few);
      light = light_like _ (second_arcs ls (arcs hs)) e (second_light h.n ls (held_front h).few (held_front h).fine (arcs hs));
    }
