use Rattle.std.proofs.Common.{◌≡◌, length, sym, ap, ◌∙◌, arith}
use Rattle.std.proofs.lemmas.List.{length-map}
use Rattle.plant.specs.Held.{arc, plant_of}
use Rattle.plant.specs.Plants.{every, high_of, summed}
use Rattle.plant.proofs.Tested.{held_front}
use Rattle.stage.specs.First.{first_arcs}
use Rattle.preflow.proofs.Opens.{first_light, first_opened, highs_fit, shifted_count}
use Rattle.preflow.proofs.Standing.{light_like}
use Rattle.preflow.proofs.opening.open_first.Goals as goal

pub overflow_cast-sum_of_highs : goal.overflow_cast-sum_of_highs
overflow_cast-sum_of_highs c =
    let f = highs_fit c.args.plant.now.n c.lines.result.now c.lines.ensures.few c.lines.ensures.fine in
    omega (arith, f, c.sum_of_highs.ensures)

pub returns : goal.returns
returns c =
    let h = c.args.plant.now in
    let p = plant_of h in
    let high = c.sum_of_highs.ensures ∙ ap (summed every high_of) c.lines.ensures.value in
    let e : _ ≡ first_arcs p =
    first_opened p.lines p.junctions c.clear.new.self.items c.push_shifted.new.held.items c.push.new.self.items c.push_surpluses.new.held.items c.added.result c.sum_of_highs.result
    c.clear.ensures c.push_shifted.ensures c.added.ensures high c.push.ensures.items c.push_surpluses.ensures.lines in
    let count = shifted_count c.clear.new.self.items c.push_shifted.new.held.items p.lines c.clear.ensures c.push_shifted.ensures in
    record {
      lines = e;
      number = sym (length-map c.push_surpluses.new.held.items arc) ∙ ap length e;
      few = omega (arith, c.push_surpluses.ensures.few, c.push.ensures.len, count, (held_front h).few, h.sized.1);
      light = light_like _ (first_arcs p) e (first_light p.junctions p.lines (held_front h).few (held_front h).fine p.junctions h.sized.1);
    }
