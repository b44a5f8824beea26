use Rattle.plant.proofs.Tested.{held_fine}
use Rattle.plant.proofs.held_plant.HeldPlant.new.Goals as goal

pub invariant_of-result : goal.invariant_of-result
invariant_of-result c =
    let h = held_fine c.args.n c.args.aim c.args.lines.now c.copied.result _ c.in_ok-aim.ensures c.copied.ensures in
    record { few = h.0; sized = h.1.0; fine = h.1.1.0; outward = h.1.1.1.0 }
