use Rattle.std.proofs.Common.{◌≡◌, ◌+◌, [], refl, rules}
use Rattle.plant.specs.Held.{plant_of}
use Rattle.stage.specs.First.{first_arcs}
use Rattle.first.proofs.Network.{first_begins}
use Rattle.preflow.specs.Networks.{state_in}
use Rattle.planner.specs.Tallies.{no_tally}
use Rattle.planner.proofs.Moves.{first_ends, balanced_at, opens_at}
use Rattle.planner.proofs.Questions.{sound_plant}
use Rattle.planner.proofs.machine.Planner.open_stage_one.Goals as goal

pub begin-requires : goal.begin-requires
begin-requires g c =
    let h = c.args.self.now.plant in
    let n = h.n in
    let k = first_ends n c.junctions.result c.first.result.start c.first.result.goal c.first.result.junctions c.junctions.ensures.value c.first.ensures in
    record {
      balanced = balanced_at c.first.result.junctions c.first.result.start c.first.result.goal (n + 2) n (n + 1) (first_arcs (plant_of h)) _ k.2 k.0 k.1 c.open_first.ensures.lines (first_begins (plant_of h) (sound_plant h)).balanced;
      light = c.open_first.ensures.light;
    }

pub returns : goal.returns
returns g c =
    let h = c.args.self.now.plant in
    let n = h.n in
    let k = first_ends n c.junctions.result c.first.result.start c.first.result.goal c.first.result.junctions c.junctions.ensures.value c.first.ensures in
    let o = c.open_first in
    let b = c.begin in
    let r = opens_at g.C.Chooser.has g.C.Chooser.clears g.C.Chooser.puts g.C.Chooser.takes c.first.result.junctions c.first.result.start c.first.result.goal (n + 2) n (n + 1) (first_arcs (plant_of h)) _
    c.args.self.now.network.chooser o.new.self.chooser b.new.self.chooser (state_in b.new.self) k.2 k.0 k.1 o.ensures.lines o.ensures.chooser b.ensures.state b.ensures.puts b.ensures.tied in
    let none : c.default-self.result ≡ no_tally = search rules in
    let none₂ : c.default-self-2.result ≡ no_tally = search rules in
    record {
      opened = record { plant = refl; state = refl; begins = r.begins; one = none; two = none₂; chooser = r.chooser };
      sound = record { stand = record { done = record { taken = []; run = tt; is = r.begins; discharged = c.default-self.ensures.1; relabelled = c.default-self.ensures.0 }; none = none₂ }; ties = r.tied };
    }
