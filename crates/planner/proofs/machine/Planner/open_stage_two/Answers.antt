use Rattle.std.proofs.Common.{[], refl, ap}
use Rattle.plant.specs.Held.{plant_of}
use Rattle.stage.specs.First.{second_arcs}
use Rattle.planner.specs.declared.answer.Tally.{Tally}
use Rattle.preflow.specs.Networks.{state_in}
use Rattle.planner.specs.Standing.{arcs_in, goal_of, stage_in, start_of}
use Rattle.planner.proofs.Moves.{at_one, balanced_at, opens_at, second_ends}
use Rattle.planner.proofs.Questions.{one_lines, opens_lines, two_balanced}
use Rattle.planner.proofs.machine.Planner.open_stage_two.Goals as goal

pub open_second-requires : goal.open_second-requires
open_second-requires g c =
    let p = c.args.self.now in
    let one = at_one g.C.Chooser.has p c.requires.sound c.requires.state in
    opens_lines (plant_of p.plant) p.network.lines.items (one_lines p.plant (stage_in p) p.one one.done)

pub begin-requires : goal.begin-requires
begin-requires g c =
    let p = c.args.self.now in
    let one = at_one g.C.Chooser.has p c.requires.sound c.requires.state in
    let P = plant_of p.plant in
    let aim = p.plant.aim in
    let n = p.plant.n in
    let k = second_ends aim c.aim.result n c.junctions.result c.second.result.start c.second.result.goal c.second.result.junctions c.aim.ensures c.junctions.ensures.value c.second.ensures in
    record {
      balanced = balanced_at c.second.result.junctions c.second.result.start c.second.result.goal n (start_of aim) (goal_of aim) (second_arcs P.lines (arcs_in p)) _ k.2 k.0 k.1 c.open_second.ensures.lines
          (two_balanced p.plant (stage_in p) p.one one.done aim c.requires.quiet c.requires.filled);
      light = c.open_second.ensures.light;
    }

pub returns : goal.returns
returns g c =
    let p = c.args.self.now in
    let one = at_one g.C.Chooser.has p c.requires.sound c.requires.state in
    let P = plant_of p.plant in
    let o = c.open_second in
    let b = c.begin in
    let aim = p.plant.aim in
    let n = p.plant.n in
    let k = second_ends aim c.aim.result n c.junctions.result c.second.result.start c.second.result.goal c.second.result.junctions c.aim.ensures c.junctions.ensures.value c.second.ensures in
    let r = opens_at g.C.Chooser.has g.C.Chooser.clears g.C.Chooser.puts g.C.Chooser.takes c.second.result.junctions c.second.result.start c.second.result.goal n (start_of aim) (goal_of aim) (second_arcs P.lines (arcs_in p)) _
    p.network.chooser o.new.self.chooser b.new.self.chooser (state_in b.new.self) k.2 k.0 k.1 o.ensures.lines o.ensures.chooser b.ensures.state b.ensures.puts b.ensures.tied in
    record {
      opened = record { plant = refl; state = refl; begins = r.begins; one = refl; two = refl; chooser = r.chooser };
      sound = record {
        stand = record {
          found = stage_in p;
          first = one.done;
          quiet = c.requires.quiet;
          full = c.requires.filled;
          done = record { taken = []; run = tt; is = r.begins; discharged = ap (λ (t : Tally). t.discharges) one.none; relabelled = ap (λ (t : Tally). t.relabels) one.none };
        };
        ties = r.tied;
      };
    }
