use Rattle.std.proofs.Common.{sym, arith}
use Rattle.planner.specs.Standing.{goal_of, stage_in, start_of}
use Rattle.planner.proofs.Moves.{at_two, quiet_at, second_ends, stands_at, tied_at, tied_two, two_more, two_sound}
use Rattle.planner.proofs.Questions.{two_roomy, two_stands}
use Rattle.planner.proofs.machine.Planner.run_from_two.Goals as goal

pub run_counted-made-requires-clause-stands : goal.run_counted-made-requires-clause-stands
run_counted-made-requires-clause-stands g c =
    let p = c.args.self.now in
    let two = at_two g.C.Chooser.has p c.requires.sound c.requires.state in
    let aim = p.plant.aim in
    let n = p.plant.n in
    let k = second_ends aim c.aim.result n c.junctions.result c.second-second.result.start c.second-second.result.goal c.second-second.result.junctions c.aim.ensures c.junctions.ensures.value c.second-second.ensures in
    stands_at c.second-second.result.junctions c.second-second.result.start c.second-second.result.goal n (start_of aim) (goal_of aim) (stage_in p) k.2 k.0 k.1 (two_stands p.plant aim (stage_in p) p.one p.two two)

pub run_counted-made-requires-clause-roomy : goal.run_counted-made-requires-clause-roomy
run_counted-made-requires-clause-roomy g c =
    let p = c.args.self.now in
    let r = two_roomy p.plant p.plant.aim (stage_in p) p.one p.two (at_two g.C.Chooser.has p c.requires.sound c.requires.state) in
    (omega (arith, r.0), omega (arith, r.1))

pub returns-then-any_active-clause-sound : goal.returns-then-any_active-clause-sound
returns-then-any_active-clause-sound g c =
    let p = c.args.self.now in
    let has = g.C.Chooser.has in
    let a = c.run_counted-made in
    let aim = p.plant.aim in
    let n = p.plant.n in
    let two = at_two has p c.requires.sound c.requires.state in
    let k = second_ends aim c.aim.result n c.junctions.result c.second-second.result.start c.second-second.result.goal c.second-second.result.junctions c.aim.ensures c.junctions.ensures.value c.second-second.ensures in
    two_sound has _ c.requires.state
    (two_more has g.C.Chooser.clears g.C.Chooser.puts g.C.Chooser.takes p.plant aim p.network a.new.network p.one p.two a.new.tally c.args.most a.result c.second-second.result.junctions c.second-second.result.start c.second-second.result.goal k.2 k.0 k.1 two
    (tied_two has p c.requires.sound c.requires.state) a.ensures.ran)
    (tied_at has (start_of aim) (goal_of aim) c.second-second.result.start c.second-second.result.goal a.new.network.rows.items a.new.network.chooser (sym k.0) (sym k.1) a.ensures.tied)

pub returns-clause-sound : goal.returns-clause-sound
returns-clause-sound g c =
    let p = c.args.self.now in
    let has = g.C.Chooser.has in
    let a = c.run_counted-made in
    let aim = p.plant.aim in
    let n = p.plant.n in
    let two = at_two has p c.requires.sound c.requires.state in
    let k = second_ends aim c.aim.result n c.junctions.result c.second-second.result.start c.second-second.result.goal c.second-second.result.junctions c.aim.ensures c.junctions.ensures.value c.second-second.ensures in
    record {
      stand = record {
        two_done = two_more has g.C.Chooser.clears g.C.Chooser.puts g.C.Chooser.takes p.plant aim p.network a.new.network p.one p.two a.new.tally c.args.most a.result c.second-second.result.junctions c.second-second.result.start c.second-second.result.goal k.2 k.0 k.1 two
            (tied_two has p c.requires.sound c.requires.state) a.ensures.ran;
        quiet = quiet_at (start_of aim) (goal_of aim) c.second-second.result.start c.second-second.result.goal a.new.network.rows.items k.0 k.1 c.if-any_active.ensures;
      };
      ties = tt;
    }
