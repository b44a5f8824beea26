use Rattle.std.proofs.Common.{◌+◌, sym, refl, ap, ◌∙◌, arith}
use Rattle.plant.specs.Held.{arcs}
use Rattle.stage.specs.First.{filled}
use Rattle.planner.specs.Standing.{stage_in}
use Rattle.planner.proofs.Moves.{first_ends, at_one, in_one_made, one_more, one_sound, quiet_at, stands_at, tied_at, tied_one}
use Rattle.planner.proofs.Questions.{one_roomy, one_stands}
use Rattle.planner.proofs.Runs.{runs_through}
use Rattle.planner.proofs.machine.Planner.run_from_one.Goals as goal

pub run_counted-made-requires-clause-stands : goal.run_counted-made-requires-clause-stands
run_counted-made-requires-clause-stands g c =
    let p = c.args.self.now in
    let one = at_one g.C.Chooser.has p c.requires.sound c.requires.state in
    let n = p.plant.n in
    let k = first_ends n c.junctions-n.result c.first-first.result.start c.first-first.result.goal c.first-first.result.junctions c.junctions-n.ensures.value c.first-first.ensures in
    stands_at c.first-first.result.junctions c.first-first.result.start c.first-first.result.goal (n + 2) n (n + 1) (stage_in p) k.2 k.0 k.1 (one_stands p.plant (stage_in p) p.one one.done)

pub run_counted-made-requires-clause-roomy : goal.run_counted-made-requires-clause-roomy
run_counted-made-requires-clause-roomy g c =
    let p = c.args.self.now in
    let r = one_roomy p.plant (stage_in p) p.one (at_one g.C.Chooser.has p c.requires.sound c.requires.state).done in
    (omega (arith, r.0), omega (arith, r.1))

pub returns-then-any_active-clause-sound : goal.returns-then-any_active-clause-sound
returns-then-any_active-clause-sound g c =
    let p = c.args.self.now in
    let has = g.C.Chooser.has in
    let a = c.run_counted-made in
    let n = p.plant.n in
    let k = first_ends n c.junctions-n.result c.first-first.result.start c.first-first.result.goal c.first-first.result.junctions c.junctions-n.ensures.value c.first-first.ensures in
    one_sound has _ c.requires.state
    (one_more has g.C.Chooser.clears g.C.Chooser.puts g.C.Chooser.takes p.plant p.network a.new.network p.one p.two a.new.tally c.args.most a.result c.first-first.result.junctions c.first-first.result.start c.first-first.result.goal k.2 k.0 k.1
    (at_one has p c.requires.sound c.requires.state) (tied_one has p c.requires.sound c.requires.state) a.ensures.ran)
    (tied_at has n (n + 1) c.first-first.result.start c.first-first.result.goal a.new.network.rows.items a.new.network.chooser (sym k.0) (sym k.1) a.ensures.tied)

pub returns-then-not-is_filled-clause-sound : goal.returns-then-not-is_filled-clause-sound
returns-then-not-is_filled-clause-sound g c =
    let p = c.args.self.now in
    let has = g.C.Chooser.has in
    let a = c.run_counted-made in
    let n = p.plant.n in
    let k = first_ends n c.junctions-n.result c.first-first.result.start c.first-first.result.goal c.first-first.result.junctions c.junctions-n.ensures.value c.first-first.ensures in
    record {
      stand = record {
        one_done = one_more has g.C.Chooser.clears g.C.Chooser.puts g.C.Chooser.takes p.plant p.network a.new.network p.one p.two a.new.tally c.args.most a.result c.first-first.result.junctions c.first-first.result.start c.first-first.result.goal k.2 k.0 k.1
            (at_one has p c.requires.sound c.requires.state) (tied_one has p c.requires.sound c.requires.state) a.ensures.ran;
        quiet = quiet_at n (n + 1) c.first-first.result.start c.first-first.result.goal a.new.network.rows.items k.0 k.1 c.if-any_active.ensures;
        unfilled = ap (λ m. filled m (arcs a.new.network.lines.items)) (sym c.junctions-n.ensures.value) ∙ sym c.if-not-is_filled.ensures;
      };
      ties = tt;
    }

pub open_stage_two-requires : goal.open_stage_two-requires
open_stage_two-requires g c =
    let p = c.args.self.now in
    let has = g.C.Chooser.has in
    let a = c.run_counted-made in
    let n = p.plant.n in
    let k = first_ends n c.junctions-n.result c.first-first.result.start c.first-first.result.goal c.first-first.result.junctions c.junctions-n.ensures.value c.first-first.ensures in
    record {
      sound = one_sound has _ c.requires.state
          (one_more has g.C.Chooser.clears g.C.Chooser.puts g.C.Chooser.takes p.plant p.network a.new.network p.one p.two a.new.tally c.args.most a.result c.first-first.result.junctions c.first-first.result.start c.first-first.result.goal k.2 k.0 k.1
          (at_one has p c.requires.sound c.requires.state) (tied_one has p c.requires.sound c.requires.state) a.ensures.ran)
          (tied_at has n (n + 1) c.first-first.result.start c.first-first.result.goal a.new.network.rows.items a.new.network.chooser (sym k.0) (sym k.1) a.ensures.tied);
      state = c.requires.state;
      quiet = quiet_at n (n + 1) c.first-first.result.start c.first-first.result.goal a.new.network.rows.items k.0 k.1 c.if-any_active.ensures;
      filled = ap (λ m. filled m (arcs a.new.network.lines.items)) (sym c.junctions-n.ensures.value) ∙ sym c.if-not-is_filled.ensures;
    }

pub returns : goal.returns
returns g c =
    let p = c.args.self.now in
    let a = c.run_counted-made in
    let o = c.open_stage_two in
    let r = c.run_from_two-outcome in
    let n = p.plant.n in
    let k = first_ends n c.junctions-n.result c.first-first.result.start c.first-first.result.goal c.first-first.result.junctions c.junctions-n.ensures.value c.first-first.ensures in
    record {
      runs = runs_through g.C.Chooser.has g.C.Chooser.clears g.C.Chooser.puts g.C.Chooser.takes p _ o.new.self r.new.self c.args.most a.result r.result.1 r.result.0 c.requires.state
          (in_one_made g.C.Chooser.has g.C.Chooser.clears g.C.Chooser.puts g.C.Chooser.takes p (record { plant = p.plant; network = a.new.network; one = a.new.tally; two = p.two; state = p.state }) c.args.most a.result
          c.first-first.result.junctions c.first-first.result.start c.first-first.result.goal k.2 k.0 k.1 a.ensures.few refl refl a.ensures.ran)
          (quiet_at n (n + 1) c.first-first.result.start c.first-first.result.goal a.new.network.rows.items k.0 k.1 c.if-any_active.ensures)
          (ap (λ m. filled m (arcs a.new.network.lines.items)) (sym c.junctions-n.ensures.value) ∙ sym c.if-not-is_filled.ensures) o.ensures.opened r.ensures.ran r.ensures.runs;
      sound = r.ensures.sound;
    }
