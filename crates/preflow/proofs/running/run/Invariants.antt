use Rattle.std.proofs.Common.{◌≤◌}
use Rattle.stage.specs.Runs.{Tied}
use Rattle.preflow.specs.Running.{Ran}
use Rattle.preflow.specs.Stages.{Stands, state_of}
use Rattle.preflow.proofs.running.run.Given as goal

abbrev pub invariant-loop-made : goal.invariant-loop-made
invariant-loop-made g l =
    Ran g.C.Chooser.has g.C.Chooser.puts g.C.Chooser.takes l.stage.junctions l.stage.start l.stage.goal (state_of l.initial.lines l.initial.rows) l.initial.chooser l.made l.relabels (state_of l.lines l.rows) l.chooser
    × Stands l.stage.junctions l.stage.start l.stage.goal (state_of l.lines l.rows)
    × Tied g.C.Chooser.has l.stage.start l.stage.goal l.rows l.chooser
    × (l.relabels ≤ l.made)
