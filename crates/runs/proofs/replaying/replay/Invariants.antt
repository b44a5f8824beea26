use Rattle.std.proofs.Common.{◌≡◌, take, vec_items, vec_len}
use Rattle.law.specs.Law.{beside}
use Rattle.planner.specs.Standing.{Sound}
use Rattle.runs.proofs.Grows.{Running, Sofar}
use Rattle.runs.proofs.replaying.replay.Given as goal

abbrev pub invariant-loop-i : goal.invariant-loop-i
invariant-loop-i g l =
    Sound g.C.Chooser.has l.planner × (vec_len l.answers ≡ l.i) × Sofar l.initial.script l.script l.i
    × Running g.C.Chooser.has g.C.Chooser.clears g.C.Chooser.puts g.C.Chooser.takes l.initial.planner (beside (take l.i l.initial.script) (vec_items l.answers)) l.planner
