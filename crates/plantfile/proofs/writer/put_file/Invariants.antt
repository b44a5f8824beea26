use Rattle.std.specs.List.{flat_map}
use Rattle.plantfile.specs.Writing.{command_bytes}
use Rattle.text.specs.Pieces.{Adds}
use Rattle.plantfile.proofs.writer.put_file.Given as goal

abbrev pub invariant-loop-command : goal.invariant-loop-command
invariant-loop-command l =
    (goal.iterator-loop-command).can_next l.command-iterator
    × (goal.iterator-loop-command).is_finite l.command-iterator
    × Adds (flat_map command_bytes l.yielded) l.initial.page l.page
