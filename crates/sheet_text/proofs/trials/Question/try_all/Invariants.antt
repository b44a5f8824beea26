use Rattle.std.proofs.Common.{◌≡◌, ℕ, ◌<◌, length, get_or}
use Rattle.chooser.specs.FifoCalls.{holds}
use Rattle.planner.specs.Standing.{Sound}
use Rattle.sheet_text.specs.Sheets.{TriedAll, plant_told}
use Rattle.sheet_text.specs.Steps.{asked}
use Rattle.text.specs.Text.{Sized, nothing}
use Rattle.sheet_text.proofs.trials.Question.try_all.Given as goal

abbrev pub invariant-loop-trial : goal.invariant-loop-trial
invariant-loop-trial l =
    (goal.iterator-loop-trial).can_next l.trial-iterator
    × (goal.iterator-loop-trial).is_finite l.trial-iterator
    × Sound holds l.self.planner.now
    × (asked l.self ≡ asked l.initial.self)
    × TriedAll l.initial.self.heading.aim (plant_told (asked l.initial.self)) l.yielded l.tried.items
    × ((i : ℕ) → i < length l.tried.items → Sized (get_or l.tried.items i nothing))
