-- What the steps from a file to its sheet hand on.
use Rattle.std.specs.Prelude.{◌≡◌, ◌≤◌, List, length, None}
use Rattle.chooser.specs.declared.fifo.Fifo.{Fifo}
use Rattle.chooser.specs.FifoCalls.{holds}
use Rattle.plant.specs.declared.line.Line.{Line}
use Rattle.plant.specs.Tests.{test_list}
use Rattle.planner.specs.declared.machine.Planner.{Planner}
use Rattle.planner.specs.Standing.{Sound, plant_in}
use Rattle.plantfile.specs.declared.reader.Heading.{Heading}
use Rattle.plant.specs.declared.line.Trial.{Trial}
use Rattle.plantfile.specs.Format.{Content}
use Rattle.plantfile.specs.Writing.{test_each}
use Rattle.ring.specs.Held.{items}
use Rattle.sheet_text.specs.declared.trials.Question.{Question}
use Rattle.sheet_text.specs.Sheets.{plant_told}

-- what was read: the heading, the lines, the trials that wait
abbrev pub content : Heading → List Line → List Trial → Content
content h ls ts = record { junctions = h.n; lines = ls; trials = ts; aim = h.aim }

-- what a question tells
abbrev pub asked : Question → Content
asked q = content q.heading q.lines.now (items q.waiting.now)

-- it passed its tests
pub record Ready (c : Content) : Type 0 where
  pub list : test_list c.junctions c.lines None ≡ None
  pub trials : test_each (length c.lines) c.trials ≡ None
  pub few : length c.trials ≤ 64

-- a planner that holds the question of a file
pub record Asks (c : Content) (p : Planner Fifo) : Type 0 where
  pub sound : Sound holds p
  pub plant : plant_in p ≡ plant_told c
  pub aim : p.plant.aim ≡ c.aim
