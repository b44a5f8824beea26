use Rattle.std.proofs.Common.{◌≡◌, length, rules}
use Rattle.ring.specs.Held.{items}
use Rattle.sheet_text.specs.Sheets.{TriedAll, plant_told}
use Rattle.sheet_text.specs.Steps.{asked}
use Rattle.sheet_text.proofs.Showing.{few_junctions, few_marks, hurdle_sheet, sheet_put}
use Rattle.sheet_text.proofs.trials.Question.list_hurdle.Goals as goal

pub put-requires : goal.put-requires
put-requires c =
    let q = c.args.self.now in
    record {
      shortfall = c.in_ok-hurdle.ensures.shortfall.1;
      hurdle = few_marks q.heading.n c.in_ok-hurdle.hurdle (few_junctions (asked q) q.planner.now c.requires.asks);
      trials = rw c.as_slice.ensures.value c.in_ok-tried.ensures.1;
      room = c.requires.room;
    }

pub returns : goal.returns
returns c =
    let q = c.args.self.now in
    let wide : length c.in_ok-hurdle.hurdle ≡ 256 = search rules in
    let h = c.in_ok-hurdle.ensures in
    let all : TriedAll q.heading.aim (plant_told (asked q)) (items q.waiting.now) c.as_slice.result.now = rw c.as_slice.ensures.value c.in_ok-tried.ensures.0 in
    let s = hurdle_sheet (asked q) q.planner.now c.requires.asks c.requires.settled c.in_ok-hurdle.shortfall c.in_ok-hurdle.hurdle c.as_slice.result.now wide h.worst h.shortfall.0 all in
    sheet_put (asked q) _ c.args.out.now c.put.new.out c.put.result s c.put.ensures.short c.put.ensures.text
