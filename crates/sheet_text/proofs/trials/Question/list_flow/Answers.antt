use Rattle.std.proofs.Common.{◌≡◌, length, ◌∙◌, rules}
use Rattle.ring.specs.Held.{items}
use Rattle.sheet_text.specs.Sheets.{TriedAll, plant_told}
use Rattle.sheet_text.specs.Steps.{asked}
use Rattle.sheet_text.proofs.Showing.{few_junctions, few_marks, flow_sheet, sheet_put}
use Rattle.sheet_text.proofs.trials.Question.list_flow.Goals as goal

pub put-requires : goal.put-requires
put-requires c =
    let q = c.args.self.now in
    let n = few_junctions (asked q) q.planner.now c.requires.asks in
    record {
      total = c.in_ok-total.ensures.1;
      flows = rw c.as_slice.ensures.value c.in_ok-flows.ensures.small;
      cuts = (few_marks q.heading.n c.in_ok-near.near n, few_marks q.heading.n c.in_ok-far.far n);
      trials = rw c.as_slice-2.ensures.value c.in_ok-tried.ensures.1;
      room = c.requires.room;
    }

pub returns : goal.returns
returns c =
    let q = c.args.self.now in
    let wide : length c.in_ok-near.near ≡ 256 = search rules in
    let wide₂ : length c.in_ok-far.far ≡ 256 = search rules in
    let all : TriedAll q.heading.aim (plant_told (asked q)) (items q.waiting.now) c.as_slice-2.result.now = rw c.as_slice-2.ensures.value c.in_ok-tried.ensures.0 in
    let s = flow_sheet (asked q) q.planner.now c.requires.asks c.requires.settled c.in_ok-total.total c.as_slice.result.now c.in_ok-near.near c.in_ok-far.far c.as_slice-2.result.now
    c.in_ok-total.ensures.0 (c.as_slice.ensures.value ∙ c.in_ok-flows.ensures.flows) wide c.in_ok-near.ensures wide₂ c.in_ok-far.ensures all in
    sheet_put (asked q) _ c.args.out.now c.put.new.out c.put.result s c.put.ensures.short c.put.ensures.text
