use Rattle.std.proofs.Common.{length, ap}
use Rattle.sheet_text.proofs.Reading.{cut_marked}
use Rattle.sheet_text.proofs.readings.read_cut.Goals as goal

pub returns : goal.returns
returns c = cut_marked c.args.planner.now c.args.side c.new-set.result.bytes c.cut.new.out c.in_ok-cut.field-0 c.marks.result (ap length c.new-set.ensures.bytes) (c.in_ok-cut.ensures.seen c.requires.0) c.marks.ensures
