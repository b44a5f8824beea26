use Rattle.std.proofs.Common.{length, ap, arith}
use Rattle.sheet_text.proofs.Reading.{hurdle_marked}
use Rattle.sheet_text.proofs.readings.read_hurdle.Goals as goal

pub returns : goal.returns
returns c =
    let h = hurdle_marked c.args.planner.now c.new-set.result.bytes c.hurdle.new.out (c.in_ok-shortfall.field-0-0, c.in_ok-shortfall.shortfall) c.marks.result (ap length c.new-set.ensures.bytes) (c.in_ok-shortfall.ensures.seen c.requires.0) c.marks.ensures in
    record { worst = h.0; shortfall = (h.1, omega (arith, h.2)) }
