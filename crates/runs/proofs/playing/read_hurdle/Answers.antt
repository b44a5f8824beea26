use Rattle.std.proofs.Common.{rules, ℕ, Ok, take, replicate, refl}
use Rattle.runs.proofs.Told.{hurdle_told, lent}
use Rattle.runs.proofs.playing.read_hurdle.Goals as goal

pub returns : goal.returns
returns g c q s =
    let len = c.min-len.result in
    let h = hurdle_told g.C.Chooser.has c.args.planner.now q c.args.room (record { before = take len (replicate 32 0); answer = Ok (c.in_ok-junctions.junctions, c.in_ok-junctions.shortfall); after = c.hurdle.new.out }) _ s
    (lent {A = ℕ × ℕ} c.args.room len (replicate 32 0) c.hurdle.new.out (Ok (c.in_ok-junctions.junctions, c.in_ok-junctions.shortfall)) refl c.min-len.ensures) (c.in_ok-junctions.ensures.seen c.requires) in
    search rules
