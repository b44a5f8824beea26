use Rattle.std.proofs.Common.{rules, ℕ, ℤ, Ok, take, replicate, refl}
use Rattle.runs.proofs.Told.{cut_told, lent}
use Rattle.runs.proofs.playing.read_cut.Goals as goal

pub returns : goal.returns
returns g c q s =
    let len = c.min-len.result in
    let h = cut_told g.C.Chooser.has c.args.planner.now q c.args.side c.args.room (record { before = take len (replicate 32 0); answer = Ok (c.in_ok-junctions.junctions, c.in_ok-junctions.bound); after = c.cut.new.out }) _ s
    (lent {A = ℕ × ℤ} c.args.room len (replicate 32 0) c.cut.new.out (Ok (c.in_ok-junctions.junctions, c.in_ok-junctions.bound)) refl c.min-len.ensures) (c.in_ok-junctions.ensures.seen c.requires) in
    search rules
