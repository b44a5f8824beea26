use Rattle.std.proofs.Common.{◌≡◌, length, take, drop, Ok, Err, refl, ap, ◌∙◌, arith}
use Rattle.std.proofs.lemmas.List.{take_all, take-append-le}
use Rattle.runs.proofs.Told.{crossing_told}
use Rattle.runs.proofs.playing.read_crossing.Goals as goal

pub returns-in-Ok : goal.returns-in-Ok
returns-in-Ok g c q s =
    let after = c.crossing.new.out in
    let rest = drop (length after) c.in_ok-numbers.numbers.items in
    let kept : length after ≡ c.in_ok-numbers.numbers.len = c.crossing.auto.out ∙ c.deref_mut.ensures.len in
    let whole = take-append-le c.in_ok-numbers.numbers.len after rest (omega arith) ∙ take_all c.in_ok-numbers.numbers.len after (omega arith) in
    crossing_told g.C.Chooser.has c.args.planner.now q c.args.side c.args.room (record { before = c.deref_mut.result.now; answer = Ok c.in-Ok.count; after = after }) _ s
    (c.deref_mut.ensures.len ∙ c.in_ok-numbers.ensures.len) (c.truncate.new.self, refl, c.truncate.ensures.items ∙ ap (take c.in-Ok.count) whole) (c.in-Ok.ensures.seen c.requires)

pub returns-in-Err : goal.returns-in-Err
returns-in-Err g c q s =
    crossing_told g.C.Chooser.has c.args.planner.now q c.args.side c.args.room (record { before = c.deref_mut.result.now; answer = Err c.in-Err.decline; after = c.crossing.new.out }) _ s
    (c.deref_mut.ensures.len ∙ c.in_ok-numbers.ensures.len) refl (c.in-Err.ensures.seen c.requires)
