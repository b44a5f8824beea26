use Rattle.std.proofs.Common.{take, subst}
use Rattle.plant.specs.Tests.{tested}
use Rattle.planner.specs.Calls.{Settles}
use Rattle.planner.specs.declared.answer.Outcome.{Outcome}
use Rattle.planner.proofs.Tried.{not_both}
use Rattle.ring.specs.Held.{items}
use Rattle.std.proofs.lemmas.Result.{err_from_is_err_and}
use Rattle.sheet_text.specs.Sheets.{checked}
use Rattle.sheet_text.specs.Steps.{content}
use Rattle.sheet_text.proofs.Showing.{all_listed, asks_told, listed_short, settled_flow, short_listed}
use Rattle.sheet_text.proofs.Testing.{list_tested}
use Rattle.sheet_text.proofs.listing.write_listing.Goals as goal

pub returns-in_err-expect_room : goal.returns-in_err-expect_room
returns-in_err-expect_room c =
    let p = err_from_is_err_and c.from_residual-in_err-expect_room.result c.from_residual-in_err-expect_room.ensures.1 in
    let e = c.in_err-expect_room.ensures in
    rw (p.1, p.2) (record { listed = short_listed c.args.out.now (checked c.args.file.now) _ _ c.in_ok-heading.ensures.told e.0 e.1; short = tt })

pub returns-in_err-start : goal.returns-in_err-start
returns-in_err-start c =
    let h = c.in_ok-heading.heading in
    let ls = c.read_checked.new.lines in
    let r = c.in_ok-heading.ensures.ready.1 in
    not_both (tested h.n (take h.lines ls) c.from.result) h.aim _ (list_tested h.n c.from.result (take h.lines ls) h.aim c.from.ensures r.list) c.in_err-start.ensures.starts.0

pub list_hurdle-requires : goal.list_hurdle-requires
list_hurdle-requires c =
    let h = c.in_ok-heading.heading in
    let ls = c.read_checked.new.lines in
    let ts = items c.read_checked.new.waiting in
    let r = c.in_ok-heading.ensures.ready.1 in
    let s = c.in_ok-outcome.ensures in
    record {
      settled = subst (λ (o : Outcome). Settles o c.settle.new.planner.state) c.in-Impossible.is s.settled;
      asks = asks_told _ _ _ h (take h.lines ls) ts c.from.result c.new-planner.result c.start.new.self c.settle.new.planner c.in_ok-start.ensures.starts s.sound s.plant c.from.ensures r.list;
      ready = r;
      room = c.in_ok-expect_room.ensures;
    }

pub list_flow-requires : goal.list_flow-requires
list_flow-requires c =
    let h = c.in_ok-heading.heading in
    let ls = c.read_checked.new.lines in
    let ts = items c.read_checked.new.waiting in
    let r = c.in_ok-heading.ensures.ready.1 in
    let s = c.in_ok-outcome.ensures in
    record {
      settled = settled_flow c.in_ok-outcome.outcome c.settle.new.planner.state c.in-InWork.is s.settled;
      asks = asks_told _ _ _ h (take h.lines ls) ts c.from.result c.new-planner.result c.start.new.self c.settle.new.planner c.in_ok-start.ensures.starts s.sound s.plant c.from.ensures r.list;
      ready = r;
      room = c.in_ok-expect_room.ensures;
    }

pub returns-in-Impossible : goal.returns-in-Impossible
returns-in-Impossible c =
    let h = c.in_ok-heading.heading in
    let ls = c.read_checked.new.lines in
    let ts = items c.read_checked.new.waiting in
    let told = c.in_ok-heading.ensures.told in
    let listed = all_listed c.args.out.now c.list_hurdle.new.out (checked c.args.file.now) (content h (take h.lines ls) ts) c.list_hurdle.result told c.in_ok-expect_room.ensures c.list_hurdle.ensures in
    record { listed = listed; short = listed_short c.args.out.now c.list_hurdle.new.out (checked c.args.file.now) c.list_hurdle.result c.in_ok-expect_room.ensures listed }

pub returns-in-InWork : goal.returns-in-InWork
returns-in-InWork c =
    let h = c.in_ok-heading.heading in
    let ls = c.read_checked.new.lines in
    let ts = items c.read_checked.new.waiting in
    let told = c.in_ok-heading.ensures.told in
    let listed = all_listed c.args.out.now c.list_flow.new.out (checked c.args.file.now) (content h (take h.lines ls) ts) c.list_flow.result told c.in_ok-expect_room.ensures c.list_flow.ensures in
    record { listed = listed; short = listed_short c.args.out.now c.list_flow.new.out (checked c.args.file.now) c.list_flow.result c.in_ok-expect_room.ensures listed }
