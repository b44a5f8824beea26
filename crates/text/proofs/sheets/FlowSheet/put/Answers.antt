use Rattle.std.proofs.Common.{arith}
use Rattle.text.proofs.Paste.{begin_ends, begin_fits}
use Rattle.text.proofs.Room.{flow_short}
use Rattle.text.proofs.sheets.FlowSheet.put.Goals as goal

pub put_on-requires : goal.put_on-requires
put_on-requires c =
    let s = c.args.self.now in
    let r = c.requires in
    begin_fits c.new-page.ensures.begins r.room (flow_short s.aim s.total s.flows.now s.near.now s.far.now s.trials.now r.total r.flows r.cuts.0 r.cuts.1 r.trials)

pub returns-clause-short : goal.returns-clause-short
returns-clause-short c =
    let s = c.args.self.now in
    let r = c.requires in
    omega (arith, begin_ends c.new-page.ensures.begins c.put_on.ensures, flow_short s.aim s.total s.flows.now s.near.now s.far.now s.trials.now r.total r.flows r.cuts.0 r.cuts.1 r.trials)
