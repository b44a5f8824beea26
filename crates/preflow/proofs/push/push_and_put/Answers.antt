use Rattle.std.proofs.Common.{◌≡◌, ap, ◌∙◌}
use Rattle.plant.specs.Held.{arc, other}
use Rattle.stage.specs.Model.{amount, lab, wakes}
use Rattle.stage.proofs.Rows.{lab_sent}
use Rattle.preflow.proofs.Wakes.{told_some, put_yes}
use Rattle.preflow.proofs.push.push_and_put.Goals as goal

pub returns-in-Some : goal.returns-in-Some
returns-in-Some g c =
    let s = c.args.stage.start in
    let t = c.args.stage.goal in
    let v = c.args.v in
    let x = arc c.args.held.now in
    let rs = c.args.rows.now in
    let w = c.in-Some.w in
    let a = told_some (wakes s t v x rs) (other v x) w c.in-Some.ensures.woken in
    let k : lab c.push_due.new.rows w ≡ lab rs (other v x) =
    ap (λ r. lab r w) c.push_due.ensures.rows ∙ lab_sent v (other v x) (amount v x rs) rs w ∙ ap (lab rs) a.1 in
    record {
      line = c.push_due.ensures.line;
      rows = c.push_due.ensures.rows;
      puts = put_yes g.C.Chooser.has g.C.Chooser.puts (wakes s t v x rs) (other v x) (lab rs (other v x)) w (lab c.push_due.new.rows w)
          c.args.chooser.now c.put.new.self a.0 a.1 k (c.put.ensures.puts, c.put.ensures.set);
    }
