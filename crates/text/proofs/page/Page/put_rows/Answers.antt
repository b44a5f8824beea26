use Rattle.std.proofs.Common.{◌≡◌, length, sym, arith}
use Rattle.text.proofs.Paste.{adds_nothing, row_added, row_fits}
use Rattle.text.proofs.page.Page.put_rows.Goals as goal

pub loop-place-init : goal.loop-place-init
loop-place-init g c = λ d. adds_nothing c.args.self.now

pub put-requires : goal.put-requires
put-requires g c = row_fits g.R.Row.text c.args.rows.now c.loop-place.place c.index-rows-place.result c.loop-place-test.true c.index-rows-place.is c.loop-place.invariant c.requires

pub loop-place-preserved : goal.loop-place-preserved
loop-place-preserved g c = row_added g.R.Row.text c.args.rows.now c.loop-place.place c.index-rows-place.result c.loop-place-test.true c.index-rows-place.is c.loop-place.invariant c.put.ensures

pub returns : goal.returns
returns g c = let e : c.loop-place.place ≡ length c.args.rows.now = omega arith in rw (sym e) c.loop-place.invariant
