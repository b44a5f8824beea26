use Rattle.std.proofs.Common.{None}
use Rattle.std.proofs.lemmas.Result.{err_from_is_err_and}
use Rattle.plant.specs.Tests.{aim_numbered, test_list}
use Rattle.plant.proofs.Tested.{fails_after_aim}
use Rattle.plant.proofs.list.test_plant.Goals as goal

pub returns-in_err-test_list : goal.returns-in_err-test_list
returns-in_err-test_list c =
    let p = err_from_is_err_and c.from_residual-in_err-test_list.result c.from_residual-in_err-test_list.ensures.1 in
    rw (p.1, p.2) (fails_after_aim (aim_numbered c.args.aim) (test_list c.args.n c.args.lines.now None) _ _ c.in_ok-aim.ensures c.in_err-test_list.ensures)
