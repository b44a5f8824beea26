use Rattle.std.proofs.Common.{◌≡◌, ◌-◌, true, false, length, refl, rules, arith}
use Rattle.std.proofs.lemmas.Iterator.{cases_from_any, YieldsList-from_range}
use Rattle.stage.specs.Model.{active}
use Rattle.preflow.proofs.Actives.{any_told}
use Rattle.preflow.proofs.stages.Stage.any_active.Goals as goal

pub returns : goal.returns
returns c =
    let st = c.args.self in
    let on = active st.start st.goal c.args.rows.now in
    let n : length c.args.rows.now - 0 ≡ length c.args.rows.now = omega arith in
    any_told st.start st.goal (length c.args.rows.now) c.args.rows.now _ refl
    (cases_from_any _ _ _ (λ v. on v ≡ true) (λ v. on v ≡ false) c.any.ensures.ran (YieldsList-from_range 0 (length c.args.rows.now) (length c.args.rows.now) refl n) (λ x q k. search rules) (λ x q k. search rules))
