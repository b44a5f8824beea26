use borrow.Author.Differences.{up}
use Rattle.std.proofs.Common.{◌≡◌, ◌<◌, eqb, sym, refl, ◌∙◌, inl, arith}
use Rattle.std.proofs.lemmas.Int.{ints}
use Rattle.std.proofs.lemmas.Bool.{eq-eqb, lt-ltb, ne_eqb, not_from_true}
use Rattle.stage.specs.Model.{active, exc}
use Rattle.stage.proofs.Rows.{one_sided}
use Rattle.stage.proofs.Actives.{idle, off_ends}
use Rattle.preflow.proofs.stages.Stage.is_active.Goals as goal

pub returns-then-rows-v-le0 : goal.returns-then-rows-v-le0
returns-then-rows-v-le0 c =
    let e : up (exc c.args.rows.now c.args.v) ≡ 0 = omega (arith, ints, one_sided (exc c.args.rows.now c.args.v)) in
    sym (idle c.args.self.start c.args.self.goal c.args.rows.now c.args.v e)

pub returns-then-v-self : goal.returns-then-v-self
unfolding active
returns-then-v-self c =
    let e : 0 < up (exc c.args.rows.now c.args.v) = omega (arith, ints, one_sided (exc c.args.rows.now c.args.v)) in
    rw (lt-ltb 0 (up (exc c.args.rows.now c.args.v)) e, ne_eqb c.args.v c.args.self.start c.if-v-self.true) refl

pub returns-else-v-self : goal.returns-else-v-self
returns-else-v-self c =
    not_from_true (eqb c.args.v c.args.self.start) (eq-eqb c.args.v c.args.self.start c.if-v-self.false)
    ∙ sym (off_ends c.args.self.start c.args.self.goal c.args.rows.now c.args.v (inl c.if-v-self.false))
