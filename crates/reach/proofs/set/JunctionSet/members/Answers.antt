use Rattle.std.proofs.Common.{◌≡◌, ◌+◌, sym, refl, ap, ◌∙◌, inl, inr, arith}
use Rattle.reach.specs.Sets.{member, members_below, size}
use Rattle.reach.proofs.Bytes.{listed_step, size_le}
use Rattle.reach.proofs.set.JunctionSet.members.Goals as goal
use Rattle.reach.proofs.set.JunctionSet.members.Goals.{then-contains, else-contains}

pub loop-v-init : goal.loop-v-init
unfolding members_below size
loop-v-init c = (refl, refl, refl)

pub bounds-out-count : goal.bounds-out-count
bounds-out-count c = omega (arith, size_le (member c.args.self.now.bytes) c.loop-v.v, c.loop-v.invariant.1)

pub overflow_add-count : goal.overflow_add-count
overflow_add-count c = omega (arith, size_le (member c.args.self.now.bytes) c.loop-v.v, c.loop-v.invariant.1)

pub loop-v-preserved : goal.loop-v-preserved
loop-v-preserved c =
    listed_step (member c.args.self.now.bytes) c.loop-v.v _ _ _ _ _ (omega arith) c.loop-v.invariant (elim c.if-contains.branch [
      | then-contains w ↦ inl (sym c.contains.ensures ∙ w.if-contains.true, w.out-is, w.count-is)
      | else-contains w ↦ inr (sym c.contains.ensures ∙ w.if-contains.false, w.out-is, w.count-is)
    ])

pub returns-after-contains : goal.returns-after-contains
returns-after-contains c =
    let S = member c.args.self.now.bytes in
    let e : c.loop-v.v + 1 ≡ 256 = omega arith in
    let all = listed_step S c.loop-v.v _ _ _ _ _ (omega arith) c.loop-v.invariant (elim c.if-contains.branch [
      | then-contains w ↦ inl (sym c.contains.ensures ∙ w.if-contains.true, w.out-is, w.count-is)
      | else-contains w ↦ inr (sym c.contains.ensures ∙ w.if-contains.false, w.out-is, w.count-is)
    ]) in
    record { front = all.0 ∙ ap (members_below S) e; count = all.1 ∙ ap (size S) e; rest = all.2 }
