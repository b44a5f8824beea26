use Rattle.std.proofs.Common.{ℕ, ◌<◌, ◌∙◌, true, List, length, set, sym, subst, arith, length-set}
use Rattle.chooser.specs.Flags.{ones_room, ones_on}
use Rattle.chooser.proofs.Listed.{Listed, listed_put}
use Rattle.chooser.proofs.arrived.Arrived.put.Goals as goal

pub push-requires : goal.push-requires
push-requires c =
    let s = c.args.self.now in
    (omega arith, omega (arith, s.counted, s.wide, ones_room s.member c.args.v (omega (arith, s.wide)) c.if-self-at.false))

pub invariant_of-self : goal.invariant_of-self
invariant_of-self c =
    let s = c.args.self.now in
    let small : c.args.v < length s.member = omega (arith, s.wide) in
    record {
      wide = length-set _ _ _ ∙ s.wide;
      counted = omega (arith, s.counted, c.push.ensures.len, ones_on s.member c.args.v small c.if-self-at.false);
      listed = subst (λ (xs : List ℕ). Listed xs (set s.member c.args.v true)) (sym c.push.ensures.items) (listed_put _ s.member c.args.v small c.if-self-at.false s.listed);
    }
