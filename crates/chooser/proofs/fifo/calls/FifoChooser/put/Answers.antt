use Rattle.std.proofs.Common.{ℕ, ◌<◌, true, false, List, length, set, sym, subst, arith, length-set, get_or-set_other, get_or-set_same}
use Rattle.std.proofs.lemmas.Bool.{both_ways}
use Rattle.chooser.specs.Flags.{ones_room, ones_on}
use Rattle.chooser.proofs.Listed.{Listed, listed_put}
use Rattle.chooser.proofs.Rings.{run_put}
use Rattle.chooser.proofs.fifo.calls.FifoChooser.put.Goals as goal

free : (c : goal.Then-not-self-at) → c.args.self.now.count < 252
free c =
    let s = c.args.self.now in
    omega (arith, s.counted, s.wide.0, ones_room s.member c.args.v (omega (arith, s.wide.0)) c.if-not-self-at.true)

pub overflow_add-end : goal.overflow_add-end
overflow_add-end c = omega (arith, free c, c.args.self.now.inside)

pub overflow_add-self : goal.overflow_add-self
overflow_add-self c = omega (arith, free c)

pub invariant_of-self : goal.invariant_of-self
invariant_of-self c =
    let s = c.args.self.now in
    let off = c.if-not-self-at.true in
    let small : c.args.v < length s.member = omega (arith, s.wide.0) in
    let m = set s.member c.args.v true in
    record {
      wide = (simp length-set s.wide.0, simp length-set s.wide.1);
      inside = s.inside;
      counted = omega (arith, s.counted, ones_on s.member c.args.v small off);
      listed = subst (λ (xs : List ℕ). Listed xs m) (sym (run_put s.ring s.head s.count c.args.v s.wide.1 (free c)))
          (listed_put _ s.member c.args.v small off s.listed);
    }

pub returns-then-not-self-at : goal.returns-then-not-self-at
returns-then-not-self-at c =
    let s = c.args.self.now in
    let off = c.if-not-self-at.true in
    let small : c.args.v < length s.member = omega (arith, s.wide.0) in
    let room : s.count < 252 = omega (arith, s.counted, s.wide.0, ones_room s.member c.args.v small off) in
    record {
      set = (
        λ _. get_or-set_same s.member c.args.v true false small,
        λ h. absurd (omega arith),
        λ u ne. get_or-set_other s.member c.args.v u true false ne,
      );
      puts = (
        λ _ _. run_put s.ring s.head s.count c.args.v s.wide.1 room,
        λ on. absurd (both_ways _ off on),
        λ h. absurd (omega arith),
      );
    }
