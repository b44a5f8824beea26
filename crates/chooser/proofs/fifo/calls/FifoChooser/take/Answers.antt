use Rattle.std.proofs.Common.{ℕ, false, List, [], get_or, sym, refl, ◌∙◌, subst, arith, length-set, get_or-set_other, get_or-set_same}
use Rattle.chooser.specs.Flags.{ones_none, ones_off, flag_below}
use Rattle.chooser.proofs.Listed.{Listed, listed_first, listed_take}
use Rattle.chooser.proofs.Rings.{run_none, run_take}
use Rattle.chooser.proofs.fifo.calls.FifoChooser.take.Goals as goal

pub returns-then-self-eq0 : goal.returns-then-self-eq0
returns-then-self-eq0 c =
    let s = c.args.self.now in
    let none = ones_none s.member (sym s.counted ∙ c.if-self-eq0.true) in
    record { set = (none, none); takes = (run_none s.ring s.head s.count c.if-self-eq0.true, refl) }

pub bounds-self-v : goal.bounds-self-v
bounds-self-v c =
    let s = c.args.self.now in
    let all = run_take s.ring s.head s.count s.inside (omega arith) in
    omega (arith, s.wide.0, flag_below s.member (get_or s.ring s.head 0) (listed_first _ _ _ s.member all s.listed))

pub invariant_of-self : goal.invariant_of-self
invariant_of-self c =
    let s = c.args.self.now in
    let v = get_or s.ring s.head 0 in
    let all = run_take s.ring s.head s.count s.inside (omega arith) in
    let on = listed_first _ _ _ s.member all s.listed in
    record {
      wide = (simp length-set s.wide.0, s.wide.1);
      inside = omega arith;
      counted = omega (arith, s.counted, ones_off s.member v on);
      listed = listed_take [] _ s.member v on (flag_below s.member v on) (subst (λ (xs : List ℕ). Listed xs s.member) all s.listed);
    }

pub returns : goal.returns
returns c =
    let s = c.args.self.now in
    let v = get_or s.ring s.head 0 in
    let all = run_take s.ring s.head s.count s.inside (omega arith) in
    let on = listed_first _ _ _ s.member all s.listed in
    record {
      set = (
        on,
        get_or-set_same s.member v false false (flag_below s.member v on),
        λ u ne. get_or-set_other s.member v u false false ne,
      );
      takes = all;
    }
