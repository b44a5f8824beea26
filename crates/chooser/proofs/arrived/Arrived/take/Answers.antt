use Rattle.std.proofs.Common.{ℕ, ◌≡◌, ◌<◌, ◌∙◌, Bool, true, false, List, length, get_or, set, remove, sym, subst, ap, arith, length-set, get_or-set_other, get_or-set_same}
use Rattle.std.proofs.lemmas.List.{get_or_default}
use Rattle.chooser.specs.Flags.{ones_off, flag_below}
use Rattle.chooser.specs.declared.arrived.Arrived.{Arrived}
use Rattle.chooser.proofs.Listed.{Listed, listed_at, listed_remove}
use Rattle.chooser.proofs.arrived.Arrived.take.Goals as goal

-- what `remove` answers stood at the place, and is a member
stood : (s : Arrived) (at v : ℕ) → v ≡ get_or s.order.items at v → at < length s.order.items → v ≡ get_or s.order.items at 0
stood s at v e h = e ∙ get_or_default s.order.items at v 0 h

was : (s : Arrived) (at v : ℕ) → v ≡ get_or s.order.items at v → at < length s.order.items → get_or s.member v false ≡ true
was s at v e h = ap (λ (u : ℕ). get_or s.member u false) (stood s at v e h) ∙ listed_at s.order.items s.member s.listed at h

pub bounds-self-v : goal.bounds-self-v
bounds-self-v c = let s = c.args.self.now in omega (arith, s.wide, flag_below s.member c.remove-v.result (was s c.args.at c.remove-v.result c.remove-v.ensures.value (omega arith)))

pub invariant_of-self : goal.invariant_of-self
invariant_of-self c =
    let s = c.args.self.now in
    let m : List Bool = set s.member c.remove-v.result false in
    record {
      wide = length-set _ _ _ ∙ s.wide;
      counted = omega (arith, s.counted, c.remove-v.ensures.len, ones_off s.member c.remove-v.result (was s c.args.at c.remove-v.result c.remove-v.ensures.value (omega arith)));
      listed = subst (λ (xs : List ℕ). Listed xs m) (sym c.remove-v.ensures.items)
          (subst (λ (v : ℕ). Listed (remove s.order.items c.args.at) (set s.member v false)) (sym (stood s c.args.at c.remove-v.result c.remove-v.ensures.value (omega arith)))
          (listed_remove s.order.items s.member c.args.at (omega arith) s.listed));
    }

pub returns : goal.returns
returns c =
    let s = c.args.self.now in
    record {
      within = omega arith;
      stood = sym (stood s c.args.at c.remove-v.result c.remove-v.ensures.value (omega arith));
      order = c.remove-v.ensures.items;
      was = was s c.args.at c.remove-v.result c.remove-v.ensures.value (omega arith);
      gone = get_or-set_same s.member c.remove-v.result false false (flag_below s.member c.remove-v.result (was s c.args.at c.remove-v.result c.remove-v.ensures.value (omega arith)));
      others = λ u ne. get_or-set_other s.member c.remove-v.result u false false ne;
    }
