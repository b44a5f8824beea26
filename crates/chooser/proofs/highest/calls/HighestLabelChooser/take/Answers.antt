use Rattle.std.proofs.Common.{◌≡◌, ℕ, suc, ◌<◌, ◌≤◌, List, [], ◌∷◌, ◌++◌, length, get_or, take, drop, Option, Some, None, MatchOption, refl, ap, ◌∙◌, arith, rules}
use Rattle.chooser.specs.Arrivals.{Left}
use Rattle.chooser.specs.Flags.{flag_below}
use Rattle.chooser.specs.HighestCalls.{arrivals, label_of, TakenHighest}
use Rattle.chooser.specs.declared.arrived.Arrived.{Arrived}
use Rattle.chooser.specs.declared.highest.HighestLabel.{HighestLabel}
use Rattle.chooser.proofs.Listed.{around, listed_at, highest_of, first_of}
use Rattle.chooser.proofs.highest.calls.HighestLabelChooser.take.Goals as goal

pub best-at-requires : goal.best-at-requires
best-at-requires c k h =
    let a = c.args.self.now.arrived in
    let wide : length c.args.self.now.labels ≡ 252 = search rules in
    let here : k < length a.order.items = omega (arith, ap length c.as_slice.ensures.value) in
    omega (arith, flag_below a.member _ (listed_at a.order.items a.member a.listed k here), a.wide, wide, ap (λ (xs : List ℕ). get_or xs k 0) c.as_slice.ensures.value)

-- the same labels over other members
abbrev over : HighestLabel → Arrived → HighestLabel
over c a = record { arrived = a; labels = c.labels }

none : (xs : List ℕ) (at : ℕ) → (0 < length xs → at < length xs) → length xs ≤ at → xs ≡ []
none [] at within h = refl
none (x ∷ xs) at within h = absurd (omega (arith, within (omega arith)))

-- what stands at the place of the first of highest label is taken
taken : (c : HighestLabel) (a : Arrived) (at : ℕ) (r : Option ℕ)
    → (0 < length (arrivals c) → at < length (arrivals c))
    → ((k : ℕ) → k < length (arrivals c) → label_of c (get_or (arrivals c) k 0) ≤ label_of c (get_or (arrivals c) at 0))
    → ((k : ℕ) → k < at → label_of c (get_or (arrivals c) k 0) < label_of c (get_or (arrivals c) at 0))
    → MatchOption r ((length (arrivals c) ≤ at) × (a ≡ c.arrived)) (λ v. Left c.arrived at v a) → TakenHighest c r (over c a)
taken c a at None within highest earliest m = (none (arrivals c) at within m.0, ap (over c) m.1)
taken c a at (Some v) within highest earliest m =
    let xs = arrivals c in
    let top : label_of c (get_or xs at 0) ≡ label_of c v = ap (label_of c) m.stood in
    record {
      earlier = take at xs;
      later = drop (suc at) xs;
      split = around xs at m.within ∙ ap (λ (u : ℕ). take at xs ++ u ∷ drop (suc at) xs) m.stood;
      left = m.order;
      highest = highest_of xs c.arrived.member c.labels (label_of c v) c.arrived.listed (λ k h. omega (arith, highest k h, top));
      first = first_of xs at c.labels (label_of c v) (omega (arith, m.within)) (λ k h. omega (arith, earliest k h, top));
      labels = λ u. refl;
    }

pub returns-clause-takes : goal.returns-clause-takes
returns-clause-takes c =
    let e = c.as_slice.ensures.value in
    let b = c.best-at.ensures in
    taken c.args.self.now _ c.best-at.result c.take.result (rw e at b.within) (rw e at b.highest) (rw e at b.earliest) c.take.ensures
