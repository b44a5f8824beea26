use Rattle.std.proofs.Common.{◌≡◌, ℕ, ◌*◌, false, List, ap, ◌∙◌, arith, rules}
use Rattle.plant.specs.Held.{marked}
use Rattle.reach.specs.Sets.{bits_from, member}
use Rattle.reach.proofs.Bytes.{member_set, made_bytes}
use Rattle.reach.proofs.Made.{made_each}
use Rattle.std.proofs.lemmas.List.{get_or_past}
use Rattle.reach.proofs.set.JunctionSetFromRefMarks.from.Goals as goal

pub returns-clause-gives : goal.returns-clause-gives
returns-clause-gives c =
    let S = marked c.args.marks.now in
    made_bytes S c.from_fn.result c.from_fn.ensures.items.long
    (λ k h. made_each _ (λ i y. y ≡ bits_from S (8 * i) 8) _ (λ i y q r. (search rules, search rules)) c.from_fn.result 32 k 0 h c.from_fn.ensures.items)

pub returns-clause-members : goal.returns-clause-members
returns-clause-members c v =
    let S = marked c.args.marks.now in
    ap (λ (xs : List ℕ). member xs v) (returns-clause-gives c) ∙ member_set S (λ w h. get_or_past c.args.marks.now w false (omega (arith, c.told-marks))) v
