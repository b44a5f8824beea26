use Rattle.std.proofs.Common.{◌≡◌, false, length, sym, ◌∙◌, inl, inr, arith, rules}
use Rattle.std.proofs.lemmas.Bool.{cases_lt}
use Rattle.std.proofs.lemmas.List.{get_or_past}
use Rattle.reach.specs.Sets.{member}
use Rattle.reach.proofs.Bytes.{member_out}
use Rattle.reach.proofs.Made.{made_each}
use Rattle.reach.proofs.set.JunctionSet.marks.Goals as goal

pub returns : goal.returns
returns c v =
    let bytes = c.args.self.now.bytes in
    let wide : length bytes ≡ 32 = search rules in
    let made = c.from_fn.ensures.items in
    elim (cases_lt v 256) [
      | inl h ↦ made_each _ (λ i b. b ≡ member bytes i) _ (λ i b q r. (search rules, search rules)) c.from_fn.result 256 v false h made
      | inr h ↦ get_or_past c.from_fn.result v false (omega (arith, made.long)) ∙ sym (member_out bytes v (omega (arith, wide)))
    ]
