use Rattle.std.proofs.Common.{◌≡◌, ℕ, ◌≤◌, Bool, false, List, get_or, ap, ◌∙◌, length, arith, rules}
use Rattle.reach.specs.Marking.{Marks, Reaches, here, on}
use Rattle.std.proofs.lemmas.Bool.{both_ways}
use Rattle.reach.proofs.Drying.{no_mark}
use Rattle.reach.proofs.walk.mark_reached.Goals as goal

-- a junction that is not below n reaches nothing
outside : (edge : ℕ → ℕ → Bool) (n from : ℕ) {w : ℕ} → n ≤ from → Reaches edge n from w → ⊥
outside edge n from h (here l) = omega arith
outside edge n from h (on v w r l e) = outside edge n from h r

-- so no marks are right
unmarked : (edge : ℕ → ℕ → Bool) (n from : ℕ) (marks : List Bool) → n ≤ from → ((k : ℕ) → get_or marks k false ≡ false) → Marks edge n from marks
unmarked edge n from marks h none w l = ((λ m. absurd (both_ways (get_or marks w false) (none w) m)), (λ r. absurd (outside edge n from h r)))

pub returns-else-from-n : goal.returns-else-from-n
returns-else-from-n g c =
    let m : Marks (g.G.Graph.edge c.args.graph.now) c.args.n c.args.from c.fill.new.self = unmarked _ _ _ _ c.if-from-n.false (λ k. ap (λ (xs : List Bool). get_or xs k false) (c.fill.ensures.after (λ y e. e)) ∙ no_mark (length c.args.marks.now) k) in
    search rules
