use Rattle.std.proofs.Common.{ℕ, ◌≡◌, ◌&&◌, not, false, ltb, List, ◌++◌, length, drop, replicate, None, Ok, ap, ◌∙◌, arith, rules}
use Rattle.plant.specs.Held.{marked}
use Rattle.plant.specs.Tests.{test_list}
use Rattle.reach.specs.Drawn.{drawn, tabled}
use Rattle.reach.specs.Sets.{member}
use Rattle.reach.proofs.Drying.{answered, dry_set, dry_size, passed}
use Rattle.reach.proofs.Selected.{selected}
use Rattle.reach.proofs.Paths.{marks_alike, searched_marks}
use Rattle.std.proofs.lemmas.Bool.{le-ltb, or_from}
use Rattle.reach.proofs.dry.dry_junctions.Goals as goal

pub returns : goal.returns
returns c =
    let n = c.args.n in
    let ls = c.args.lines.now in
    let out = c.args.out.now in
    let edge = tabled c.drawn.result.rows in
    let marks = c.mark_reached.new.marks in
    let D = marked c.select.result in
    let rest : (v : ℕ) → D v ≡ (ltb v n && not (marked marks v)) = λ v. selected n v (D v) _ (λ h. search (rules, c.select.ensures.below v h)) (c.select.ensures.beyond v) in
    let found = searched_marks edge n 0 (replicate 256 false) (length c.args.places.now) c.mark_reached.result marks (omega arith) (omega arith) c.mark_reached.ensures.walked in
    answered n ls _ _ _ D
    (passed (test_list n ls None) c.in_ok-test_list.ensures)
    (or_from (ltb (length c.args.places.now) n) (ltb (length out) 32) (le-ltb (length c.args.places.now) n (omega arith)) (le-ltb (length out) 32 (omega arith)))
    (dry_set n ls marks D (marks_alike edge (drawn ls) n 0 marks c.drawn.ensures found.1) rest)
    (ap Ok (c.len.ensures ∙ dry_size n marks D (member c.from-dry.result.bytes) (omega arith) rest c.from-dry.ensures.members))
    (ap (λ (xs : List ℕ). xs ++ drop 32 out) (c.copy_from_slice.ensures.after ∙ c.from-dry.ensures.gives))
