use Rattle.std.proofs.Common.{◌≡◌, List, length, ap, ◌∙◌, arith, w64, SFits, to_z, of_z, rules}
use borrow.Author.Differences.{up, down}
use Rattle.std.proofs.lemmas.Int.{to_z-of_z}
use Rattle.plant.specs.declared.line.Line.{Line}
use Rattle.plant.specs.Held.{arcs, plant_of}
use Rattle.plant.specs.Plants.{surplus}
use Rattle.plant.proofs.Tested.{held_front}
use Rattle.preflow.proofs.Opens.{pushed_none, pushed_some, surplus_fits, surplus_more}
use Rattle.preflow.proofs.opening.push_surpluses.Goals as goal
use Rattle.preflow.proofs.opening.push_surpluses.Goals.{in-Some, in_default}

pub surplus_line-requires : goal.surplus_line-requires
surplus_line-requires c =
    let p = c.args.plant.now in
    let ls = (plant_of p).lines in
    let f = surplus_fits p.n ls (held_front p).few (held_front p).fine c.loop-v.v in
    let s : SFits w64 c.surplus_at.result = search rules in
    let q : to_z w64 (of_z w64 c.surplus_at.result) ≡ surplus ls c.loop-v.v =
    to_z-of_z w64 c.surplus_at.result s ∙ c.surplus_at.ensures ∙ ap (λ (xs : List Line). surplus xs c.loop-v.v) c.lines.ensures.value in
    record { junction = (omega (arith, c.loop-v-test.true), omega (arith, p.sized.1)); surplus = (omega (arith, ap up q, f.0), omega (arith, ap down q, f.1)) }

pub push-requires : goal.push-requires
push-requires c = (omega arith, omega (arith, c.loop-v.invariant.0, c.loop-v-test.true, c.requires, c.args.plant.now.sized.1))

pub loop-v-preserved : goal.loop-v-preserved
loop-v-preserved c =
    let ls = (plant_of c.args.plant.now).lines in
    let hs = c.loop-v.held.items in
    let hs' = c.match-surplus_line.held.items in
    let o = c.surplus_line.result in
    let s : SFits w64 c.surplus_at.result = search rules in
    let q : to_z w64 (of_z w64 c.surplus_at.result) ≡ surplus ls c.loop-v.v =
    to_z-of_z w64 c.surplus_at.result s ∙ c.surplus_at.ensures ∙ ap (λ (xs : List Line). surplus xs c.loop-v.v) c.lines.ensures.value in (
      elim c.match-surplus_line.branch [
        | in-Some w ↦ omega (arith, ap (λ h. length h.items) w.held-is, w.push.ensures.len, c.loop-v.invariant.0)
        | in_default w ↦ omega (arith, ap (λ h. length h.items) w.held-is, c.loop-v.invariant.0)
      ],
      surplus_more hs hs' c.junctions-n.result c.loop-v.v ls (arcs c.args.held.now.items) o _ q c.surplus_line.ensures
          (elim c.match-surplus_line.branch [
            | in-Some w ↦ pushed_some hs hs' o w.in-Some.line w.in-Some.is (ap (λ h. h.items) w.held-is ∙ w.push.ensures.items)
            | in_default w ↦ pushed_none hs hs' o w.in_default.is (ap (λ h. h.items) w.held-is)
          ])
          c.loop-v.invariant.1,
    )
