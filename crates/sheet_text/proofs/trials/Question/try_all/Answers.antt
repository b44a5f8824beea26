use Rattle.std.proofs.Common.{ℕ, ◌+◌, List, ◌∷◌, length, drop, None, refl, sym, ap, ◌∙◌, subst, arith, rules, length-append}
use Rattle.std.proofs.lemmas.Iterator.Consumers.{YieldsList-at, YieldsList-from_first}
use Rattle.plant.specs.Tests.{test_list, test_trial}
use Rattle.plantfile.specs.Format.{Content}
use Rattle.plantfile.specs.Writing.{test_each}
use Rattle.plant.specs.declared.line.Trial.{Trial}
use Rattle.plantfile.proofs.Turns.{at_end, at_turn}
use Rattle.ring.specs.Held.{items}
use Rattle.ring.specs.Rest.{rest}
use Rattle.sheet_text.specs.Sheets.{TriedAll, TriedOne, plant_told}
use Rattle.sheet_text.specs.Steps.{asked}
use Rattle.sheet_text.proofs.Kept.{each_more}
use Rattle.sheet_text.proofs.Trying.{one_passes, tried_more}
use Rattle.text.specs.declared.sheets.Tried.{Tried}
use Rattle.text.specs.Text.{Sized, nothing}
use Rattle.sheet_text.proofs.trials.Question.try_all.Goals as goal

pub loop-trial-init : goal.loop-trial-init
loop-trial-init c =
    let none = c.new-tried.ensures in (
      search rules,
      search rules,
      c.requires.sound,
      refl,
      rw none (record { count = refl; each = λ i l. absurd (omega arith) }),
      λ i l. absurd (omega (arith, ap length none)),
    )

pub try_one-requires : goal.try_one-requires
try_one-requires c =
    let inv = c.loop-trial.invariant in
    let q = c.args.self.now in
    let ts = items q.waiting.now in
    let t = c.in-Some.trial in
    let whole = at_turn ts c.loop-trial.yielded c.loop-trial.trial-iterator c.loop-trial.yielded_by _ c.next.new.self t c.in-Some.is c.next.ensures.steps (YieldsList-at c.into_iter-trial-iterator.ensures.into_iter_gives (YieldsList-from_first (λ x. x) rest ts c.iter-trial-items.ensures)) in
    record {
      sound = inv.2;
      list = ap (λ (k : Content). test_list k.junctions k.lines None) inv.3 ∙ c.requires.ready.list;
      limits = ap (λ (k : Content). test_trial (length k.lines) t.line t.low t.high) inv.3
          ∙ one_passes (length q.lines.now) c.loop-trial.yielded t (drop (length c.loop-trial.yielded + 1) ts) (ap (test_each (length q.lines.now)) (sym whole) ∙ c.requires.ready.trials);
    }

pub push-requires : goal.push-requires
push-requires c =
    let inv = c.loop-trial.invariant in
    let ts = items c.args.self.now.waiting.now in
    let t = c.in-Some.trial in
    let whole = at_turn ts c.loop-trial.yielded c.loop-trial.trial-iterator c.loop-trial.yielded_by _ c.next.new.self t c.in-Some.is c.next.ensures.steps (YieldsList-at c.into_iter-trial-iterator.ensures.into_iter_gives (YieldsList-from_first (λ x. x) rest ts c.iter-trial-items.ensures)) in
    (omega arith, omega (arith, ap length whole, length-append c.loop-trial.yielded (t ∷ drop (length c.loop-trial.yielded + 1) ts), inv.4.count, c.requires.ready.few))

pub loop-trial-preserved : goal.loop-trial-preserved
loop-trial-preserved c =
    let inv = c.loop-trial.invariant in
    let q = c.args.self.now in
    let e = c.in_ok-one.ensures in
    let r = c.in_ok-one.one in
    let rs = c.loop-trial.tried.items in
    let P = plant_told (asked q) in
    let one = subst (λ (k : Content). TriedOne k.aim (plant_told k) c.in-Some.trial r) inv.3 e.tried.0 in (
      search rules,
      search rules,
      e.sound,
      e.asks ∙ inv.3,
      rw c.push.ensures.items (tried_more q.heading.aim P c.loop-trial.yielded rs c.in-Some.trial r inv.4 one),
      rw c.push.ensures.items (each_more (λ (i : ℕ) (y : Tried). Sized y) rs nothing r inv.5 e.tried.1),
    )

pub returns : goal.returns
returns c =
    let inv = c.loop-trial.invariant in
    let q = c.args.self.now in
    let ts = items q.waiting.now in
    let all = at_end ts c.loop-trial.yielded c.loop-trial.trial-iterator c.loop-trial.yielded_by _ c.next.new.self c.in-None.is c.next.ensures.steps (YieldsList-at c.into_iter-trial-iterator.ensures.into_iter_gives (YieldsList-from_first (λ x. x) rest ts c.iter-trial-items.ensures)) in
    let tried = subst (λ (xs : List Trial). TriedAll q.heading.aim (plant_told (asked q)) xs c.loop-trial.tried.items) all inv.4 in
    (tried, (omega (arith, tried.count, c.requires.ready.few), inv.5))
