use Rattle.std.proofs.Common.{◌≡◌, ◌<◌, List, length, get_or, vec_items, ◌∙◌, subst, arith}
use Rattle.law.proofs.Promised.{law_promises}
use Rattle.law.specs.declared.script.Call.{Call}
use Rattle.law.specs.declared.script.Call.TheVariants.{Tallies}
use Rattle.law.specs.Law.{beside}
use Rattle.std.proofs.lemmas.List.{get_or_default, take_all}
use Rattle.std.proofs.lemmas.Result.{err_from_is_err_and}
use Rattle.runs.specs.Played.{Played, SameCall}
use Rattle.runs.proofs.Grows.{Running, running_more, running_new, sofar_more, sofar_none, sofar_same}
use Rattle.runs.specs.Shows.{Lawful}
use Rattle.runs.proofs.replaying.replay.Goals as goal

pub loop-i-init : goal.loop-i-init
loop-i-init g c = (
  c.new-planner.ensures.sound,
  c.new-answers.ensures.len,
  sofar_none c.args.script.now,
  running_new g.C.Chooser.has g.C.Chooser.clears g.C.Chooser.puts g.C.Chooser.takes c.args.chooser c.new-planner.result c.new-planner.ensures.idle c.new-planner.ensures.sound,
)

pub returns-in_err-push : goal.returns-in_err-push
returns-in_err-push g c =
    let cs = c.args.script.now in
    let i = c.loop-i.i in
    let lt : i < length cs = omega (arith, c.loop-i-test.true, c.loop-i.auto.i-end) in
    let at : get_or c.loop-i.script i c.index-script-i.result ≡ get_or cs i Tallies = get_or_default c.loop-i.script i c.index-script-i.result Tallies (omega (arith, lt, c.loop-i.invariant.2.many)) ∙ c.loop-i.invariant.2.later i (omega arith) in
    let script = sofar_same cs _ _ (sofar_more cs c.loop-i.script i c.play.new.call lt c.loop-i.invariant.2 (subst (λ (x : Call). SameCall x c.play.new.call) at c.play.ensures.call)) in
    let p = err_from_is_err_and c.from_residual-in_err-push.result c.from_residual-in_err-push.ensures.1 in
    rw p.1 (record { script = script; long = tt; law = tt; promise = tt; played = tt })

pub loop-i-preserved : goal.loop-i-preserved
loop-i-preserved g c =
    let cs = c.args.script.now in
    let i = c.loop-i.i in
    let lt : i < length cs = omega (arith, c.loop-i-test.true, c.loop-i.auto.i-end) in
    let at : get_or c.loop-i.script i c.index-script-i.result ≡ get_or cs i Tallies = get_or_default c.loop-i.script i c.index-script-i.result Tallies (omega (arith, lt, c.loop-i.invariant.2.many)) ∙ c.loop-i.invariant.2.later i (omega arith) in
    let q = c.in_ok-push.ensures in
    let p = c.loop-i.planner in
    let p' = c.play.new.planner in
    let r = c.in_ok-answer.answer in
    let t = c.in_ok-answer.ensures in (
      c.play.ensures.sound,
      omega (arith, q.len, c.loop-i.invariant.1),
      sofar_more cs c.loop-i.script i c.play.new.call lt c.loop-i.invariant.2 (subst (λ (x : Call). SameCall x c.play.new.call) at c.play.ensures.call),
      running_more g.C.Chooser.has g.C.Chooser.clears g.C.Chooser.puts g.C.Chooser.takes c.new-planner.result cs (vec_items c.loop-i.answers) (vec_items c.push.new.self) i r p p' lt
          (omega (arith, c.loop-i.answers.ok.0, c.loop-i.invariant.1)) q.items c.loop-i.invariant.3
          (subst (λ (x : Call). Played g.C.Chooser.has g.C.Chooser.clears g.C.Chooser.puts g.C.Chooser.takes p x r p') at t.played)
          (subst (λ (x : Call). Lawful g.C.Chooser.has p x r p') at t.law),
    )

pub returns : goal.returns
returns g c =
    let cs = c.args.script.now in
    let rs = vec_items c.loop-i.answers in
    let end : c.loop-i.i ≡ length cs = omega (arith, c.loop-i-test.false, c.loop-i.auto.i-end) in
    let w = subst (λ (xs : List Call). Running g.C.Chooser.has g.C.Chooser.clears g.C.Chooser.puts g.C.Chooser.takes c.new-planner.result (beside xs rs) c.loop-i.planner) (take_all c.loop-i.i cs (omega arith)) c.loop-i.invariant.3 in
    record {
      script = sofar_same cs c.loop-i.script c.loop-i.i c.loop-i.invariant.2;
      long = c.loop-i.invariant.1 ∙ end;
      law = (w.phase, w.run);
      promise = law_promises (beside cs rs) (w.phase, w.run);
      played = (c.new-planner.result, c.loop-i.planner, c.new-planner.ensures.idle, w.plays);
    }
