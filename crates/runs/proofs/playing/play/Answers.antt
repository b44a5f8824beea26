use Rattle.std.proofs.Common.{rules, ◌≡◌, ℕ, ℤ, List, ◌++◌, length, take, drop, Some, sym, ap, refl, ◌∙◌, subst}
use Rattle.law.specs.declared.script.Answer.TheVariants as told
use Rattle.law.specs.declared.script.Call.TheVariants.{Crossing, Cut, Flow, Hurdle, Tallies, Total}
use Rattle.plant.specs.declared.line.Line.{Line}
use Rattle.planner.specs.declared.machine.State.{State}
use Rattle.planner.specs.Calls.{Starts, Trials}
use Rattle.std.proofs.lemmas.List.{with_items_is}
use Rattle.std.specs.Vec.{with_items}
use Rattle.planner.specs.declared.answer.Outcome.{Outcome}
use Rattle.planner.specs.declared.answer.Tally.{Tally}
use Rattle.runs.specs.Played.{out_of_turn, told_by}
use Rattle.runs.specs.Shows.{answered}
use Rattle.runs.proofs.Told.{flow_told, tallies_told, total_told}
use Rattle.runs.proofs.Steps.{Step, answer_is, read_step, start_step, told_is, trial_step, turn_step, work_step}
use Rattle.runs.proofs.playing.play.Goals as goal
use Rattle.runs.proofs.playing.play.Goals.{in-Start, in-Work, in-Trial, in-Total, in-Flow, in-Cut, in-Crossing+in_ok-answer-in-Crossing, in-Hurdle, in-Tallies}

pub returns-in-Some : goal.returns-in-Some
returns-in-Some g c =
    let p = c.args.planner.now in
    let e : out_of_turn p.state c.args.call.now ≡ Some c.in-Some.decline =
    ap (λ (m : State). out_of_turn m c.args.call.now) (sym c.state.ensures) ∙ sym c.out_of_turn.ensures ∙ c.in-Some.is in
    let s : Step g.C.Chooser.has g.C.Chooser.clears g.C.Chooser.puts g.C.Chooser.takes p c.args.call.now (told.Declined c.in-Some.decline) p c.args.call.now =
    turn_step _ _ _ _ p c.args.call.now c.in-Some.decline c.requires e in
    record { sound = s.sound; call = s.call; played = s.played; kept = tt; law = s.law }

pub returns : goal.returns
returns g c =
    let p = c.args.planner.now in
    let p' = c.match-call.planner in
    let d = c.args.call.now in
    let d' = c.match-call.call in
    let m = c.match-call.answer in
    let s : Step g.C.Chooser.has g.C.Chooser.clears g.C.Chooser.puts g.C.Chooser.takes p d (answered m) p' d' =
    elim c.match-call.branch [
      | in-Start w ↦
          let started = subst (λ (ls : List Line). Starts g.C.Chooser.has g.C.Chooser.clears g.C.Chooser.puts g.C.Chooser.takes w.in-Start.given.n ls w.in-Start.given.aim p w.start.result w.start.new.self) w.deref.ensures.value w.start.ensures.starts in
          rw w.planner-is (start_step _ _ _ _ p w.start.new.self d d' w.in-Start.given (answered m) w.start.result started w.start.ensures.sound w.in-Start.is w.call-is (ap answered w.answer-is ∙ told_is {A = Unit {0}} (λ _. told.Started) _ _ w.map-answer.result w.map-answer.ensures.cases (λ x a k. search rules)))
      | in-Work w ↦
          rw w.planner-is (work_step _ _ _ _ p w.work.new.self d d' w.in-Work.number (answered m) w.work.result w.work.ensures.works w.work.ensures.sound w.in-Work.is w.call-is (ap answered w.answer-is ∙ told_is {A = Outcome × ℕ} (λ x. told.Worked x.0 x.1) _ _ w.map-answer-in-Work.result w.map-answer-in-Work.ensures.cases (λ x a k. search rules)))
      | in-Trial w ↦
          let given = w.in-Trial.given in
          let items = given.lines.items in
          let after = w.trial-tried.new.lines in
          let back : after ≡ items = w.trial-tried.ensures.back ∙ w.deref_mut.ensures.value in
          let whole : take given.lines.len (after ++ drop (length after) items) ≡ items = with_items_is given.lines after (w.trial-tried.auto.lines ∙ w.deref_mut.ensures.len) ∙ back in
          let tried = subst (λ (ls : List Line). Trials g.C.Chooser.has g.C.Chooser.clears g.C.Chooser.puts g.C.Chooser.takes given.n ls given.aim w.in-Trial.trial.line w.in-Trial.trial.low w.in-Trial.trial.high p w.trial-tried.result w.trial-tried.new.self) w.deref_mut.ensures.value w.trial-tried.ensures.trials in
          rw w.planner-is (trial_step _ _ _ _ p w.trial-tried.new.self d d' given (record { n = given.n; lines = with_items given.lines after; aim = given.aim }) w.in-Trial.trial (answered m) w.trial-tried.result tried w.trial-tried.ensures.sound w.in-Trial.is w.call-is (record { n = refl; lines = whole; aim = refl }) (ap answered w.answer-is ∙ told_is {A = Outcome} (λ x. told.Tried x) _ _ w.map-answer-in-Trial.result w.map-answer-in-Trial.ensures.cases (λ x a k. search rules)))
      | in-Total w ↦
          let e : answered w.map-answer-in-Total.result ≡ told_by (λ x. told.Total x) w.total.result = told_is {A = ℤ} (λ x. told.Total x) _ _ w.map-answer-in-Total.result w.map-answer-in-Total.ensures.cases (λ x a k. search rules) in
          read_step _ _ _ _ p p' d d' Total m _ c.requires w.planner-is w.in-Total.is (w.call-is ∙ w.in-Total.is) tt w.answer-is (rw e (λ q s. total_told g.C.Chooser.has p q w.total.result s w.total.ensures.answer))
      | in-Flow w ↦
          let e : answered w.map-answer-in-Flow.result ≡ told_by (λ x. told.Flow x) w.flow.result = told_is {A = ℕ} (λ x. told.Flow x) _ _ w.map-answer-in-Flow.result w.map-answer-in-Flow.ensures.cases (λ x a k. search rules) in
          read_step _ _ _ _ p p' d d' (Flow w.in-Flow.line) m _ c.requires w.planner-is w.in-Flow.is w.call-is tt w.answer-is (rw e (λ q s. flow_told g.C.Chooser.has p q w.in-Flow.line w.flow.result s w.flow.ensures.answer))
      | in-Cut w ↦ read_step _ _ _ _ p p' d d' (Cut w.in-Cut.side w.in-Cut.room) m _ c.requires w.planner-is w.in-Cut.is w.call-is tt w.answer-is w.read_cut-answer.ensures
      | in-Crossing+in_ok-answer-in-Crossing w ↦ read_step _ _ _ _ p p' d d' (Crossing w.in-Crossing.side w.in-Crossing.room) m _ c.requires w.planner-is w.in-Crossing.is w.call-is tt w.answer-is w.in_ok-answer-in-Crossing.ensures
      | in-Hurdle w ↦ read_step _ _ _ _ p p' d d' (Hurdle w.in-Hurdle.room) m _ c.requires w.planner-is w.in-Hurdle.is w.call-is tt w.answer-is w.read_hurdle-answer.ensures
      | in-Tallies w ↦ read_step _ _ _ _ p p' d d' Tallies m _ c.requires w.planner-is w.in-Tallies.is (w.call-is ∙ w.in-Tallies.is) tt w.answer-is (λ q z. let t = tallies_told g.C.Chooser.has p q z in (t.0, ap (λ (x : Tally × Tally). told.Tallies x.0 x.1) w.tallies.ensures.answer ∙ t.1))
    ] in
    let t = answer_is m _ c.unwrap_or_else.result c.unwrap_or_else.ensures (λ d k. search rules) in
    rw t (record { sound = s.sound; call = s.call; played = s.played; kept = tt; law = s.law })
