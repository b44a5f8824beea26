use Rattle.std.proofs.Common.{◌≡◌, ℕ, ◌^◌, ◌<◌, List, Some, None, Option, refl, ap, arith}
use Rattle.plant.specs.declared.line.Line.{Line}
use Rattle.ring.specs.Held.{items}
use Rattle.sheet_text.specs.Steps.{content}
use Rattle.sheet_text.proofs.Trying.{flow_tried, line_small, none_tried, trial_never}
use Rattle.sheet_text.proofs.trials.Question.try_one.Goals as goal

-- a number that is told is the one that is shown
told : (y x : ℕ) → y < 2 ^ 32 → ◌≡◌ {A = Option ℕ} (Some y) (Some x) → x < 2 ^ 32
told y x h e = let f : y ≡ x = cc in omega arith

none_told : (x : ℕ) → ◌≡◌ {A = Option ℕ} None (Some x) → x < 2 ^ 32
none_told x e = absurd (let z : ◌≡◌ {A = ℕ} 0 1 = cc in omega arith)

pub returns-in_err-trial : goal.returns-in_err-trial
returns-in_err-trial c =
    let q = c.args.self.now in
    let t = c.args.trial in
    absurd (trial_never q.heading.n c.from.result t.line t.low t.high q.lines.now q.heading.aim c.from.ensures c.requires.list c.requires.limits _ c.in_err-trial.ensures.trials.0)

pub returns-in_err-read_total-in-Flow : goal.returns-in_err-read_total-in-Flow
returns-in_err-read_total-in-Flow c = absurd c.in_err-read_total-in-Flow.ensures

pub returns-in_ok-read_total-in-Flow-clause-tried : goal.returns-in_ok-read_total-in-Flow-clause-tried
returns-in_ok-read_total-in-Flow-clause-tried c =
    let q = c.args.self.now in
    let t = c.args.trial in
    let r = c.in_ok-trial.ensures in
    let x = c.in_ok-read_total-in-Flow in
    let best = flow_tried q.heading.n c.from.result t.line t.low t.high q.lines.now q.heading.aim c.from.ensures c.requires.list c.requires.limits _ _ _
    q.planner.now c.trial.new.self c.in_ok-trial.field-0 r.sound r.trials c.in-Flow.is x.field-0 x.ensures.0 in
    let small = line_small q.heading.n c.from.result t.line t.low t.high q.lines.now q.heading.aim c.from.ensures c.requires.list c.requires.limits in
    (record { line = refl; total = best }, (omega (arith, small), λ y e. told x.field-0 y x.ensures.1 e))

pub returns-in-InWork : goal.returns-in-InWork
returns-in-InWork c =
    let q = c.args.self.now in
    let t = c.args.trial in
    let r = c.in_ok-trial.ensures in
    let best = none_tried q.heading.n c.from.result t.line t.low t.high q.lines.now q.heading.aim c.from.ensures c.requires.list c.requires.limits _ _ _
    q.planner.now c.trial.new.self c.in_ok-trial.field-0 r.sound r.trials c.in-InWork.is in
    let small = line_small q.heading.n c.from.result t.line t.low t.high q.lines.now q.heading.aim c.from.ensures c.requires.list c.requires.limits in
    record { sound = r.sound; asks = ap (λ (ls : List Line). content q.heading ls (items q.waiting.now)) r.back; tried = (record { line = refl; total = best }, (omega (arith, small), λ x e. none_told x e)) }
