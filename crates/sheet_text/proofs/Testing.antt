-- A file that is read, and the tests of what it says.
use Rattle.std.proofs.Common.{◌≡◌, ℕ, ◌+◌, ◌-◌, ◌<◌, ◌≤◌, Bool, true, false, ◌||◌, ltb, List, [], ◌++◌, length, get_or, take, drop, Some, None, Ok, Err, Option, sym, refl, ap, ◌∙◌, arith}
use Rattle.std.proofs.lemmas.List.{at_drop_more, take_all, take_at}
use Rattle.std.proofs.lemmas.Bool.{lt-ltb}
use Rattle.plant.specs.declared.aim.Aim.{Aim}
use Rattle.plant.specs.declared.decline.Decline.{Decline}
use Rattle.plant.specs.declared.decline.Decline.TheVariants.{AimNumber, JunctionCount, LineCount}
use Rattle.plant.specs.declared.line.Line.{Line}
use Rattle.plant.specs.Tests.{aim_numbered, pass, test, test_lines, test_list, test_trial, tested, unless}
use Rattle.planner.proofs.Tried.{failed_some, passed_none}
use Rattle.plantfile.specs.declared.reader.Heading.{Heading}
use Rattle.plant.specs.declared.line.Trial.{Trial}
use Rattle.plantfile.specs.Format.{Content, Kept, parse}
use Rattle.plantfile.specs.Writing.{test_each, then_test}
use Rattle.plantfile.proofs.Laying.{then_fails, then_passes}
use Rattle.sheet_text.specs.Sheets.{checked, tested_content}
use Rattle.sheet_text.specs.Steps.{Ready, content}

abbrev one : ℕ → Trial → Option Decline
one m t = test_trial m t.line t.low t.high

-- trial by trial
pub here_fails : (m : ℕ) (ts : List Trial) (k : ℕ) (t : Trial) (d : Decline) → k < length ts → t ≡ get_or ts k t → Err d ≡ pass (one m t) → test_each m (drop k ts) ≡ Some d
here_fails m ts k t d h e f =
    at_drop_more (test_each m) ts k t h ∙ ap (λ (x : Trial). then_test (one m x) (test_each m (drop (k + 1) ts))) (sym e) ∙ then_fails (one m t) (test_each m (drop (k + 1) ts)) d f

pub here_passes : (m : ℕ) (ts : List Trial) (k : ℕ) (t : Trial) → k < length ts → t ≡ get_or ts k t → Ok tt ≡ pass (one m t) → test_each m (drop k ts) ≡ test_each m (drop (k + 1) ts)
here_passes m ts k t h e f =
    at_drop_more (test_each m) ts k t h ∙ ap (λ (x : Trial). then_test (one m x) (test_each m (drop (k + 1) ts))) (sym e) ∙ then_passes (one m t) (test_each m (drop (k + 1) ts)) f

-- the tests of a number of junctions alone
pub junctions_fail : (n : ℕ) (ls : List Line) (d : Decline) → Err d ≡ pass (test_list n [] None) → test_list n ls None ≡ Some d
junctions_fail n ls d = by (ltb n 2 || ltb 250 n)
  where
    by : (b : Bool) → Err d ≡ pass (test JunctionCount b None) → test JunctionCount b (test LineCount (ltb 1000 (length ls)) (test_lines n ls None)) ≡ Some d
    by true e = cc
    by false e = absurd (let z : ◌≡◌ {A = ℕ} 0 1 = cc in omega arith)

pub lines_fail : (n : ℕ) (ls : List Line) → Ok tt ≡ pass (test_list n [] None) → 1000 < length ls → test_list n ls None ≡ Some LineCount
lines_fail n ls e h = by (ltb n 2 || ltb 250 n) e
  where
    by : (b : Bool) → Ok tt ≡ pass (test JunctionCount b None) → test JunctionCount b (test LineCount (ltb 1000 (length ls)) (test_lines n ls None)) ≡ Some LineCount
    by true e = absurd (let z : ◌≡◌ {A = ℕ} 0 1 = cc in omega arith)
    by false e = rw (lt-ltb 1000 (length ls) h) refl

-- an aim and a list that passes its tests
pub list_tested : (n a : ℕ) (ls : List Line) (aim : Aim) → aim_numbered a ≡ Some aim → test_list n ls None ≡ None → tested n ls a ≡ Ok aim
list_tested n a ls aim e t =
    ap (λ (o : Option Aim). elim o [ Some x ↦ unless (test_list n ls None) x | None ↦ Err AimNumber ]) e ∙ ap (λ (o : Option Decline). unless o aim) t

module _ (file : List ℕ) (c : Content) (says : parse file ≡ Ok c) where
  list_fails : (d : Decline) → test_list c.junctions c.lines None ≡ Some d → checked file ≡ Err d
  list_fails d e = ap tested_content says ∙ ap (λ (o : Option Decline). unless (then_test o (test_each (length c.lines) c.trials)) c) e

  trials_fail : (d : Decline) → test_list c.junctions c.lines None ≡ None → test_each (length c.lines) c.trials ≡ Some d → checked file ≡ Err d
  trials_fail d e f = ap tested_content says ∙ ap (λ (o : Option Decline). unless (then_test o (test_each (length c.lines) c.trials)) c) e ∙ ap (λ (o : Option Decline). unless o c) f

  all_pass : test_list c.junctions c.lines None ≡ None → test_each (length c.lines) c.trials ≡ None → checked file ≡ Ok c
  all_pass e f = ap tested_content says ∙ ap (λ (o : Option Decline). unless (then_test o (test_each (length c.lines) c.trials)) c) e ∙ ap (λ (o : Option Decline). unless o c) f

  module _ (h : Heading) (before after : List Line) (places : ℕ) (waiting waits : List Trial)
      (kept : Kept c h before after places waiting waits) (wide : length before ≡ 1000) (roomy : places ≡ 64) (empty : waiting ≡ []) where
    -- the trials wait as the file has them
    waits_all : waits ≡ c.trials
    waits_all = kept.trials ∙ ap (λ (ws : List Trial). ws ++ take (places - length ws) c.trials) empty ∙ take_all (places - 0) c.trials (omega (arith, kept.few))

    -- and so do the lines stand
    lines_all : h.lines ≤ 1000 → take h.lines after ≡ c.lines
    lines_all few =
        let n = kept.count in
        let all : take (length before) c.lines ≡ c.lines = take_all (length before) c.lines (omega arith) in
        ap (take h.lines) (kept.lines ∙ ap (λ (ls : List Line). ls ++ drop (length c.lines) before) all) ∙ take_at c.lines (drop (length c.lines) before) h.lines (sym n)

    pub told_junctions : (d : Decline) → Err d ≡ pass (test_list h.n [] None) → checked file ≡ Err d
    told_junctions d e = list_fails d (ap (λ (n : ℕ). test_list n c.lines None) (sym kept.junctions) ∙ junctions_fail h.n c.lines d e)

    pub told_count : Ok tt ≡ pass (test_list h.n [] None) → 1000 < h.lines → checked file ≡ Err LineCount
    told_count e l = list_fails LineCount (ap (λ (n : ℕ). test_list n c.lines None) (sym kept.junctions) ∙ lines_fail h.n c.lines e (omega (arith, kept.count)))

    module _ (few : h.lines ≤ 1000) where
      same_list : test_list h.n (take h.lines after) None ≡ test_list c.junctions c.lines None
      same_list = ap (λ (n : ℕ). test_list n (take h.lines after) None) kept.junctions ∙ ap (λ (ls : List Line). test_list c.junctions ls None) (lines_all few)

      same_trials : test_each h.lines waits ≡ test_each (length c.lines) c.trials
      same_trials = ap (λ (m : ℕ). test_each m waits) kept.count ∙ ap (test_each (length c.lines)) waits_all

      pub told_list : (d : Decline) → Err d ≡ pass (test_list h.n (take h.lines after) None) → checked file ≡ Err d
      told_list d e = list_fails d (sym same_list ∙ failed_some _ d (sym e))

      module _ (passes : Ok tt ≡ pass (test_list h.n (take h.lines after) None)) where
        pub told_trials : (d : Decline) → Err d ≡ pass (test_each h.lines waits) → checked file ≡ Err d
        told_trials d e = trials_fail d (sym same_list ∙ passed_none _ (sym passes)) (sym same_trials ∙ failed_some _ d (sym e))

        is_content : c ≡ content h (take h.lines after) waits
        is_content = λ t. record { junctions = sym kept.junctions t; lines = sym (lines_all few) t; trials = sym waits_all t; aim = sym kept.aim t }

        pub told_all : Ok tt ≡ pass (test_each h.lines waits) → (checked file ≡ Ok (content h (take h.lines after) waits)) × Ready (content h (take h.lines after) waits)
        told_all e =
            let a = sym same_list ∙ passed_none _ (sym passes) in
            let b = sym same_trials ∙ passed_none _ (sym e) in
            (all_pass a b ∙ ap Ok is_content, rw (sym is_content) (record { list = a; trials = b; few = kept.few }))
