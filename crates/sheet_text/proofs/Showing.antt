-- The sheet in its buffer.
use Rattle.std.proofs.Common.{◌≡◌, ℕ, IfOk, ◌<◌, ◌≤◌, Bool, ◌⊎◌, List, length, take, drop, pos, Some, None, Ok, Err, Option, Result, sym, refl, ap, ◌∙◌, subst, ⊎_elim, arith, length-append, length-drop, length-take}
use Rattle.std.proofs.lemmas.Bool.{le-ltb, lt-ltb}
use Rattle.chooser.specs.declared.fifo.Fifo.{Fifo}
use Rattle.chooser.specs.FifoCalls.{holds}
use Rattle.plant.specs.declared.aim.Aim.{Aim}
use Rattle.plant.specs.declared.decline.Decline.{Decline}
use Rattle.plant.specs.declared.decline.Decline.TheVariants.{BufferLength}
use Rattle.plant.specs.declared.held_plant.HeldPlant.{HeldPlant}
use Rattle.plant.specs.declared.line.Line.{Line}
use Rattle.plant.specs.Held.{flows_of, marked, plant_of}
use Rattle.plant.specs.Numbers.{number_of}
use Rattle.plant.specs.Plants as plants
use Rattle.plant.specs.Plants.{Best, Feasible, Flow, Junctions, Plant, WorstHurdle, shortfall}
use Rattle.plant.specs.Tests.{aim_numbered, test_list, tested}
use Rattle.plant.proofs.Tested.{held_front}
use Rattle.planner.specs.Calls.{Settles, Started}
use Rattle.planner.specs.Cuts.{Extreme}
use Rattle.planner.specs.declared.answer.Outcome.{Outcome}
use Rattle.planner.specs.declared.answer.Outcome.TheVariants as outcomes
use Rattle.planner.specs.declared.answer.Side.{Side}
use Rattle.planner.specs.declared.answer.Side.TheVariants.{Near, Far}
use Rattle.planner.specs.declared.machine.Planner.{Planner}
use Rattle.planner.specs.declared.machine.State.{State}
use Rattle.planner.specs.declared.machine.State.TheVariants.{SettledFlow, SettledImpossible}
use Rattle.planner.specs.Standing.{Sound, arcs_in, plant_in}
use Rattle.planner.proofs.Laws.{flow_best, stuck_none}
use Rattle.planner.proofs.Tried.{same_aim}
use Rattle.plantfile.specs.declared.reader.Heading.{Heading}
use Rattle.plant.specs.declared.line.Trial.{Trial}
use Rattle.plantfile.specs.Format.{Content}
use Rattle.sheet_text.specs.Sheets.{Front, Listed, Sheet, Shown, Texted, TriedAll, impossible, plant_told, with_flow}
use Rattle.sheet_text.specs.Steps.{Asks, content}
use Rattle.sheet_text.proofs.Reading.{flow_length, flow_small}
use Rattle.sheet_text.proofs.Testing.{list_tested}
use Rattle.text.specs.declared.sheets.Tried.{Tried}
use Rattle.text.specs.Pieces.{Puts}
use Rattle.text.specs.Text.{SmallFlows, declined_text, flow_text, hurdle_text}
use Rattle.text.proofs.Paste.{pasted_start}

-- a text that was put into a buffer from its first byte on
front_put : (text before after : List ℕ) (r : ℕ) → Puts text before 0 r after → Front text before (Ok r) after
front_put text before after r p =
    let e = p.end in
    let is : r ≡ length text = omega arith in
    (ap Ok is, p.is ∙ pasted_start before text)

pub sheet_put : (c : Content) (text before after : List ℕ) (r : ℕ) → Sheet c text → r ≤ 16384 → Puts text before 0 r after → Shown c before (Ok r) after
sheet_put c text before after r s short p = record { text = text; sheet = s; short = omega (arith, p.end); front = front_put text before after r p }

pub small_flows : (p : Planner Fifo) (f : Flow) → Sound holds p → p.state ≡ SettledFlow → f ≡ flows_of (arcs_in p) → SmallFlows f
small_flows p f s e is =
    let n = flow_length p s e in
    subst (λ (g : Flow). SmallFlows g) (sym is) (omega (arith, n, (held_front p.plant).few), λ i j. flow_small p s e i (omega (arith, n)))

pub few_marks : (n : ℕ) (marks : List Bool) → n ≤ 250 → length (take n marks) ≤ 250
few_marks n marks h = omega (arith, length-take n marks)

module _ (c : Content) (p : Planner Fifo) (asks : Asks c p) where
  same_count : p.plant.n ≡ c.junctions
  same_count = ap (λ (P : Plant). P.junctions) asks.plant

  pub few_junctions : c.junctions ≤ 250
  few_junctions = omega (arith, same_count, p.plant.sized.1)

  marks_each : (marks : List Bool) → length marks ≡ 256 → length (take c.junctions marks) ≡ c.junctions
  marks_each marks l = omega (arith, length-take c.junctions marks, few_junctions)

  told_marks : (marks : List Bool) → marked (take p.plant.n marks) ≡ marked (take c.junctions marks)
  told_marks marks = ap (λ (n : ℕ). marked (take n marks)) same_count

  told_cut : (side : Side) (marks : List Bool) → Extreme side p.plant.aim (plant_in p) (marked (take p.plant.n marks)) → Extreme side c.aim (plant_told c) (marked (take c.junctions marks))
  told_cut side marks h =
      subst (λ (S : Junctions). Extreme side c.aim (plant_told c) S) (told_marks marks)
      (subst (λ (P : Plant). Extreme side c.aim P (marked (take p.plant.n marks))) asks.plant
      (subst (λ (a : Aim). Extreme side a (plant_in p) (marked (take p.plant.n marks))) asks.aim h))

  -- the sheet of a plant with a flow
  pub flow_sheet : p.state ≡ SettledFlow → (x : ℕ) (f : Flow) (near far : List Bool) (tried : List Tried)
      → plants.total (plant_in p) (flows_of (arcs_in p)) ≡ pos x → f ≡ flows_of (arcs_in p)
      → length near ≡ 256 → Extreme Near p.plant.aim (plant_in p) (marked (take p.plant.n near))
      → length far ≡ 256 → Extreme Far p.plant.aim (plant_in p) (marked (take p.plant.n far))
      → TriedAll c.aim (plant_told c) c.trials tried
      → Sheet c (flow_text c.aim x f (take c.junctions near) (take c.junctions far) tried)
  flow_sheet e x f near far tried t is nl n fl r all =
      let b = flow_best holds p asks.sound e in
      let b₁ = subst (λ (P : Plant). Best c.aim P (flows_of (arcs_in p))) asks.plant (subst (λ (a : Aim). Best a (plant_in p) (flows_of (arcs_in p))) asks.aim b) in
      with_flow (record {
        flow = f;
        total = x;
        near = take c.junctions near;
        far = take c.junctions far;
        tried = tried;
        best = subst (λ (g : Flow). Best c.aim (plant_told c) g) (sym is) b₁;
        is_total = ap (λ (g : Flow). plants.total (plant_told c) g) is ∙ ap (λ (P : Plant). plants.total P (flows_of (arcs_in p))) (sym asks.plant) ∙ t;
        near_marks = marks_each near nl;
        is_near = told_cut Near near n;
        far_marks = marks_each far fl;
        is_far = told_cut Far far r;
        is_tried = all;
        is = refl;
      })

  -- and of an impossible plant
  pub hurdle_sheet : p.state ≡ SettledImpossible → (x : ℕ) (hurdle : List Bool) (tried : List Tried)
      → length hurdle ≡ 256 → WorstHurdle (plant_in p) (marked (take p.plant.n hurdle)) → x ≡ shortfall (plant_in p) (marked (take p.plant.n hurdle))
      → TriedAll c.aim (plant_told c) c.trials tried
      → Sheet c (hurdle_text x (take c.junctions hurdle) tried)
  hurdle_sheet e x hurdle tried l w is all =
      let S = marked (take c.junctions hurdle) in
      let y : x ≡ shortfall (plant_told c) S = is ∙ ap (shortfall (plant_in p)) (told_marks hurdle) ∙ ap (λ (P : Plant). shortfall P S) asks.plant in
      impossible (record {
        hurdle = take c.junctions hurdle;
        tried = tried;
        none = subst (λ (P : Plant). (f : Flow) → Feasible P f → ⊥) asks.plant (stuck_none holds p asks.sound e);
        marks = marks_each hurdle l;
        worst = subst (λ (P : Plant). WorstHurdle P S) asks.plant (subst (WorstHurdle (plant_in p)) (told_marks hurdle) w);
        is_tried = all;
        is = ap (λ (z : ℕ). hurdle_text z (take c.junctions hurdle) tried) y;
      })

-- a planner that was started on what a file says
module _ (clears : Fifo → Fifo → Type 0) (puts : Fifo → ℕ → ℕ → Fifo → Type 0) (takes : Fifo → Option ℕ → Fifo → Type 0) where
  pub asks_told : (h : Heading) (ls : List Line) (ts : List Trial) (a : ℕ) (p₀ p p' : Planner Fifo) → Started holds clears puts takes h.n ls a p₀ p
      → Sound holds p' → p'.plant ≡ p.plant → aim_numbered a ≡ Some h.aim → test_list h.n ls None ≡ None → Asks (content h ls ts) p'
  asks_told h ls ts a p₀ p p' started sound same number list =
      record {
        sound = sound;
        plant = ap (λ (q : HeldPlant). plant_of q) same ∙ started.plant;
        aim = ap (λ (q : HeldPlant). q.aim) same ∙ same_aim (tested h.n ls a) p.plant.aim h.aim started.tests (list_tested h.n a ls h.aim number list);
      }

pub settled_flow : (o : Outcome) (m : State) → (o ≡ outcomes.InWork) ⊎ (o ≡ outcomes.Flow) → Settles o m → m ≡ SettledFlow
settled_flow outcomes.InWork m h s = absurd s
settled_flow outcomes.Flow m h s = s
settled_flow outcomes.Impossible m h s = ⊎_elim (λ e. absurd (let z : ◌≡◌ {A = ℕ} 0 1 = cc in omega arith)) (λ e. absurd (let z : ◌≡◌ {A = ℕ} 0 1 = cc in omega arith)) h

-- a buffer without room
module _ (before : List ℕ) (o : Result Content Decline) where
  pub short_listed : (c : Content) (d : Decline) → o ≡ Ok c → d ≡ BufferLength → length before < 16384 → Listed o before (Err d) before
  short_listed c d e is short = rw (e, is) (rw (lt-ltb (length before) 16384 short) (refl, refl))

  pub short_texted : (d : Decline) → d ≡ BufferLength → length before < 16384 → Texted o before (Err d) before
  short_texted d is short = rw is (rw (lt-ltb (length before) 16384 short) (refl, refl))

module _ (before after : List ℕ) where
  -- a file without a fault, and a buffer with room
  pub all_listed : (o : Result Content Decline) (c : Content) (r : Result ℕ Decline) → o ≡ Ok c → 16384 ≤ length before → Shown c before r after → Listed o before r after
  all_listed o c r e room s = rw e (rw (le-ltb (length before) 16384 room) s)

  front_length : (text : List ℕ) (r : Result ℕ Decline) → length text ≤ length before → Front text before r after → length after ≡ length before
  front_length text r l f = omega (arith, ap length f.1, length-append text (drop (length text) before), length-drop (length text) before)

  -- a listing with room, as the text call tells it
  pub ok_texted : (o : Result Content Decline) (len : ℕ) → 16384 ≤ length before → Listed o before (Ok len) after → Texted o before (Ok len) after × (len ≤ 16384) × (16384 ≤ length after)
  ok_texted (Err d) len room h = let e = h.0 in absurd (let z : ◌≡◌ {A = ℕ} 0 1 = cc in omega arith)
  ok_texted (Ok c) len room h =
      let s : Shown c before (Ok len) after = rw (le-ltb (length before) 16384 room) at h in
      let is : len ≡ length s.text = ok_len len (length s.text) s.front.0 in
      (h, omega (arith, is, s.short), omega (arith, s.short, front_length s.text (Ok len) (omega (arith, s.short)) s.front))
    where
      ok_len : (x y : ℕ) → ◌≡◌ {A = Result ℕ Decline} (Ok x) (Ok y) → x ≡ y
      ok_len x y q = cc

  -- a listing is short
  pub listed_short : (o : Result Content Decline) (r : Result ℕ Decline) → 16384 ≤ length before → Listed o before r after → IfOk r (λ len. (len ≤ 16384) × (16384 ≤ length after))
  listed_short o (Err d) room h = tt
  listed_short o (Ok len) room h = let t = ok_texted o len room h in (t.1, t.2)

  -- a file with a fault, as the text call tells it
  pub err_texted : (o : Result Content Decline) (d : Decline) (mid : List ℕ) (len : ℕ) → 16384 ≤ length before → Listed o before (Err d) mid → len ≤ 16384
      → Puts (declined_text (number_of d)) mid 0 len after → Texted o before (Ok len) after × (len ≤ 16384) × (16384 ≤ length after)
  err_texted (Err x) d mid len room h short p =
      let same : mid ≡ before = h.1 in
      let is : x ≡ d = same_decline x d h.0 in
      let q = subst (λ (buf : List ℕ). Puts (declined_text (number_of d)) buf 0 len after) same p in
      let f : Front (declined_text (number_of d)) before (Ok len) after = front_put (declined_text (number_of d)) before after len q in (
        rw (le-ltb (length before) 16384 room) (subst (λ (y : Decline). Front (declined_text (number_of y)) before (Ok len) after) (sym is) f),
        short,
        omega (arith, room, short, q.end, front_length (declined_text (number_of d)) (Ok len) (omega (arith, q.end)) f),
      )
    where
      same_decline : (x y : Decline) → ◌≡◌ {A = Result ℕ Decline} (Err y) (Err x) → x ≡ y
      same_decline x y q = cc
  err_texted (Ok c) d mid len room h short p =
      let s : Shown c before (Err d) mid = rw (le-ltb (length before) 16384 room) at h in
      let e = s.front.0 in
      absurd (let z : ◌≡◌ {A = ℕ} 0 1 = cc in omega arith)
