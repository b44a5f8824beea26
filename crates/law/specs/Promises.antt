-- What follows from the law: promises over calls and answers alone, and what is fixed.
use Rattle.plant.specs.declared.line.Trial as limits
use Rattle.std.specs.Prelude.{◌≡◌, ℕ, ◌+◌, ◌<◌, ◌≤◌, true, ◌≢◌, ◌↔◌, List, ◌∷◌, ◌++◌, length, ℤ, Some, None, Vec}
use Rattle.law.specs.declared.script.Answer.{Answer}
use Rattle.law.specs.declared.script.Answer.TheVariants as told
use Rattle.law.specs.declared.script.Call.{Call}
use Rattle.law.specs.declared.script.Call.TheVariants as call
use Rattle.law.specs.declared.script.Given.{Given}
use Rattle.law.specs.Law.{Follows, Law, Settles, Widening, Widens, Run}
use Rattle.law.specs.Phases.{Counts, Impossible, Limited, Phase, Plan, Question, Solved, flowing, idle, limit, no_counts, question, tried}
use Rattle.law.specs.Refusal.{refusal}
use Rattle.law.specs.Scripts.{AsTold, Script, Told, asked, kept, made, stands, works}
use Rattle.planner.specs.declared.answer.Outcome.{Outcome}
use Rattle.planner.specs.declared.answer.Outcome.TheVariants as outcome
use Rattle.planner.specs.declared.answer.Side.{Side}
use Rattle.planner.specs.declared.answer.Side.TheVariants.{Far, Near}
use Rattle.planner.specs.declared.answer.Tally.{Tally}
use Rattle.planner.specs.Standing.{WithinLimits}
use Rattle.plant.specs.declared.decline.Decline.{Decline}
use Rattle.plant.specs.Plants.{Best, FarCut, Feasible, Flow, Junctions, Leads, NearCut, Plant, Sound, WorstHurdle, at, bound, crossing, line, shortfall, total}
use Rattle.reach.specs.Sets.{member, set_bytes, size}
use Rattle.std.specs.declared.alloc.Global.{Global}

-- before each call the planner stands as was told, and the call declines exactly by the first test that fails there
abbrev pub DeclineLaw : Script → Type 0
DeclineLaw h =
    (before after : Script) (c : Call) (r : Answer)
    → h ≡ before ++ (c, r) ∷ after
    → (p : Phase) × AsTold before p × ((d : Decline) → r ≡ told.Declined d ↔ refusal p c ≡ Some d)

-- a trial that widens line k of a question that stands with a flow is settled with a flow
abbrev pub WideningFlows : Script → Type 0
WideningFlows h =
    (before after : Script) (a : Question) (k : ℕ) (g : Given) (lim : limits.Trial) (o : Outcome)
    → h ≡ before ++ (call.Trial g lim, told.Tried o) ∷ after
    → asked None before ≡ Some a → stands None before ≡ Some outcome.Flow → Widens a k (tried g lim)
    → o ≡ outcome.Flow

-- and the total read after it is the one read before it exactly if the line does not lead from the near set read to beyond the far one, whatever calls that keep the question stand between
abbrev pub WideningTotals : Script → Type 0
WideningTotals h =
    (before piece later after : Script) (a : Question) (k : ℕ) (t t' : ℤ) (near far : List ℕ) (m n : ℕ) (b c : ℤ) (r s : ℕ) (g : Given) (lim : limits.Trial) (o : Outcome)
    → h ≡ before ++ (piece ++ (call.Trial g lim, told.Tried o) ∷ (later ++ after))
    → asked None before ≡ Some a → kept piece ≡ true → kept later ≡ true
    → Told piece call.Total (told.Total t) → Told piece (call.Cut Near r) (told.Cut near m b) → Told piece (call.Cut Far s) (told.Cut far n c)
    → Widens a k (tried g lim) → Told later call.Total (told.Total t')
    → t' ≡ t ↔ (Leads (member near) (member far) (line a.plant k) → ⊥)

-- the numbers read of all lines are a best flow of the plant, and its total is the one read, whatever calls that keep the question stand between
abbrev pub FlowLaw : Script → Type 0
FlowLaw h =
    (before piece after : Script) (a : Question) (t : ℤ) (f : Flow)
    → h ≡ before ++ (piece ++ after)
    → asked None before ≡ Some a → kept piece ≡ true
    → Told piece call.Total (told.Total t)
    → length f ≡ length a.plant.lines → ((k : ℕ) → k < length a.plant.lines → Told piece (call.Flow k) (told.Flow (at f k)))
    → Best a.aim a.plant f × (total a.plant f ≡ t)

-- a total read is that of a best flow
abbrev pub TotalLaw : Script → Type 0
TotalLaw h =
    (before after : Script) (a : Question) (t : ℤ)
    → h ≡ before ++ (call.Total, told.Total t) ∷ after → asked None before ≡ Some a
    → (f : Flow) × Best a.aim a.plant f × (t ≡ total a.plant f)

-- the near cut is the smallest tightest one, the far cut the largest
abbrev pub CutOn : Side → Question → Junctions → Type 0
CutOn Near a S = NearCut a.aim a.plant S
CutOn Far a S = FarCut a.aim a.plant S

-- a cut read is that cut, with its size and its bound
abbrev pub CutLaw : Script → Type 0
CutLaw h =
    (before after : Script) (a : Question) (side : Side) (room : ℕ) (set : List ℕ) (n : ℕ) (b : ℤ)
    → h ≡ before ++ (call.Cut side room, told.Cut set n b) ∷ after → asked None before ≡ Some a
    → (S : Junctions) × CutOn side a S × (set ≡ set_bytes S) × (n ≡ size S a.plant.junctions) × (b ≡ bound a.aim a.plant S)

-- lines read are those that cross it forward, rising
abbrev pub CrossingLaw : Script → Type 0
CrossingLaw h =
    (before after : Script) (a : Question) (side : Side) (room : ℕ) (v : Vec ℕ Global)
    → h ≡ before ++ (call.Crossing side room, told.Crossing v) ∷ after → asked None before ≡ Some a
    → (S : Junctions) × CutOn side a S × (v.items ≡ crossing S 0 a.plant.lines)

-- a hurdle read is the smallest one of largest shortfall
abbrev pub HurdleLaw : Script → Type 0
HurdleLaw h =
    (before after : Script) (a : Question) (room : ℕ) (set : List ℕ) (n d : ℕ)
    → h ≡ before ++ (call.Hurdle room, told.Hurdle set n d) ∷ after → asked None before ≡ Some a
    → (S : Junctions) × WorstHurdle a.plant S × (set ≡ set_bytes S) × (n ≡ size S a.plant.junctions) × (d ≡ shortfall a.plant S)

-- a flow is told just of plants that have one, impossible just of plants that have none
abbrev pub TrueOf : Question → Outcome → Type 0
TrueOf a outcome.InWork = Unit {0}
TrueOf a outcome.Flow = (f : Flow) × Feasible a.plant f
TrueOf a outcome.Impossible = (f : Flow) → Feasible a.plant f → ⊥

-- a work that leaves the question in work makes all the discharges asked for, and no work makes more
abbrev pub Makes : Outcome → ℕ → ℕ → Type 0
Makes outcome.InWork k m = m ≡ k
Makes outcome.Flow k m = m ≤ k
Makes outcome.Impossible k m = m ≤ k

abbrev pub WorkLaw : Script → Type 0
WorkLaw h =
    (before after : Script) (a : Question) (k : ℕ) (o : Outcome) (m : ℕ)
    → h ≡ before ++ (call.Work k, told.Worked o m) ∷ after → asked None before ≡ Some a
    → TrueOf a o × Makes o k m

-- a trial settles
abbrev pub TrialLaw : Script → Type 0
TrialLaw h =
    (before after : Script) (g : Given) (lim : limits.Trial) (o : Outcome)
    → h ≡ before ++ (call.Trial g lim, told.Tried o) ∷ after
    → TrueOf (tried g lim) o × (o ≢ outcome.InWork)

-- a work that leaves the question in work: the works since the start ask together for less than the limit
abbrev pub LimitLaw : Script → Type 0
LimitLaw h =
    (before after : Script) (a : Question) (k m : ℕ)
    → h ≡ before ++ (call.Work k, told.Worked outcome.InWork m) ∷ after → asked None before ≡ Some a
    → works 0 before + k < limit a.plant

-- the tallies read are below the limits of the stages, zero before the first question, and after works count just what these made
abbrev pub TallyLaw : Script → Type 0
TallyLaw h =
    (before after : Script) (one two : Tally)
    → h ≡ before ++ (call.Tallies, told.Tallies one two) ∷ after
    → ((a : Question) → asked None before ≡ Some a → Limited a.plant (record { one = one; two = two }))
    × (asked None before ≡ None → record { one = one; two = two } ≡ no_counts)
    × ((m : ℕ) → made None before ≡ Some m → one.discharges + two.discharges ≡ m)

-- all that is promised over calls and answers alone
pub record Promise (h : Script) : Type 0 where
  pub declines : DeclineLaw h
  pub widening_flows : WideningFlows h
  pub widening_totals : WideningTotals h
  pub flow : FlowLaw h
  pub totals : TotalLaw h
  pub cut : CutLaw h
  pub crossing : CrossingLaw h
  pub hurdle : HurdleLaw h
  pub work : WorkLaw h
  pub trial : TrialLaw h
  pub limit : LimitLaw h
  pub tally : TallyLaw h

-- every transcript that obeys the law keeps the promise
abbrev pub LawPromises : Type 0
LawPromises = (h : Script) → Law idle h → Promise h

-- a call declines by d exactly if d is the first test that fails, and then changes nothing
abbrev pub DeclinesExactly : Type 0
DeclinesExactly = (p q : Phase) (c : Call) (r : Answer) (d : Decline) → Follows p c r q → (r ≡ told.Declined d ↔ refusal p c ≡ Some d) × (r ≡ told.Declined d → q ≡ p)

-- what settles a question is one of the two, with one total, one near and one far cut, or one hurdle: only the flow is open
pub record OneWay (a : Question) : Type 0 where
  pub apart : (s : Plan) (H : Junctions) → Solved a s → Impossible a H → ⊥
  pub totals : (s r : Plan) → Solved a s → Solved a r → total a.plant s.flow ≡ total a.plant r.flow
  pub nears : (s r : Plan) → Solved a s → Solved a r → (v : ℕ) → s.near v ≡ r.near v
  pub fars : (s r : Plan) → Solved a s → Solved a r → (v : ℕ) → s.far v ≡ r.far v
  pub hurdles : (H K : Junctions) → Impossible a H → Impossible a K → (v : ℕ) → H v ≡ K v

abbrev pub ReadingsFixed : Type 0
ReadingsFixed = (a : Question) → OneWay a

-- where a flow is settled, the plant is sound and the plan right
abbrev pub Rightly : Phase → Type 0
Rightly p = (a : Question) (s : Plan) (t : Counts) → p ≡ flowing a s t → Sound a.plant × Solved a s

-- then the widening rule follows from how the trial is settled
abbrev pub WideningDerived : Type 0
WideningDerived = (p q : Phase) (b : Question) (o : Outcome) → Rightly p → Settles b o q → Widening p b q

-- the limits are those that the planner keeps: the lines of stage one are counted right
abbrev pub LimitsSame : Type 0
LimitsSame = (P : Plant) (one two : Tally) → Sound P → WithinLimits P one two ↔ Limited P (record { one = one; two = two })

-- after any lawful run, each work that no test declines has an answer that the law allows
abbrev pub WorksAnswered : Type 0
WorksAnswered = (h : Script) (q : Phase) (k : ℕ) → Run idle h q → refusal q (call.Work k) ≡ None → (o : Outcome) × (m : ℕ) × (q' : Phase) × Follows q (call.Work k) (told.Worked o m) q'

-- each question that passes the tests has a settlement that the law allows
abbrev pub EverySettled : Type 0
EverySettled =
    ((p : Phase) (g : Given) → refusal p (call.Start g) ≡ None → (o : Outcome) × (q : Phase) × Settles (question g) o q)
    × ((p : Phase) (g : Given) (lim : limits.Trial) → refusal p (call.Trial g lim) ≡ None → (o : Outcome) × (q : Phase) × Settles (tried g lim) o q)
