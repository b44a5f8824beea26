-- What is proved of every stage.
use Rattle.std.specs.Prelude.{◌≡◌, ℕ, ◌+◌, ◌<◌, ◌≤◌, Bool, true, false, ◌≢◌, List, [], length, ◌≤ℤ◌, Option}
use borrow.Author.Differences.{up}
use Rattle.std.specs.List.{ContainsAt, AllByRecursion}
use Rattle.plant.specs.Plants.{Plant, Sound, Feasible, Best, Junctions, summed, every, high_of}
use Rattle.plant.specs.Held.{Arc, lines_of, flows_of}
use Rattle.plant.specs.declared.aim.Aim.TheVariants.{Greatest, Least}
use Rattle.stage.specs.declared.Row.{Row}
use Rattle.stage.specs.Model.{State, exc, lab, active, scan_arcs, scan_rows, scan_puts, unspent, discharged_rows, discharged_arcs, begun, begin_puts, come, gone}
use Rattle.plant.specs.Held.{residual, other}
use Rattle.stage.specs.States.{Balanced, Standing, Holds, Tight, Bounded, Reach}
use Rattle.stage.specs.Runs.{ran, Run, Short, PutAll, Discharges, Tied, SetLike}
use Rattle.stage.specs.Sets.{Empty, Added, Taken}

-- Over a balanced flow the beginning gives a state that holds.
abbrev pub BeginningHolds : Type 0
BeginningHolds = (n s t : ℕ) (ls : List Arc) → s < n → t < n → s ≢ t → Balanced n s t ls →
    Holds n s t ls (begun n s ls).arcs (begun n s ls).rows

-- what a discharge of v keeps: the goal loses nothing, other labels stay, and v's grows exactly if excess is left
pub record Kept (n s t : ℕ) (ms : List Arc) (rs : List Row) (v : ℕ) (ls' : List Arc) (rs' : List Row) : Type 0 where
  pub holds : Holds n s t ms ls' rs'
  pub goal : exc rs t ≤ℤ exc rs' t
  pub labels : (u : ℕ) → u ≢ v → lab rs' u ≡ lab rs u
  pub raised : 0 < up (exc rs' v) → lab rs v < lab rs' v
  pub stays : up (exc rs' v) ≡ 0 → lab rs' v ≡ lab rs v

-- A discharge of an active junction keeps what holds.
abbrev pub DischargeKeeps : Type 0
DischargeKeeps = (n s t : ℕ) (ms ls : List Arc) (rs : List Row) (v : ℕ) → Holds n s t ms ls rs → active s t rs v ≡ true →
    Kept n s t ms rs v (discharged_arcs v ls rs) (discharged_rows n v ls rs)

-- From an active junction some residual leads on.
abbrev pub ActiveGoesOn : Type 0
ActiveGoesOn = (n s t : ℕ) (ms ls : List Arc) (rs : List Row) (v : ℕ) → Holds n s t ms ls rs → active s t rs v ≡ true →
    (l : Arc) × ContainsAt ls l × (0 < residual v l)

-- over lines and rows after the scan of v: no push is possible any more, and h is one above the smallest label in reach
pub record Relabel (v : ℕ) (ls : List Arc) (rs : List Row) (h : ℕ) : Type 0 where
  pub stuck : AllByRecursion (λ l. 0 < residual v l → lab rs v ≢ lab rs (other v l) + 1) ls
  pub least : AllByRecursion (λ l. 0 < residual v l → h ≤ lab rs (other v l) + 1) ls
  pub met : (l : Arc) × ContainsAt ls l × (0 < residual v l) × (h ≡ lab rs (other v l) + 1)

-- A relabel comes only where v can push no more, and gives that label.
abbrev pub RelabelExact : Type 0
RelabelExact = (n s t : ℕ) (ms ls : List Arc) (rs : List Row) (v : ℕ) → Holds n s t ms ls rs → active s t rs v ≡ true → unspent v ls rs ≡ true →
    Relabel v (scan_arcs v ls rs) (scan_rows v ls rs) (lab (discharged_rows n v ls rs) v)

-- Once the excess is zero the rest of a scan changes nothing and puts nothing.
abbrev pub ScanStops : Type 0
ScanStops = (s t v : ℕ) (ls : List Arc) (rs : List Row) → up (exc rs v) ≡ 0 →
    (scan_arcs v ls rs ≡ ls) × (scan_rows v ls rs ≡ rs) × (scan_puts s t v ls rs ≡ [])

-- No excess is beyond the sum of the highs.
abbrev pub ExcessBounded : Type 0
ExcessBounded = (n s t : ℕ) (ms ls : List Arc) (rs : List Row) → Holds n s t ms ls rs → Bounded (summed every high_of (lines_of ls)) rs

-- Discharges of active junctions are few, and what holds at their beginning holds at their end.
abbrev pub RunsEnd : Type 0
RunsEnd = (n s t : ℕ) (ms : List Arc) (st : State) (vs : List ℕ) → Holds n s t ms st.arcs st.rows → Run n s t vs st →
    Holds n s t ms (ran n vs st).arcs (ran n vs st).rows × Short n (length st.arcs) vs st

-- what a chain of takings, discharges and puts keeps beside a chooser
pub record Tracked {C : Type 0} (has : C → ℕ → Bool) (n s t : ℕ) (ms : List Arc) (vs : List ℕ) (st st' : State) (c' : C) : Type 0 where
  pub state : st' ≡ ran n vs st
  pub run : Run n s t vs st
  pub holds : Holds n s t ms st'.arcs st'.rows
  pub short : Short n (length st.arcs) vs st
  pub tied : Tied has s t st'.rows c'

module _ {C : Type 0} (has : C → ℕ → Bool) (puts : C → ℕ → ℕ → C → Type 0) (takes : C → Option ℕ → C → Type 0) where
  -- A chooser that holds just the active junctions goes on doing so, and so each junction taken is active.
  abbrev pub StaysTied : Type 0
  StaysTied = SetLike has puts takes → (n s t : ℕ) (ms : List Arc) (vs : List ℕ) (st st' : State) (c c' : C) → n ≤ 252 →
      Holds n s t ms st.arcs st.rows → Tied has s t st.rows c → Discharges puts takes n s t vs st c st' c' → Tracked has n s t ms vs st st' c'

  -- The puts of the beginning tie an empty chooser.
  abbrev pub BeginsTied : Type 0
  BeginsTied = SetLike has puts takes → (n s t : ℕ) (rs : List Row) (c c' : C) → n ≤ 252 →
      length rs ≡ n → Empty (has c) → PutAll puts c (begin_puts n s t rs) c' → Tied has s t rs c'

-- Both hold of the chooser that is a set and nothing else.
pub record SetTies : Type 0 where
  pub like : SetLike (λ (S : Junctions). S) (λ S v h R. Added S v R) Taken
  pub stays : StaysTied (λ (S : Junctions). S) (λ S v h R. Added S v R) Taken
  pub begins : BeginsTied (λ (S : Junctions). S) (λ S v h R. Added S v R) Taken

-- Some set that has the start and lacks the goal is left by no residual.
abbrev pub StartParted : Type 0
StartParted = (n s t : ℕ) (ls : List Arc) (rs : List Row) → Standing n s t ls rs →
    (X : Junctions) × (X s ≡ true) × (X t ≡ false) × AllByRecursion (Tight X) ls

-- So no residual path leads from the start to the goal.
abbrev pub GoalOutOfReach : Type 0
GoalOutOfReach = (n s t : ℕ) (ls : List Arc) (rs : List Row) → Standing n s t ls rs → Reach ls s t → ⊥

-- a stage that has ended: it holds, and nothing is active
pub record Ended (n s t : ℕ) (ms ls : List Arc) (rs : List Row) : Type 0 where
  pub holds : Holds n s t ms ls rs
  pub quiet : (v : ℕ) → active s t rs v ≡ false

-- the flow of ls sends no less out of the start and into the goal than that of ks
pub record NoLess (s t : ℕ) (ls ks : List Arc) : Type 0 where
  pub start : come ls s + gone ks s ≤ gone ls s + come ks s
  pub goal : gone ls t + come ks t ≤ come ls t + gone ks t

-- When a stage has ended its flow is balanced, and no balanced flow of these lines sends more.
abbrev pub EndIsBest : Type 0
EndIsBest = (n s t : ℕ) (ms ls : List Arc) (rs : List Row) → Ended n s t ms ls rs →
    Balanced n s t ls × ((ks : List Arc) → Balanced n s t ks → lines_of ls ≡ lines_of ks → NoLess s t ls ks)

-- A balanced flow brings the goal what it takes from the start.
abbrev pub GoalGetsAll : Type 0
GoalGetsAll = (n s t : ℕ) (ls : List Arc) → s < n → t < n → s ≢ t → Balanced n s t ls → come ls s + come ls t ≡ gone ls s + gone ls t

-- Between header and tank a feasible flow is balanced, and a stage that has ended gives a best flow.
pub record SecondStage (P : Plant) (ls : List Arc) : Type 0 where
  pub forth : Feasible P (flows_of ls) → Balanced P.junctions 0 1 ls
  pub greatest : (ms : List Arc) (rs : List Row) → Ended P.junctions 0 1 ms ls rs → Best Greatest P (flows_of ls)
  pub back : Feasible P (flows_of ls) → Balanced P.junctions 1 0 ls
  pub least : (ms : List Arc) (rs : List Row) → Ended P.junctions 1 0 ms ls rs → Best Least P (flows_of ls)

abbrev pub SecondStageBest : Type 0
SecondStageBest = (P : Plant) (ls : List Arc) → Sound P → lines_of ls ≡ P.lines → SecondStage P ls
