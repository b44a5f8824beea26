-- The state of a stage as the code holds it, and what a step does.
use Rattle.std.specs.Prelude.{◌≡◌, ℕ, ◌^◌, ◌<◌, ◌≤◌, Bool, true, false, cond, List, take, Some, None, Option}
use Rattle.plant.specs.declared.held.HeldLine.{HeldLine}
use Rattle.plant.specs.Held.{Arc, arcs, lines_of, other}
use Rattle.plant.specs.Plants.{every, high_of, summed}
use Rattle.stage.specs.declared.Row.{Row}
use Rattle.stage.specs.Model.{State, active, discharge_puts, discharged, lab, unspent, wakes}
use Rattle.stage.specs.Runs.{PutAll}
use Rattle.stage.specs.States.{Bounded, Holds}
use Rattle.preflow.specs.Choosers.{Puts, Takes}

-- all held lines, with all rows, and with the first n of them
abbrev pub state_of : List HeldLine → List Row → State
state_of hs rs = record { arcs = arcs hs; rows = rs }

abbrev pub state : ℕ → List HeldLine → List Row → State
state n hs rs = state_of hs (take n rs)

-- all highs together are no more than 2 ^ 40
abbrev pub Light : List Arc → Type 0
Light ls = summed every high_of (lines_of ls) ≤ 2 ^ 40

-- a stage stands: what holds between two discharges, with some balanced flow of the same lines
pub record Stands (n s t : ℕ) (st : State) : Type 0 where
  pub flow : List Arc
  pub holds : Holds n s t flow st.arcs st.rows
  pub light : Light st.arcs

-- rows whose numbers leave room to add
pub record Roomy (rs : List Row) : Type 0 where
  pub bounded : Bounded (2 ^ 40) rs
  pub labels : (u : ℕ) → lab rs u < 2 ^ 31

-- the other end of l, if the push of v by it makes that end active
abbrev pub woken : ℕ → ℕ → ℕ → Arc → List Row → Option ℕ
woken s t v l rs = cond (wakes s t v l rs) (Some (other v l)) None

-- the answer to whether any junction is active
abbrev pub AnyActive : ℕ → ℕ → List Row → Bool → Type 0
AnyActive s t rs true = (v : ℕ) × (active s t rs v ≡ true)
AnyActive s t rs false = (v : ℕ) → active s t rs v ≡ false

-- one step from st with chooser c to st' with c': None if nothing is active, and else a junction
-- is taken and discharged, and the answer says whether it was relabelled
module _ {C : Type 0} (has : C → ℕ → Bool) (puts : C → ℕ → ℕ → C → Type 0) (takes : C → Option ℕ → C → Type 0) where
  abbrev pub Stepped : ℕ → ℕ → ℕ → State → C → Option Bool → State → C → Type 0
  Stepped n s t st c None st' c' = Takes has takes c None c' × (st' ≡ st) × ((v : ℕ) → active s t st.rows v ≡ false)
  Stepped n s t st c (Some b) st' c' =
      (v : ℕ) × (c₁ : C) × Takes has takes c (Some v) c₁ × (active s t st.rows v ≡ true) × (b ≡ unspent v st.arcs st.rows) × (st' ≡ discharged n v st)
      × PutAll (Puts has puts) c₁ (discharge_puts n s t v st.arcs st.rows) c'

-- the ends and the number of junctions that a stage is to have, and those it has
abbrev pub Ends : ℕ → ℕ → ℕ → ℕ → ℕ → ℕ → Type 0
Ends s t n s' t' n' = (s' ≡ s) × (t' ≡ t) × (n' ≡ n)
