-- Runs of discharges, each of a junction taken from the chooser.
use Rattle.std.specs.Prelude.{◌≡◌, ℕ, Bool, false, ◌⊎◌, List, length, None, Option}
use Rattle.stage.specs.Model.{State, active}
use Rattle.stage.specs.Runs.{Discharges, relabels}
use Rattle.preflow.specs.Choosers.{Puts, Takes}

module _ {C : Type 0} (has : C → ℕ → Bool) (puts : C → ℕ → ℕ → C → Type 0) (takes : C → Option ℕ → C → Type 0) where
  -- m discharges, r of them with a relabel, from st with chooser c to st' with c'
  pub record Ran (n s t : ℕ) (st : State) (c : C) (m r : ℕ) (st' : State) (c' : C) : Type 0 where
    pub taken : List ℕ
    pub count : length taken ≡ m
    pub relabelled : relabels n taken st ≡ r
    pub chain : Discharges (Puts has puts) (Takes has takes) n s t taken st c st' c'

  -- the run stopped after all discharges asked for, or since the chooser had no junction left and nothing is active
  abbrev pub Stopped : ℕ → ℕ → State → C → ℕ → ℕ → C → Type 0
  Stopped s t st' c₁ most m c' = ((m ≡ most) × (c' ≡ c₁)) ⊎ (Takes has takes c₁ None c' × ((v : ℕ) → active s t st'.rows v ≡ false))

  -- at most so many discharges
  pub record RanOut (n s t : ℕ) (st : State) (c : C) (most m r : ℕ) (st' : State) (c' : C) : Type 0 where
    pub between : C
    pub ran : Ran n s t st c m r st' between
    pub stopped : Stopped s t st' between most m c'
