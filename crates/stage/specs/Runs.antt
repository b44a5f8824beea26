-- Discharges one after another, and the chooser beside them.
use Rattle.std.specs.Prelude.{◌≡◌, ℕ, ◌+◌, ◌*◌, ◌<◌, Bool, true, cond, List, [], ◌∷◌, length, Some, Option}
use Rattle.stage.specs.declared.Row.{Row}
use Rattle.stage.specs.Model.{State, active, unspent, discharged, discharge_puts}
use Rattle.stage.specs.Sets.{Added, Taken}

-- the state after discharges of the junctions of a list
abbrev pub ran : ℕ → List ℕ → State → State
ran n [] st = st
ran n (v ∷ vs) st = ran n vs (discharged n v st)

-- each of them is active when its turn comes
abbrev pub Run : ℕ → ℕ → ℕ → List ℕ → State → Type 0
Run n s t [] st = Unit {0}
Run n s t (v ∷ vs) st = (active s t st.rows v ≡ true) × Run n s t vs (discharged n v st)

-- the number of relabels among them
abbrev pub relabels : ℕ → List ℕ → State → ℕ
relabels n [] st = 0
relabels n (v ∷ vs) st = cond (unspent v st.arcs st.rows) 1 0 + relabels n vs (discharged n v st)

-- few relabels and few discharges, of n junctions and m lines
pub record Short (n m : ℕ) (vs : List ℕ) (st : State) : Type 0 where
  pub relabels_few : relabels n vs st < 2 * (n * n)
  pub discharges_few : length vs < 4 * (n * n) * (m + 1)

-- A chooser is known by what a put and a taking may do: `puts c v h c'`, junction v with label h, and `takes c r c'`.
module _ {C : Type 0} (puts : C → ℕ → ℕ → C → Type 0) where
  -- the puts of a list, one after another, lead from c to c'
  abbrev pub PutAll : C → List (ℕ × ℕ) → C → Type 0
  PutAll c [] c' = c' ≡ c
  PutAll c (p ∷ ps) c' = (c₁ : C) × puts c p.0 p.1 c₁ × PutAll c₁ ps c'

module _ {C : Type 0} (puts : C → ℕ → ℕ → C → Type 0) (takes : C → Option ℕ → C → Type 0) where
  -- each junction of the list is taken, discharged, and what becomes active is put
  abbrev pub Discharges : ℕ → ℕ → ℕ → List ℕ → State → C → State → C → Type 0
  Discharges n s t [] st c st' c' = (st' ≡ st) × (c' ≡ c)
  Discharges n s t (v ∷ vs) st c st' c' =
      (c₁ c₂ : C) × takes c (Some v) c₁ × PutAll puts c₁ (discharge_puts n s t v st.arcs st.rows) c₂ × Discharges n s t vs (discharged n v st) c₂ st' c'

module _ {C : Type 0} (has : C → ℕ → Bool) where
  -- the chooser holds just the active junctions
  abbrev pub Tied : ℕ → ℕ → List Row → C → Type 0
  Tied s t rs c = (u : ℕ) → has c u ≡ active s t rs u

  -- puts and takings change the set as they should
  pub record SetLike (puts : C → ℕ → ℕ → C → Type 0) (takes : C → Option ℕ → C → Type 0) : Type 0 where
    pub put : (c : C) (v h : ℕ) (c' : C) → puts c v h c' → Added (has c) v (has c')
    pub take : (c : C) (r : Option ℕ) (c' : C) → takes c r c' → Taken (has c) r (has c')
