-- A whole step, and a whole beginning.
use Rattle.std.proofs.Common.{◌≡◌, ℕ, ◌<◌, ◌≤◌, Bool, ◌≢◌, List, Some, Option, refl}
use Rattle.plant.specs.Held.{Arc}
use Rattle.stage.specs.Model.{State, begin_puts, begun, discharge_puts, discharged_arcs, discharged_rows, unspent}
use Rattle.stage.specs.Runs.{PutAll, SetLike, Tied}
use Rattle.stage.specs.Sets.{Empty}
use Rattle.stage.specs.States.{Balanced}
use Rattle.stage.proofs.Ties.{begins_tied, discharge_tied}
use Rattle.preflow.specs.Choosers.{Filled, Puts, Takes}
use Rattle.preflow.specs.Stages.{Light, Stands, Stepped}
use Rattle.preflow.proofs.Standing.{begun_stands, discharged_stands}

module _ {C : Type 0} (has : C → ℕ → Bool) (clears : C → C → Type 0) (puts : C → ℕ → ℕ → C → Type 0) (takes : C → Option ℕ → C → Type 0) where
  like : SetLike has (Puts has puts) (Takes has takes)
  like = record { put = λ c v h c' p. p.1; take = λ c r c' p. p.1 }

  pub record Step (n s t : ℕ) (st : State) (c : C) (b : Bool) (st' : State) (c' : C) : Type 0 where
    pub step : Stepped has puts takes n s t st c (Some b) st' c'
    pub stands : Stands n s t st'
    pub tied : Tied has s t st'.rows c'

  -- v is taken and discharged
  pub step_done : (n s t v : ℕ) (st st' : State) (c c₁ c' : C) (b : Bool) → n ≤ 252 → Stands n s t st → Tied has s t st.rows c → Takes has takes c (Some v) c₁ →
      st'.arcs ≡ discharged_arcs v st.arcs st.rows → st'.rows ≡ discharged_rows n v st.arcs st.rows → b ≡ unspent v st.arcs st.rows →
      PutAll (Puts has puts) c₁ (discharge_puts n s t v st.arcs st.rows) c' → Step n s t st c b st' c'
  step_done n s t v st st' c c₁ c' b cap h tied tk el er eb p =
      let x = discharge_tied has (Puts has puts) (Takes has takes) like n s t h.flow st.arcs st.rows v c c₁ c' cap h.holds tied tk p in
      record {
        step = (v, c₁, tk, x.0, eb, rw (el, er) refl, p);
        stands = rw (el, er) (discharged_stands n s t v st h x.0);
        tied = rw er x.1;
      }

  pub record Begun (n s t : ℕ) (ls : List Arc) (c : C) (st : State) (c' : C) : Type 0 where
    pub state : st ≡ begun n s ls
    pub puts_are : Filled has clears puts c (begin_puts n s t st.rows) c'
    pub stands : Stands n s t st
    pub tied : Tied has s t st.rows c'

  pub begin_done : (n s t : ℕ) (ls : List Arc) (c c₁ c' : C) (st : State) → n ≤ 252 → s < n → t < n → s ≢ t → Balanced n s t ls → Light ls →
      st.arcs ≡ (begun n s ls).arcs → st.rows ≡ (begun n s ls).rows → clears c c₁ → Empty (has c₁) → PutAll (Puts has puts) c₁ (begin_puts n s t st.rows) c' →
      Begun n s t ls c st c'
  begin_done n s t ls c c₁ c' st cap js jt differ bal light el er cl none p =
      let k = begun_stands n s t ls js jt differ bal light in
      record {
        state = rw (el, er) refl;
        puts_are = (c₁, cl, none, p);
        stands = rw (el, er) k;
        tied = rw er (begins_tied has (Puts has puts) (Takes has takes) like n s t (begun n s ls).rows c₁ c' cap k.holds.standing.size none (rw er at p));
      }
