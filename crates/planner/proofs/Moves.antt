-- How the stages of a planner are opened and run.
use Rattle.std.proofs.Common.{◌≡◌, ℕ, ◌+◌, ◌≤◌, Bool, true, false, List, None, Option, sym, subst, ⊎_elim, arith}
use Rattle.std.proofs.lemmas.Bool.{both_ways}
use Rattle.plant.specs.declared.aim.Aim.{Aim}
use Rattle.plant.specs.declared.aim.Aim.TheVariants.{Greatest, Least}
use Rattle.plant.specs.Held.{Arc}
use Rattle.stage.specs.declared.Row.{Row}
use Rattle.stage.specs.Model.{State, active, begin_puts, begun}
use Rattle.stage.specs.Runs.{SetLike, Tied}
use Rattle.stage.specs.States.{Balanced}
use Rattle.stage.proofs.Ties.{stays_tied}
use Rattle.preflow.specs.Choosers.{Filled, Puts, Takes}
use Rattle.preflow.specs.Running.{RanOut}
use Rattle.preflow.specs.Stages.{Ends, Stands}
use Rattle.planner.specs.declared.answer.Tally.{Tally}
use Rattle.planner.specs.declared.machine.Planner.{Planner}
use Rattle.planner.specs.declared.machine.State as mode
use Rattle.planner.specs.declared.machine.State.TheVariants.{StageOne, StageTwo}
use Rattle.planner.specs.Standing.{Done, One, Quiet, Sound, first_state, second_state, Stand, Ties, Two, goal_of, stage_in, plant_in, start_of}
use Rattle.planner.specs.Tallies.{more}
use Rattle.planner.specs.Works.{InOne, RanCounted}
use Rattle.planner.proofs.Questions.{done_more, one_stands, two_stands}
use Rattle.plant.specs.declared.held_plant.HeldPlant.{HeldPlant}
use Rattle.plant.specs.Held.{plant_of}
use Rattle.preflow.specs.declared.network.Network.{Network}
use Rattle.preflow.specs.Networks.{state_in}

-- ---- the same stage by other names
pub first_ends : (n j s t m : ℕ) → j ≡ n → Ends j (j + 1) (j + 2) s t m → Ends n (n + 1) (n + 2) s t m
first_ends n j s t m e k = rw e at k

pub second_ends : (aim a : Aim) (n j s t m : ℕ) → a ≡ aim → j ≡ n → elim a as (λ (_ : Aim). Type 0) [ Greatest ↦ Ends 0 1 j s t m | Least ↦ Ends 1 0 j s t m ] → Ends (start_of aim) (goal_of aim) n s t m
second_ends aim a n j s t m ea e k = rw (ea, e) at (ends a k)
  where
    ends : (a : Aim) → elim a as (λ (_ : Aim). Type 0) [ Greatest ↦ Ends 0 1 j s t m | Least ↦ Ends 1 0 j s t m ] → Ends (start_of a) (goal_of a) j s t m
    ends Greatest k = k
    ends Least k = k

pub balanced_at : (N S T n s t : ℕ) (ls ls₀ : List Arc) → N ≡ n → S ≡ s → T ≡ t → ls₀ ≡ ls → Balanced n s t ls → Balanced N S T ls₀
balanced_at N S T n s t ls ls₀ eN eS eT el b = rw (eN, eS, eT, el) b

pub stands_at : (N S T n s t : ℕ) (st : State) → N ≡ n → S ≡ s → T ≡ t → Stands n s t st → Stands N S T st
stands_at N S T n s t st eN eS eT b = rw (eN, eS, eT) b

module _ {C : Type 0} (has : C → ℕ → Bool) where
  pub tied_at : (S T s t : ℕ) (rs : List Row) (c : C) → S ≡ s → T ≡ t → Tied has s t rs c → Tied has S T rs c
  tied_at S T s t rs c eS eT b = rw (eS, eT) b

  -- what stands in a stage
  pub at_one : (p : Planner C) → Sound has p → p.state ≡ StageOne → One (plant_in p) (stage_in p) p.one p.two
  at_one p s e = subst (λ (m : mode.State). Stand m p.plant.aim (plant_in p) (stage_in p) p.one p.two) e s.stand

  pub tied_one : (p : Planner C) → Sound has p → p.state ≡ StageOne → Tied has p.plant.n (p.plant.n + 1) (stage_in p).rows p.network.chooser
  tied_one p s e = subst (λ (m : mode.State). Ties has m p.plant.aim (plant_in p) (stage_in p).rows p.network.chooser) e s.ties

  pub at_two : (p : Planner C) → Sound has p → p.state ≡ StageTwo → Two p.plant.aim (plant_in p) (stage_in p) p.one p.two
  at_two p s e = subst (λ (m : mode.State). Stand m p.plant.aim (plant_in p) (stage_in p) p.one p.two) e s.stand

  pub tied_two : (p : Planner C) → Sound has p → p.state ≡ StageTwo → Tied has (start_of p.plant.aim) (goal_of p.plant.aim) (stage_in p).rows p.network.chooser
  tied_two p s e = subst (λ (m : mode.State). Ties has m p.plant.aim (plant_in p) (stage_in p).rows p.network.chooser) e s.ties

  pub one_sound : (p : Planner C) → p.state ≡ StageOne → One (plant_in p) (stage_in p) p.one p.two → Tied has p.plant.n (p.plant.n + 1) (stage_in p).rows p.network.chooser → Sound has p
  one_sound p e o t =
      record {
        stand = subst (λ (m : mode.State). Stand m p.plant.aim (plant_in p) (stage_in p) p.one p.two) (sym e) o;
        ties = subst (λ (m : mode.State). Ties has m p.plant.aim (plant_in p) (stage_in p).rows p.network.chooser) (sym e) t;
      }

  pub two_sound : (p : Planner C) → p.state ≡ StageTwo → Two p.plant.aim (plant_in p) (stage_in p) p.one p.two →
      Tied has (start_of p.plant.aim) (goal_of p.plant.aim) (stage_in p).rows p.network.chooser → Sound has p
  two_sound p e o t =
      record {
        stand = subst (λ (m : mode.State). Stand m p.plant.aim (plant_in p) (stage_in p) p.one p.two) (sym e) o;
        ties = subst (λ (m : mode.State). Ties has m p.plant.aim (plant_in p) (stage_in p).rows p.network.chooser) (sym e) t;
      }

module _ {C : Type 0} (has : C → ℕ → Bool) (clears : C → C → Type 0) (puts : C → ℕ → ℕ → C → Type 0) (takes : C → Option ℕ → C → Type 0) where
  like : SetLike has (Puts has puts) (Takes has takes)
  like = record { put = λ c v h c' p. p.1; take = λ c r c' p. p.1 }

  -- a stage that was begun
  pub record Opens (n s t : ℕ) (ls : List Arc) (c : C) (st : State) (c' : C) : Type 0 where
    pub begins : st ≡ begun n s ls
    pub chooser : Filled has clears puts c (begin_puts n s t st.rows) c'
    pub tied : Tied has s t st.rows c'

  pub opens_at : (N S T n s t : ℕ) (ls ls₀ : List Arc) (c c₀ c' : C) (st : State) → N ≡ n → S ≡ s → T ≡ t → ls₀ ≡ ls → c₀ ≡ c →
      st ≡ begun N S ls₀ → Filled has clears puts c₀ (begin_puts N S T st.rows) c' → Tied has S T st.rows c' → Opens n s t ls c st c'
  opens_at N S T n s t ls ls₀ c c₀ c' st eN eS eT el ec b f d = record { begins = rw (eN, eS, el) at b; chooser = rw (eN, eS, eT, ec) at f; tied = rw (eS, eT) at d }

  -- a stage that went on
  pub ran_at : (N S T n s t : ℕ) (st st' : State) (c c' : C) (most m r : ℕ) → N ≡ n → S ≡ s → T ≡ t → RanOut has puts takes N S T st c most m r st' c' → RanOut has puts takes n s t st c most m r st' c'
  ran_at N S T n s t st st' c c' most m r eN eS eT b = rw (eN, eS, eT) at b

  pub ran_done : (n s t : ℕ) (began st st' : State) (tally tally' : Tally) (c c' : C) (most m r : ℕ) → n ≤ 252 → Stands n s t st → Tied has s t st.rows c →
      Done n s t began st tally → RanOut has puts takes n s t st c most m r st' c' → tally' ≡ more tally m r → Done n s t began st' tally'
  ran_done n s t began st st' tally tally' c c' most m r cap h tied d o e =
      let k = stays_tied has (Puts has puts) (Takes has takes) like n s t h.flow o.ran.taken st st' c o.between cap h.holds tied o.ran.chain in
      subst (λ (x : Tally). Done n s t began st' x) (sym e) (done_more n s t began st st' tally o.ran.taken m r d k.run k.state o.ran.count o.ran.relabelled)

  -- where something is active all discharges asked for were made
  pub all_made : (n s t : ℕ) (st st' : State) (c c' : C) (most m r : ℕ) → RanOut has puts takes n s t st c most m r st' c' → (v : ℕ) → active s t st'.rows v ≡ true → m ≡ most
  all_made n s t st st' c c' most m r o v on =
      ⊎_elim
      (λ (a : (m ≡ most) × (c' ≡ o.between)). a.0)
      (λ (b : Takes has takes o.between None c' × ((u : ℕ) → active s t st'.rows u ≡ false)). absurd (both_ways _ (b.1 v) on))
      o.stopped

  -- so many discharges more in stage one
  pub one_more : (h : HeldPlant) (w w' : Network C) (one two one' : Tally) (most m N S T : ℕ) → N ≡ h.n + 2 → S ≡ h.n → T ≡ h.n + 1 → One (plant_of h) (state_in w) one two →
      Tied has h.n (h.n + 1) (state_in w).rows w.chooser → RanCounted has puts takes N S T w one most m w' one' → One (plant_of h) (state_in w') one' two
  one_more h w w' one two one' most m N S T eN eS eT o tied r =
      record {
        done = ran_done (h.n + 2) h.n (h.n + 1) (first_state (plant_of h)) (state_in w) (state_in w') one one' w.chooser w'.chooser most m r.relabels (omega (arith, h.sized.1))
            (one_stands h (state_in w) one o.done) tied o.done (ran_at N S T (h.n + 2) h.n (h.n + 1) (state_in w) (state_in w') w.chooser w'.chooser most m r.relabels eN eS eT r.ran) r.counted;
        none = o.none;
      }

  -- and in stage two
  pub two_more : (h : HeldPlant) (aim : Aim) (w w' : Network C) (one two two' : Tally) (most m N S T : ℕ) → N ≡ h.n → S ≡ start_of aim → T ≡ goal_of aim → Two aim (plant_of h) (state_in w) one two →
      Tied has (start_of aim) (goal_of aim) (state_in w).rows w.chooser → RanCounted has puts takes N S T w two most m w' two' → Two aim (plant_of h) (state_in w') one two'
  two_more h aim w w' one two two' most m N S T eN eS eT o tied r =
      record {
        found = o.found;
        first = o.first;
        quiet = o.quiet;
        full = o.full;
        done = ran_done h.n (start_of aim) (goal_of aim) (second_state aim (plant_of h) o.found.arcs) (state_in w) (state_in w') two two' w.chooser w'.chooser most m r.relabels (omega (arith, h.sized.1))
            (two_stands h aim (state_in w) one two o) tied o.done (ran_at N S T h.n (start_of aim) (goal_of aim) (state_in w) (state_in w') w.chooser w'.chooser most m r.relabels eN eS eT r.ran) r.counted;
      }

module _ {C : Type 0} (has : C → ℕ → Bool) (clears : C → C → Type 0) (puts : C → ℕ → ℕ → C → Type 0) (takes : C → Option ℕ → C → Type 0) where
  pub in_one_made : (p p' : Planner C) (most m N S T : ℕ) → N ≡ p.plant.n + 2 → S ≡ p.plant.n → T ≡ p.plant.n + 1 → m ≤ most → p'.plant ≡ p.plant → p'.two ≡ p.two →
      RanCounted has puts takes N S T p.network p.one most m p'.network p'.one → InOne has clears puts takes p most m p'
  in_one_made p p' most m N S T eN eS eT few eP e2 r =
      record {
        relabels = r.relabels;
        ran = ran_at has clears puts takes N S T (p.plant.n + 2) p.plant.n (p.plant.n + 1) (stage_in p) (stage_in p') p.network.chooser p'.network.chooser most m r.relabels eN eS eT r.ran;
        few = few;
        plant = eP;
        one = r.counted;
        two = e2;
      }

-- nothing is active in the same stage by other names
pub quiet_at : (s t S T : ℕ) (rs : List Row) → S ≡ s → T ≡ t → Quiet S T rs → Quiet s t rs
quiet_at s t S T rs eS eT q = rw (eS, eT) at q
