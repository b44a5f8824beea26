-- A chooser that holds just the active junctions goes on doing so.
use Rattle.std.proofs.Common.{◌≡◌, ℕ, zero, suc, ◌<◌, ◌≤◌, Bool, true, false, not, List, [], ◌∷◌, length, ◌≤ℤ◌, Some, Option, sym, refl, ap, ◌∙◌, ⊎_elim, arith}
use borrow.Author.Differences.{up}
use Rattle.std.specs.List.{AllByRecursion}
use Rattle.std.proofs.lemmas.Int.{ints}
use Rattle.std.proofs.lemmas.Bool.{cases_eq, cases_lt, cases_Bool, and_parts, and_cases, not-false, ltb-true, ltb-false, both_ways}
use Rattle.plant.specs.Held.{Arc}
use Rattle.stage.specs.declared.Row.{Row}
use Rattle.stage.specs.Model.{State, exc, lab, active, amount, moved, scan_rows, unspent, wakes, put_if, scan_puts, discharge_puts, begin_puts, discharged_rows, discharged}
use Rattle.plant.specs.Held.{other}
use Rattle.stage.specs.States.{SoundArc, Holds}
use Rattle.stage.specs.Sets.{Empty, Elsewhere, Added, Taken}
use Rattle.stage.specs.Runs.{Run, PutAll, Discharges, Tied, SetLike}
use Rattle.stage.specs.Laws.{StaysTied, BeginsTied, SetTies}
use Rattle.stage.proofs.Rows.{one_sided, length_sent}
use Rattle.stage.proofs.Sweeps.{other_in, sent_by, given_sent}
use Rattle.stage.proofs.Actives.{active_true, true_active, idle, active_same, exc_past}
use Rattle.stage.proofs.Chains.{puts_split, discharges_ran}
use Rattle.stage.proofs.Keeps.{kept}
use Rattle.stage.proofs.Counts.{exc_discharged, runs_end}

-- more excess leaves a junction active
active_more : (n s t : ℕ) (rs rs' : List Row) (u : ℕ) → length rs ≡ n → exc rs u ≤ℤ exc rs' u → active s t rs u ≡ true → active s t rs' u ≡ true
active_more n s t rs rs' u e h a =
    let w = active_true n s t rs u e a in
    true_active n s t rs' u (record { inside = w.inside; no_start = w.no_start; no_goal = w.no_goal; some = omega (arith, ints, w.some, one_sided (exc rs u)) })

module _ {C : Type 0} (has : C → ℕ → Bool) (puts : C → ℕ → ℕ → C → Type 0) (takes : C → Option ℕ → C → Type 0) (like : SetLike has puts takes) where
  -- a put that is made if b
  record Put (b : Bool) (u : ℕ) (c c' : C) : Type 0 where
    made : b ≡ true → u < 252 → has c' u ≡ true
    none : b ≡ false → has c' u ≡ has c u
    rest : Elsewhere (has c) u (has c')

  put_made : (b : Bool) (u h : ℕ) (c c' : C) → PutAll puts c (put_if b u h) c' → Put b u c c'
  put_made true u h c c' p =
      let a = like.put c u h p.0 p.1 in
      let e : has c' ≡ has p.0 = ap has p.2 in
      record { made = λ q k. ap (λ f. f u) e ∙ a.0 k; none = λ q. absurd (both_ways true q refl); rest = λ x q. ap (λ f. f x) e ∙ a.2 x q }
  put_made false u h c c' p =
      let e : has c' ≡ has c = ap has p in
      record { made = λ q k. absurd (both_ways false refl q); none = λ q. ap (λ f. f u) e; rest = λ x q. ap (λ f. f x) e }

  -- tied but at v, which the chooser does not hold
  record TiedOff (s t v : ℕ) (rs : List Row) (c : C) : Type 0 where
    gone : has c v ≡ false
    rest : (u : ℕ) → (u ≡ v → ⊥) → has c u ≡ active s t rs u

  push_tied : (n s t v : ℕ) (l : Arc) (rs : List Row) (c c' : C) → n ≤ 252 → length rs ≡ n → v < n → SoundArc n l →
      PutAll puts c (put_if (wakes s t v l rs) (other v l) (lab rs (other v l))) c' → TiedOff s t v rs c → TiedOff s t v (moved v l rs) c'
  unfolding wakes
  push_tied n s t v l rs c c' cap e k sl p tied =
      let w = other v l in
      let rs' = moved v l rs in
      let o = other_in n v l sl in
      let m = sent_by n v (amount v l rs) l rs e k sl in
      let g = given_sent n v (amount v l rs) l rs e k sl in
      let q = put_made (wakes s t v l rs) w (lab rs w) c c' p in
      let at : has c' w ≡ active s t rs' w = ⊎_elim
      (λ (y : wakes s t v l rs ≡ true). q.made y (omega (arith, o.0)) ∙ sym (and_parts (active s t rs' w) (not (active s t rs w)) y).0)
      (λ (y : wakes s t v l rs ≡ false).
      let z : active s t rs w ≡ active s t rs' w = ⊎_elim
      (λ (x : active s t rs w ≡ true). x ∙ sym (active_more n s t rs rs' w e (g.more w o.1) x))
      (λ (x : active s t rs w ≡ false). x ∙ sym (⊎_elim
      (λ (j : active s t rs' w ≡ false). j)
      (λ (j : not (active s t rs w) ≡ false). absurd (both_ways (active s t rs w) x (not-false (active s t rs w) j)))
      (and_cases (active s t rs' w) (not (active s t rs w)) y)))
      (cases_Bool (active s t rs w)) in
      q.none y ∙ tied.rest w o.1 ∙ z)
      (cases_Bool (wakes s t v l rs)) in
      record {
        gone = q.rest v (λ y. o.1 (sym y)) ∙ tied.gone;
        rest = λ u y. ⊎_elim
            (λ (z : u ≡ w). rw z at)
            (λ (z : u ≡ w → ⊥). q.rest u z ∙ tied.rest u y ∙ active_same s t rs rs' u (sym (m.rest u y z)))
            (cases_eq u w);
      }

  scan_tied : (n s t v : ℕ) (ls : List Arc) (rs : List Row) (c c' : C) → n ≤ 252 → length rs ≡ n → v < n → AllByRecursion (SoundArc n) ls →
      PutAll puts c (scan_puts s t v ls rs) c' → TiedOff s t v rs c → TiedOff s t v (scan_rows v ls rs) c'
  scan_tied n s t v [] rs c c' cap e k sl p tied = rw p tied
  scan_tied n s t v (l ∷ ls) rs c c' cap e k sl p tied =
      let r = puts_split puts (put_if (wakes s t v l rs) (other v l) (lab rs (other v l))) (scan_puts s t v ls (moved v l rs)) c c' p in
      scan_tied n s t v ls (moved v l rs) r.0 c' cap (length_sent v (other v l) (amount v l rs) rs ∙ e) k sl.1 r.2
      (push_tied n s t v l rs c r.0 cap e k sl.0 r.1 tied)

  pub discharge_tied : (n s t : ℕ) (ms ls : List Arc) (rs : List Row) (v : ℕ) (c c₁ c' : C) → n ≤ 252 → Holds n s t ms ls rs → Tied has s t rs c →
      takes c (Some v) c₁ → PutAll puts c₁ (discharge_puts n s t v ls rs) c' → (active s t rs v ≡ true) × Tied has s t (discharged_rows n v ls rs) c'
  discharge_tied n s t ms ls rs v c c₁ c' cap h tied take p =
      let tk = like.take c (Some v) c₁ take in
      let on : active s t rs v ≡ true = sym (tied v) ∙ tk.0 in
      let st = h.standing in
      let w = active_true n s t rs v st.size on in
      let rs₁ = scan_rows v ls rs in
      let r = puts_split puts (scan_puts s t v ls rs) (put_if (unspent v ls rs) v (lab (discharged_rows n v ls rs) v)) c₁ c' p in
      let off = scan_tied n s t v ls rs c₁ r.0 cap st.size w.inside st.lines r.1
      (record { gone = tk.1; rest = λ u q. tk.2 u q ∙ tied u }) in
      let q = put_made (unspent v ls rs) v (lab (discharged_rows n v ls rs) v) r.0 c' r.2 in
      let same : (u : ℕ) → active s t rs₁ u ≡ active s t (discharged_rows n v ls rs) u = λ u. active_same s t rs₁ (discharged_rows n v ls rs) u (sym (exc_discharged n v ls rs u)) in
      let at : has c' v ≡ active s t rs₁ v = ⊎_elim
      (λ (y : unspent v ls rs ≡ true).
      q.made y (omega (arith, w.inside)) ∙ sym (true_active n s t rs₁ v (record { inside = w.inside; no_start = w.no_start; no_goal = w.no_goal; some = ltb-true 0 (up (exc rs₁ v)) y })))
      (λ (y : unspent v ls rs ≡ false).
      q.none y ∙ off.gone ∙ sym (idle s t rs₁ v (omega (arith, ltb-false 0 (up (exc rs₁ v)) y))))
      (cases_Bool (unspent v ls rs)) in (
        on,
        λ u. ⊎_elim
            (λ (y : u ≡ v). rw y (at ∙ same v))
            (λ (y : u ≡ v → ⊥). q.rest u y ∙ off.rest u y ∙ same u)
            (cases_eq u v),
      )

  -- the chain without its counts
  chain : (n s t : ℕ) (ms : List Arc) (vs : List ℕ) (st st' : State) (c c' : C) → n ≤ 252 → Holds n s t ms st.arcs st.rows → Tied has s t st.rows c →
      Discharges puts takes n s t vs st c st' c' → Run n s t vs st × Tied has s t st'.rows c'
  chain n s t ms [] st st' c c' cap h tied d = (tt, rw (d.0, d.1) tied)
  chain n s t ms (v ∷ vs) st st' c c' cap h tied d =
      let x = discharge_tied n s t ms st.arcs st.rows v c d.0 d.1 cap h tied d.2 d.3 in
      let w = active_true n s t st.rows v h.standing.size x.0 in
      let r = chain n s t ms vs (discharged n v st) st' d.1 c' cap (kept n s t ms st.arcs st.rows v h w).holds x.1 d.4 in
      ((x.0, r.0), r.1)

  -- the puts of the beginning, below k
  begin_tied : (s t k : ℕ) (rs : List Row) (c c' : C) → k ≤ 252 → Empty (has c) → PutAll puts c (begin_puts k s t rs) c' →
      (u : ℕ) → (u < k → has c' u ≡ active s t rs u) × (k ≤ u → has c' u ≡ false)
  begin_tied s t zero rs c c' cap none p u = ((λ q. absurd (omega arith)), (λ q. ap (λ x. has x u) p ∙ none u))
  begin_tied s t (suc k) rs c c' cap none p u =
      let r = puts_split puts (begin_puts k s t rs) (put_if (active s t rs k) k (lab rs k)) c c' p in
      let i = begin_tied s t k rs c r.0 (omega arith) none r.1 in
      let q = put_made (active s t rs k) k (lab rs k) r.0 c' r.2 in
      let at : has c' k ≡ active s t rs k = ⊎_elim
      (λ (y : active s t rs k ≡ true). q.made y (omega arith) ∙ sym y)
      (λ (y : active s t rs k ≡ false). q.none y ∙ (i k).1 (omega arith) ∙ sym y)
      (cases_Bool (active s t rs k)) in (
        (λ z. ⊎_elim (λ (y : u ≡ k). rw y at) (λ (y : u ≡ k → ⊥). q.rest u y ∙ (i u).0 (omega arith)) (cases_eq u k)),
        (λ z. q.rest u (omega arith) ∙ (i u).1 (omega arith)),
      )

module _ {C : Type 0} (has : C → ℕ → Bool) (puts : C → ℕ → ℕ → C → Type 0) (takes : C → Option ℕ → C → Type 0) where
  pub stays_tied : StaysTied has puts takes
  stays_tied like n s t ms vs st st' c c' cap h tied d =
      let r = chain has puts takes like n s t ms vs st st' c c' cap h tied d in
      let e = runs_end n s t ms st vs h r.0 in
      let same = discharges_ran puts takes n s t vs st st' c c' d in
      record { state = same; run = r.0; holds = rw same e.0; short = e.1; tied = r.1 }

  pub begins_tied : BeginsTied has puts takes
  begins_tied like n s t rs c c' cap e none p u =
      let b = begin_tied has puts takes like s t n rs c c' cap none p u in
      ⊎_elim
      (λ (k : u < n). b.0 k)
      (λ (k : n ≤ u). b.1 k ∙ sym (idle s t rs u (ap up (exc_past rs u (omega arith)))))
      (cases_lt u n)

pub set_ties : SetTies
set_ties = record {
  like = record { put = λ S v h R p. p; take = λ S r R p. p };
  stays = stays_tied (λ S. S) (λ S v h R. Added S v R) Taken;
  begins = begins_tied (λ S. S) (λ S v h R. Added S v R) Taken;
}
