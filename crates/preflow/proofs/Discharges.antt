-- The end of a discharge: with excess left, or without.
use Rattle.std.proofs.Common.{◌≡◌, ℕ, ◌+◌, ◌*◌, ◌<◌, ◌≤◌, Bool, true, false, List, length, sym, refl, ap, ◌∙◌}
use borrow.Author.Differences.{up}
use Rattle.std.proofs.lemmas.Bool.{lt-ltb, le-ltb}
use Rattle.plant.specs.Held.{Arc}
use Rattle.stage.specs.declared.Row.{Row}
use Rattle.stage.specs.Model.{discharge_puts, discharged_rows, exc, lab, labelled, lowest, put_if, scan_arcs, scan_puts, scan_rows, unspent}
use Rattle.stage.specs.Runs.{PutAll}
use Rattle.stage.proofs.Chains.{puts_then}
use Rattle.stage.proofs.Keeps.{discharge_done, discharge_left}
use Rattle.stage.proofs.Rows.{lab_labelled}
use Rattle.preflow.specs.Choosers.{Puts}
use Rattle.preflow.proofs.Wakes.{put_no, put_yes}

module _ {C : Type 0} (has : C → ℕ → Bool) (puts : C → ℕ → ℕ → C → Type 0) (n s t v : ℕ) (ls : List Arc) (rs : List Row) where
  pub record Discharge (c : C) (b : Bool) (rs' : List Row) (c' : C) : Type 0 where
    pub rows_are : rs' ≡ discharged_rows n v ls rs
    pub answer : b ≡ unspent v ls rs
    pub put : PutAll (Puts has puts) c (discharge_puts n s t v ls rs) c'

  -- the put of v itself, if excess is left
  last_put : (c c₁ c' : C) → PutAll (Puts has puts) c (scan_puts s t v ls rs) c₁ → PutAll (Puts has puts) c₁ (put_if (unspent v ls rs) v (lab (discharged_rows n v ls rs) v)) c' →
      PutAll (Puts has puts) c (discharge_puts n s t v ls rs) c'
  last_put c c₁ c' p q = puts_then (Puts has puts) (scan_puts s t v ls rs) (put_if (unspent v ls rs) v (lab (discharged_rows n v ls rs) v)) c c₁ c' p q

  pub spent : (c c₁ : C) (rs₁ : List Row) → rs₁ ≡ scan_rows v ls rs → up (exc rs₁ v) ≤ 0 → PutAll (Puts has puts) c (scan_puts s t v ls rs) c₁ → Discharge c false rs₁ c₁
  spent c c₁ rs₁ e z p =
      let z' : up (exc (scan_rows v ls rs) v) ≤ 0 = rw e at z in
      let b : unspent v ls rs ≡ false = le-ltb 0 (up (exc (scan_rows v ls rs) v)) z' in
      record {
        rows_are = e ∙ sym (discharge_done n v ls rs z');
        answer = sym b;
        put = last_put c c₁ c₁ p (put_no has puts (unspent v ls rs) v (lab (discharged_rows n v ls rs) v) c₁ b);
      }

  pub left : (c c₁ c' : C) (ls₁ : List Arc) (rs₁ rs₂ : List Row) (h : ℕ) → ls₁ ≡ scan_arcs v ls rs → rs₁ ≡ scan_rows v ls rs → v < length rs₁ → 0 < up (exc rs₁ v) →
      h ≡ lowest v ls₁ rs₁ (2 * n) + 1 → rs₂ ≡ labelled v h rs₁ → PutAll (Puts has puts) c (scan_puts s t v ls rs) c₁ → Puts has puts c₁ v h c' → Discharge c true rs₂ c'
  left c c₁ c' ls₁ rs₁ rs₂ h el er k z eh e p q =
      let z' : 0 < up (exc (scan_rows v ls rs) v) = rw er at z in
      let eh' : h ≡ lowest v (scan_arcs v ls rs) (scan_rows v ls rs) (2 * n) + 1 = rw (el, er) at eh in
      let b : unspent v ls rs ≡ true = lt-ltb 0 (up (exc (scan_rows v ls rs) v)) z' in
      let e₂ : rs₂ ≡ discharged_rows n v ls rs = e ∙ ap (labelled v h) er ∙ ap (λ x. labelled v x (scan_rows v ls rs)) eh' ∙ sym (discharge_left n v ls rs z') in
      let g : lab (discharged_rows n v ls rs) v ≡ h = ap (λ (r : List Row). lab r v) (sym e₂ ∙ e) ∙ lab_labelled rs₁ v h k in
      record {
        rows_are = e₂;
        answer = sym b;
        put = last_put c c₁ c' p (put_yes has puts (unspent v ls rs) v (lab (discharged_rows n v ls rs) v) v h c₁ c' b refl (sym g) q);
      }
