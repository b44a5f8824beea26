-- Runs that grow at their end.
use Rattle.std.proofs.Common.{◌≡◌, ℕ, ◌+◌, ◌≤◌, Bool, true, false, cond, [], ◌∷◌, ◌++◌, Some, Option, sym, refl, ◌∙◌, subst, arith, length-append}
use mir.Val.{bool_byte}
use Rattle.stage.specs.Model.{State}
use Rattle.stage.specs.Runs.{Discharges}
use Rattle.stage.proofs.Chains.{discharges_more, discharges_ran, relabels_more}
use Rattle.preflow.specs.Choosers.{Puts, Takes}
use Rattle.preflow.specs.Stages.{Stepped}
use Rattle.preflow.specs.Running.{Ran}

byte_is : (b : Bool) → bool_byte b ≡ cond b 1 0
byte_is true = refl
byte_is false = refl

pub byte_le : (b : Bool) → bool_byte b ≤ 1
byte_le true = omega arith
byte_le false = omega arith

module _ {C : Type 0} (has : C → ℕ → Bool) (puts : C → ℕ → ℕ → C → Type 0) (takes : C → Option ℕ → C → Type 0) (n s t : ℕ) where
  -- nothing done
  pub ran_none : (st : State) (c : C) → Ran has puts takes n s t st c 0 0 st c
  ran_none st c = record { taken = []; count = refl; relabelled = refl; chain = (refl, refl) }

  -- one discharge more
  pub ran_more : (st st₁ st₂ : State) (c c₁ c₂ : C) (m r d : ℕ) (b : Bool) → d ≡ bool_byte b → Ran has puts takes n s t st c m r st₁ c₁ → Stepped has puts takes n s t st₁ c₁ (Some b) st₂ c₂ →
      Ran has puts takes n s t st c (m + 1) (r + d) st₂ c₂
  ran_more st st₁ st₂ c c₁ c₂ m r d b ed ran step =
      let v = step.0 in
      let vs = ran.taken in
      let state = discharges_ran (Puts has puts) (Takes has takes) n s t vs st st₁ c c₁ ran.chain in
      let more = discharges_more (Puts has puts) (Takes has takes) n s t vs st st₁ c c₁ step.1 c₂ v ran.chain step.2 step.6 in
      record {
        taken = vs ++ v ∷ [];
        count = omega (arith, length-append vs (v ∷ []), ran.count);
        relabelled = relabels_more n vs v st st₁ state ∙ sums step.4 ran.relabelled;
        chain = subst (λ (x : State). Discharges (Puts has puts) (Takes has takes) n s t (vs ++ v ∷ []) st c x c₂) (sym step.5) more;
      }
    where
      sums : {u : Bool} {x : ℕ} → b ≡ u → x ≡ r → x + cond u 1 0 ≡ r + d
      sums {u} {x} e f = rw (sym e) (omega (arith, byte_is b, f, ed))
