-- What a push wakes, and the put that follows.
use Rattle.std.proofs.Common.{◌≡◌, ℕ, Bool, true, false, cond, not, List, Some, None, refl, ap, arith}
use Rattle.std.proofs.lemmas.Bool.{and_from, and_left, and_right, not_from_true, not_from_false}
use Rattle.plant.specs.Held.{Arc, other}
use Rattle.stage.specs.declared.Row.{Row}
use Rattle.stage.specs.Model.{active, moved, put_if, wakes}
use Rattle.stage.specs.Runs.{PutAll}
use Rattle.preflow.specs.Choosers.{Puts}
use Rattle.preflow.specs.Stages.{woken}

module _ (s t v : ℕ) (l : Arc) (rs rs' : List Row) (w : ℕ) (er : rs' ≡ moved v l rs) (ew : w ≡ other v l) where
  wakes_yes : active s t rs' w ≡ true → active s t rs w ≡ false → wakes s t v l rs ≡ true
  unfolding wakes
  wakes_yes on off =
      and_from (active s t (moved v l rs) (other v l)) (not (active s t rs (other v l)))
      (rw (er, ew) at on) (not_from_false (active s t rs (other v l)) (rw ew at off))

  wakes_old : active s t rs w ≡ true → wakes s t v l rs ≡ false
  unfolding wakes
  wakes_old on = and_right (active s t (moved v l rs) (other v l)) (not (active s t rs (other v l))) (not_from_true (active s t rs (other v l)) (rw ew at on))

  wakes_never : active s t rs' w ≡ false → wakes s t v l rs ≡ false
  unfolding wakes
  wakes_never off = and_left (active s t (moved v l rs) (other v l)) (not (active s t rs (other v l))) (rw (er, ew) at off)

  pub woken_yes : active s t rs' w ≡ true → active s t rs w ≡ false → Some w ≡ woken s t v l rs
  woken_yes on off = rw (wakes_yes on off) (ap Some ew)

  pub woken_old : active s t rs w ≡ true → None ≡ woken s t v l rs
  woken_old on = rw (wakes_old on) refl

  pub woken_never : active s t rs' w ≡ false → None ≡ woken s t v l rs
  woken_never off = rw (wakes_never off) refl

-- what an answer tells
pub told_some : (b : Bool) (u w : ℕ) → Some w ≡ cond b (Some u) None → (b ≡ true) × (w ≡ u)
told_some true u w e = (refl, cc)
told_some false u w e = let z : ◌≡◌ {A = ℕ} 0 1 = cc in absurd (omega arith)

pub told_none : (b : Bool) (u : ℕ) → None ≡ cond b (Some u) None → b ≡ false
told_none true u e = let z : ◌≡◌ {A = ℕ} 0 1 = cc in absurd (omega arith)
told_none false u e = refl

module _ {C : Type 0} (has : C → ℕ → Bool) (puts : C → ℕ → ℕ → C → Type 0) where
  -- a put that is due was made, or was not due
  pub put_yes : (b : Bool) (u h w k : ℕ) (c c' : C) → b ≡ true → w ≡ u → k ≡ h → Puts has puts c w k c' → PutAll (Puts has puts) c (put_if b u h) c'
  put_yes b u h w k c c' e ew ek p = rw e (c', (rw (ew, ek) at p), refl)

  pub put_no : (b : Bool) (u h : ℕ) (c : C) → b ≡ false → PutAll (Puts has puts) c (put_if b u h) c
  put_no b u h c e = rw e refl
