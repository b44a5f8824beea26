-- What the test of an active junction says.
use Rattle.std.proofs.Common.{◌≡◌, ℕ, ◌<◌, ◌≤◌, true, false, not, ◌&&◌, eqb, ltb, ◌⊎◌, List, length, pos, ap, ⊎_elim, arith}
use borrow.Author.Differences.{up}
use Rattle.std.proofs.lemmas.List.{get_or_past}
use Rattle.std.proofs.lemmas.Bool.{cases_lt, eqb-false, ltb-true, lt-ltb, le-ltb, eq-eqb, ne_eqb, and_parts, and_from, and_left, and_right, not-true, not_from_true, not_from_false}
use Rattle.stage.specs.declared.Row.{Row}
use Rattle.stage.specs.Model.{row0, exc, active}
use Rattle.stage.specs.States.{Active}

-- no excess stands where there is no row
pub exc_past : (rs : List Row) (u : ℕ) → length rs ≤ u → exc rs u ≡ pos 0
exc_past rs u h = ap (λ (r : Row). r.excess) (get_or_past rs u row0 h)

pub active_true : (n s t : ℕ) (rs : List Row) (v : ℕ) → length rs ≡ n → active s t rs v ≡ true → Active n s t rs v
unfolding active
active_true n s t rs v e h =
    let a = and_parts (ltb 0 (up (exc rs v))) (not (eqb v s) && not (eqb v t)) h in
    let b = and_parts (not (eqb v s)) (not (eqb v t)) a.1 in
    let z : 0 < up (exc rs v) = ltb-true 0 (up (exc rs v)) a.0 in
    record {
      inside = ⊎_elim (λ (q : v < length rs). omega arith) (λ (q : length rs ≤ v). absurd (omega (arith, ap up (exc_past rs v q)))) (cases_lt v (length rs));
      no_start = eqb-false v s (not-true (eqb v s) b.0);
      no_goal = eqb-false v t (not-true (eqb v t) b.1);
      some = z;
    }

pub true_active : (n s t : ℕ) (rs : List Row) (v : ℕ) → Active n s t rs v → active s t rs v ≡ true
unfolding active
true_active n s t rs v a =
    and_from (ltb 0 (up (exc rs v))) (not (eqb v s) && not (eqb v t)) (lt-ltb 0 (up (exc rs v)) a.some)
    (and_from (not (eqb v s)) (not (eqb v t)) (not_from_false (eqb v s) (ne_eqb v s a.no_start)) (not_from_false (eqb v t) (ne_eqb v t a.no_goal)))

-- where there is no excess nothing is active
pub idle : (s t : ℕ) (rs : List Row) (v : ℕ) → up (exc rs v) ≡ 0 → active s t rs v ≡ false
unfolding active
idle s t rs v e = and_left (ltb 0 (up (exc rs v))) (not (eqb v s) && not (eqb v t)) (le-ltb 0 (up (exc rs v)) (omega arith))

-- nor at the start and the goal
pub off_ends : (s t : ℕ) (rs : List Row) (v : ℕ) → (v ≡ s) ⊎ (v ≡ t) → active s t rs v ≡ false
unfolding active
off_ends s t rs v e =
    and_right (ltb 0 (up (exc rs v))) (not (eqb v s) && not (eqb v t))
    (⊎_elim
    (λ (q : v ≡ s). and_left (not (eqb v s)) (not (eqb v t)) (not_from_true (eqb v s) (eq-eqb v s q)))
    (λ (q : v ≡ t). and_right (not (eqb v s)) (not (eqb v t)) (not_from_true (eqb v t) (eq-eqb v t q)))
    e)

-- the test depends on the excess alone
pub active_same : (s t : ℕ) (rs rs' : List Row) (u : ℕ) → exc rs u ≡ exc rs' u → active s t rs u ≡ active s t rs' u
unfolding active
active_same s t rs rs' u e = rw e
