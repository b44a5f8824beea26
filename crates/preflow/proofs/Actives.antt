-- What is found where any junction is looked for that is active.
use Rattle.std.proofs.Common.{◌≡◌, ℕ, ◌<◌, ◌≤◌, Bool, true, false, List, length, get_or, ap, subst, ⊎_elim, arith}
use borrow.Author.Differences.{up}
use Rattle.std.specs.Bool.{MatchBool}
use Rattle.std.specs.List.{AllWithin, HoldsAt, range_with_len}
use Rattle.std.proofs.lemmas.Bool.{cases_lt}
use Rattle.std.proofs.lemmas.List.FromFn.{get_or-range_with_len, length-range_with_len}
use Rattle.stage.specs.declared.Row.{Row}
use Rattle.stage.specs.Model.{active}
use Rattle.stage.proofs.Actives.{exc_past, idle}
use Rattle.preflow.specs.Stages.{AnyActive}

module _ (s t n : ℕ) (rs : List Row) where
  -- the answer of a search over all junctions
  pub any_told : (r : Bool) → length rs ≡ n →
      MatchBool r ((k : ℕ) × (k < length (range_with_len 0 n)) × HoldsAt (λ v. active s t rs v ≡ true) (range_with_len 0 n) k) (AllWithin (λ v. active s t rs v ≡ false) (range_with_len 0 n) 0 (length (range_with_len 0 n))) →
      AnyActive s t rs r
  any_told true size m = (get_or (range_with_len 0 n) m.0 0, m.2 0)
  any_told false size m = λ u.
      ⊎_elim
      (λ (i : u < n).
      let e : get_or (range_with_len 0 n) u 0 ≡ u = omega (arith, get_or-range_with_len 0 n u 0 i) in
      subst (λ v. active s t rs v ≡ false) e (m u 0 (omega arith) (omega (arith, length-range_with_len 0 n))))
      (λ (i : n ≤ u). idle s t rs u (ap up (exc_past rs u (omega (arith, size)))))
      (cases_lt u n)
