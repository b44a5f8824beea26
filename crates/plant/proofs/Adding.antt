-- Sums over lines as loops add them up.
use Rattle.std.proofs.Common.{◌≡◌, ℕ, ◌+◌, ◌<◌, ◌≤◌, List, [], ◌∷◌, length, get_or, ℤ, pos, ◌+ℤ◌, refl, ap, ◌∙◌, arith, sum_by}
use Rattle.plant.specs.declared.aim.Aim.{Aim}
use Rattle.plant.specs.declared.held.HeldLine.{HeldLine}
use Rattle.plant.specs.declared.line.Line.{Line}
use Rattle.plant.specs.Held.{arc, arcs, lines_of, flows_of}
use Rattle.plant.specs.Plants.{Junctions, bound_over, list_total, surplus, summed, high_of, every}
use Rattle.plant.specs.Shares.{Adds, Small, Tells, added, share, at_junction, at_header}
use Rattle.std.proofs.lemmas.List.{drop_more, drop_all}
use Rattle.std.proofs.lemmas.List.Sums.{sum_by-cons}
use Rattle.std.proofs.lemmas.Int.{ints}

module _ {X : Type 0} (gives : X → ℤ → Type 0) (xs : List X) where
  -- before the first
  pub adds_none : Adds gives xs 0 (pos 0)
  adds_none = record { left = λ g t. omega (arith, ints); above = omega (arith, ints); below = omega (arith, ints) }

  -- one more
  pub adds_more : (i : ℕ) (d : X) (sum z next : ℤ) → i < length xs → Adds gives xs i sum → gives (get_or xs i d) z → Small z → next ≡ sum +ℤ z → Adds gives xs (i + 1) next
  adds_more i d sum z next h a e s n =
      record { left = λ g t. omega (arith, ints, a.left g t, t _ _ e, ap (added g) (drop_more xs i d h), n); above = omega (arith, ints, a.above, s.0, n); below = omega (arith, ints, a.below, s.1, n) }

  -- after the last
  pub adds_all : (i : ℕ) (sum : ℤ) (g : X → ℤ) → length xs ≤ i → Adds gives xs i sum → Tells gives g → sum ≡ added g xs
  adds_all i sum g h a t = omega (arith, ints, a.left g t, ap (added g) (drop_all i xs h))

-- the bound, the surplus and the total, line by line
pub bound_added : (aim : Aim) (S : Junctions) (ls : List Line) → added (share aim S) ls ≡ bound_over aim ls S
bound_added aim S [] = refl
bound_added aim S (l ∷ ls) = omega (arith, ints, bound_added aim S ls)

pub surplus_added : (v : ℕ) (ls : List Line) → added (at_junction v) ls ≡ surplus ls v
surplus_added v [] = refl
surplus_added v (l ∷ ls) = omega (arith, ints, surplus_added v ls)

abbrev pub held_share : HeldLine → ℤ
held_share h = at_header (arc h)

pub total_added : (hs : List HeldLine) → added held_share hs ≡ list_total (lines_of (arcs hs)) (flows_of (arcs hs))
total_added [] = refl
total_added (h ∷ hs) = omega (arith, ints, total_added hs)

pub highs_added : (ls : List Line) → sum_by high_of ls ≡ summed every high_of ls
highs_added [] = refl
highs_added (l ∷ ls) = sum_by-cons high_of l ls ∙ ap (λ (n : ℕ). high_of l + n) (highs_added ls)
