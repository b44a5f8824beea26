-- An iterator that gives the list `all`: at a turn of a loop, and at its end.
use Rattle.std.proofs.Common.{◌≡◌, ℕ, ◌+◌, ◌≤◌, List, ◌∷◌, ◌++◌, length, drop, Some, None, Option, sym, ap, ◌∙◌, arith, length-append, take-append-drop}
use Rattle.std.specs.Iterator.{Yields}
use Rattle.std.specs.List.{flat_map}
use Rattle.std.proofs.lemmas.Iterator.{YieldsList}
use Rattle.std.proofs.lemmas.Iterator.Consumers.{YieldsList-end, YieldsList-so_far, YieldsList-turn}
use Rattle.std.proofs.lemmas.List.{drop_more, map-id}
use Rattle.std.proofs.lemmas.Grind.{flat_map-append}

module _ {S A : Type 0} {steps : S → Option A → S → Type 0} {s : S} (all xs : List A) (t : S) (y : Yields steps s xs t) (r : Option A) (u : S) where
  -- the items so far, this one, and the rest
  pub at_turn : (x : A) → r ≡ Some x → steps t r u → YieldsList steps (λ z. z) s all → all ≡ xs ++ x ∷ drop (length xs + 1) all
  at_turn x is p e =
      let k = length xs in
      let here = YieldsList-turn e xs t y r u x is p in
      let so_far = sym (YieldsList-so_far e xs t y) ∙ map-id xs in
      let rest = drop_more all k x here.0 ∙ ap (λ z. z ∷ drop (k + 1) all) (sym here.1) in
      sym (take-append-drop k all) ∙ (λ i. so_far i ++ rest i)

  pub fits_turn : (x : A) → r ≡ Some x → steps t r u → YieldsList steps (λ z. z) s all → (f : A → List ℕ) → length (flat_map f xs) + length (f x) ≤ length (flat_map f all)
  fits_turn x is p e f =
      let rest = drop (length xs + 1) all in
      let whole = at_turn x is p e in
      omega (arith, ap (λ l. length (flat_map f l)) whole, ap length (flat_map-append f xs (x ∷ rest)), length-append (flat_map f xs) (flat_map f (x ∷ rest)), length-append (f x) (flat_map f rest))

  pub at_end : r ≡ None → steps t r u → YieldsList steps (λ z. z) s all → xs ≡ all
  at_end is p e = sym (map-id xs) ∙ (YieldsList-end e xs t y r u is p).0
