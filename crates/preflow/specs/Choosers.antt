-- The calls of a chooser together with what they do to its set.
use Rattle.std.specs.Prelude.{ℕ, Bool, List, Option}
use Rattle.stage.specs.Sets.{Added, Empty, Taken}
use Rattle.stage.specs.Runs.{PutAll}

module _ {C : Type 0} (has : C → ℕ → Bool) where
  -- a put of junction v with label h
  abbrev pub Puts : (C → ℕ → ℕ → C → Type 0) → C → ℕ → ℕ → C → Type 0
  Puts puts c v h c' = puts c v h c' × Added (has c) v (has c')

  -- a taking that answers r
  abbrev pub Takes : (C → Option ℕ → C → Type 0) → C → Option ℕ → C → Type 0
  Takes takes c r c' = takes c r c' × Taken (has c) r (has c')

  -- a clearing, and then the puts of a list
  abbrev pub Filled : (C → C → Type 0) → (C → ℕ → ℕ → C → Type 0) → C → List (ℕ × ℕ) → C → Type 0
  Filled clears puts c ps c' = (c₁ : C) × clears c c₁ × Empty (has c₁) × PutAll (Puts puts) c₁ ps c'
