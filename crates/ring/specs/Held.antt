use Rattle.std.specs.Prelude.{◌≡◌, ℕ, ◌<◌, List, ◌++◌, length, take, drop, slice_index_or, slice_set}
use Rattle.ring.specs.declared.queue.Queue.{Queue}

-- the places read from `head` on, and round past the end
unfoldable pub turned : {A : Type 0} → List A → ℕ → List A
turned places head = drop head places ++ take head places

-- the first `len` of them
unfoldable pub held : {A : Type 0} → List A → ℕ → ℕ → List A
held places head len = take len (turned places head)

-- the items that a queue holds, first to last
abbrev pub items : {A : Type 0} → Queue A → List A
items q = held q.places.now q.head q.len

-- how many places it has
abbrev pub room : {A : Type 0} → Queue A → ℕ
room q = length q.places.now

-- the item number `i`, read from `head` on, stands at the place `at`
pub record At {A : Type 0} (places : List A) (head i at : ℕ) : Type 0 where
  pub inside : at < length places
  pub reads : (d : A) → slice_index_or places at d ≡ slice_index_or (turned places head) i d
  pub writes : (x : A) → turned (slice_set places at x) head ≡ slice_set (turned places head) i x

-- the same of a queue
abbrev pub Stands : {A : Type 0} → Queue A → ℕ → ℕ → Type 0
Stands q i at = At q.places.now q.head i at
