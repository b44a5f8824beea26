-- What is left to go over in a queue.
use Rattle.std.specs.Prelude.{List, drop}
use Rattle.ring.specs.declared.queue.Iter.{Iter}
use Rattle.ring.specs.Held.{items}

-- the items that were not given yet
abbrev pub rest : {A : Type 0} → Iter A → List A
rest i = drop i.at (items i.queue.now)
