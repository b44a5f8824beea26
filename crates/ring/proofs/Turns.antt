-- Places that are read from `head` on, and round past the end.
use Rattle.std.proofs.Common.{◌≡◌, ℕ, zero, suc, ◌+◌, ◌-◌, ◌<◌, ◌≤◌, List, [], ◌∷◌, ◌++◌, length, get_or, take, drop, set, sym, ap, ◌∙◌, sub-one, arith}
use lib.Seq.{take-set-lt}
use Rattle.ring.specs.declared.queue.Queue.{Queue}
use Rattle.ring.specs.Held.{held, turned, At, items, room}
use Rattle.std.proofs.lemmas.List.{append-nil, append_assoc, length-append, length-take-le, length-drop, take-append-le, take-set-le, drop-set-lt, drop-set-add, set-append_left, set-append_right, get_or_append_left, get_or-append_right, get_or-drop, get_or-take, take_more, take_more_set, drop_more, take_all, drop_all}

pub length_turned : {A : Type 0} (p : List A) (h : ℕ) → h ≤ length p → length (turned p h) ≡ length p
unfolding turned
length_turned p h l = rw (length-append, length-drop, length-take-le) (omega arith)

pub length_held : {A : Type 0} (p : List A) (h n : ℕ) → h ≤ length p → n ≤ length p → length (held p h n) ≡ n
unfolding held
length_held p h n l m = length-take-le n (turned p h) (rw (length_turned p h l) m)

-- a queue holds as many items as it counts, and no more than it has room for
pub items_counted : {A : Type 0} (q : Queue A) → length (items q) ≡ q.len
items_counted q = length_held q.places.now q.head q.len q.sound.0 q.sound.1

pub items_fit : {A : Type 0} (q : Queue A) → length (items q) ≤ room q
items_fit q = omega (arith, items_counted q, q.sound.1)

-- the end stands for the beginning
turned_end : {A : Type 0} (p : List A) (h : ℕ) → h ≡ length p → turned p h ≡ turned p 0
unfolding turned
turned_end p h e = rw (drop_all h p (omega arith), take_all h p (omega arith)) (sym (append-nil p))

-- the place of an item that does not lie past the end
pub at_before : {A : Type 0} (p : List A) (h i : ℕ) → i < length p - h → At p h i (h + i)
unfolding turned
at_before p h i l = record {
  inside = omega arith;
  reads = λ d. rw (get_or_append_left (drop h p) (take h p) d i (rw length-drop l)) (sym (get_or-drop h p i d));
  writes = λ x. rw (drop-set-add, take-set-le h p (h + i) x (omega arith), set-append_left (drop h p) (take h p) i x (rw length-drop l));
}

-- and of one that does
pub at_after : {A : Type 0} (p : List A) (h i : ℕ) → h ≤ length p → length p - h ≤ i → i < length p → At p h i (i - (length p - h))
unfolding turned
at_after p h i l m k = record {
  inside = omega arith;
  reads = λ d. sym (get_or-append_right (drop h p) (take h p) (length p - h) i d (length-drop h p) m ∙ get_or-take h p (i - (length p - h)) d (omega arith));
  writes = λ x. rw (
    drop-set-lt h p (i - (length p - h)) x (omega arith),
    take-set-lt h p (i - (length p - h)) x (omega arith),
    set-append_right (drop h p) (take h p) (length p - h) i x (length-drop h p) m,
  );
}

-- one item more
pub held_put : {A : Type 0} (p : List A) (h n at : ℕ) (x : A) → h ≤ length p → n < length p → At p h n at
    → held (set p at x) h (n + 1) ≡ held p h n ++ (x ∷ [])
unfolding held
held_put p h n at x l m a = rw (a.writes x) (take_more_set (turned p h) n x (rw (length_turned p h l) m))

-- the item number i of those held
pub held_nth : {A : Type 0} (p : List A) (h n i at : ℕ) (d : A) → i < n → At p h i at → get_or p at d ≡ get_or (held p h n) i d
unfolding held
held_nth p h n i at d l a = a.reads d ∙ sym (get_or-take n (turned p h) i d l)

take_cons : {A : Type 0} (n : ℕ) (x : A) (xs : List A) → 0 < n → take n (x ∷ xs) ≡ x ∷ take (n - 1) xs
take_cons zero x xs k = absurd (omega arith)
take_cons (suc n) x xs k = rw (sub-one)

-- one item less
held_take : {A : Type 0} (p : List A) (h n : ℕ) (d : A) → h < length p → n ≤ length p → 0 < n
    → held p h n ≡ get_or p h d ∷ held p (h + 1) (n - 1)
unfolding held turned
held_take p h n d l m k =
    let fits : n - 1 ≤ length (drop (h + 1) p ++ take h p) = rw (length-append, length-drop, length-take-le h p (omega arith)) (omega arith) in
    let more : drop (h + 1) p ++ take (h + 1) p ≡ (drop (h + 1) p ++ take h p) ++ (get_or p h d ∷ []) =
    rw (take_more p h d l) (sym (append_assoc (drop (h + 1) p) (take h p) (get_or p h d ∷ []))) in
    rw (drop_more p h d l, more, take-append-le (n - 1) (drop (h + 1) p ++ take h p) (get_or p h d ∷ []) fits)
    (take_cons n (get_or p h d) (drop (h + 1) p ++ take h p) k)

held_turned : {A : Type 0} (p : List A) (h n : ℕ) → h ≡ length p → held p h n ≡ held p 0 n
unfolding held
held_turned p h n e = ap (take n) (turned_end p h e)

pub held_none : {A : Type 0} (p : List A) (h n : ℕ) → n ≡ 0 → held p h n ≡ []
unfolding held
held_none p h n e = rw e

pub take_here : {A : Type 0} (p : List A) (h at n : ℕ) (d : A) → at ≡ h → at < length p → n ≤ length p → 0 < n
    → held p h n ≡ get_or p at d ∷ held p (at + 1) (n - 1)
take_here p h at n d e l m k = rw (← e) (held_take p at n d l m k)

pub take_first : {A : Type 0} (p : List A) (h at n : ℕ) (d : A) → h ≡ length p → at ≡ 0 → n ≤ length p → 0 < n
    → held p h n ≡ get_or p at d ∷ held p (at + 1) (n - 1)
take_first p h at n d q e m k = held_turned p h n q ∙ take_here p 0 at n d e (omega arith) m k
