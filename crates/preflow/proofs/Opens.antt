-- The lines of each stage as the code makes them.
use Rattle.std.proofs.Common.{◌≡◌, ℕ, zero, suc, ◌+◌, ◌-◌, ◌*◌, ◌<◌, ◌≤◌, Bool, true, false, cond, not, ◌&&◌, eqb, ltb, List, [], ◌∷◌, ◌++◌, map, length, get_or, take, drop, set, ℤ, Some, None, Option, sym, refl, ap, ◌∙◌, add-one, arith}
use borrow.Author.Differences.{up, down}
use Rattle.std.specs.List.{AllByRecursion, list_all}
use Rattle.std.proofs.ByRecursion.{All-from_get_or}
use Rattle.std.proofs.lemmas.List.{append_assoc, append-nil, drop_more, get_or-map, length-map, length-append, length-take, length-take-le, map-append, take_all, take_more, take_more_set}
use Rattle.std.proofs.lemmas.Int.{ints}
use Rattle.plant.specs.declared.held.HeldLine.{HeldLine}
use Rattle.plant.specs.declared.line.Line.{Line}
use Rattle.plant.specs.Fine.{Fine}
use Rattle.plant.specs.Held.{Arc, arc, arcs, line_of, lines_of}
use Rattle.plant.specs.Plants.{ends, every, high_of, leaves, low_of, no_line, summed, surplus}
use Rattle.stage.specs.First.{added_line, back_line, empty_arc, filled, second_arcs, shifted, surplus_line, surplus_lines}
use Rattle.stage.proofs.Rows.{one_sided}
use Rattle.preflow.specs.Networks.{arc_if, line_for}
use Rattle.preflow.specs.Stages.{Light}

summed_append : (ks ls : List Line) → summed every high_of (ks ++ ls) ≡ summed every high_of ks + summed every high_of ls
summed_append [] ls = omega arith
summed_append (k ∷ ks) ls = omega (arith, summed_append ks ls)

lines_empty : (ls : List Line) → lines_of (map empty_arc ls) ≡ ls
lines_empty [] = refl
lines_empty (l ∷ ls) = ap (λ k. l ∷ k) (lines_empty ls)

-- whether each of the held lines is full
pub filled_listed : (n : ℕ) (hs : List HeldLine) → list_all (λ h. not (eqb h.line.from n && ltb h.flow (high_of h.line))) hs ≡ filled n (arcs hs)
filled_listed n [] = refl
filled_listed n (h ∷ hs) = ap (λ b. not (eqb h.line.from n && ltb h.flow (high_of h.line)) && b) (filled_listed n hs)

-- one held line more at place k
pub front_more : (hs : List HeldLine) (k : ℕ) (y : HeldLine) (as' : List Arc) (a : Arc) → k < length hs → arc y ≡ a → arcs (take k hs) ≡ as' → arcs (take (k + 1) (set hs k y)) ≡ as' ++ a ∷ []
front_more hs k y as' a i e h =
    rw (take_more_set hs k y i, map-append arc (take k hs) (y ∷ [])) (ap (λ b. b ++ arc y ∷ []) h ∙ ap (λ z. as' ++ z ∷ []) e)

-- one held line more at the end
pub pushed_more : (hs hs' : List HeldLine) (y : HeldLine) (as' bs : List Arc) (a : Arc) → hs' ≡ hs ++ y ∷ [] → arc y ≡ a → arcs hs ≡ as' ++ bs → arcs hs' ≡ as' ++ (bs ++ a ∷ [])
pushed_more hs hs' y as' bs a eh e h =
    ap arcs eh ∙ map-append arc hs (y ∷ []) ∙ ap (λ b. b ++ arc y ∷ []) h ∙ ap (λ z. (as' ++ bs) ++ z ∷ []) e ∙ append_assoc as' bs (a ∷ [])

-- the plant's lines in stage one, one more
pub shift_more : (hs hs' : List HeldLine) (ls : List Line) (k : ℕ) (x : Line) (y : HeldLine) (as' : List Arc) → k < length ls → arc y ≡ empty_arc (shifted (get_or ls k x)) → hs' ≡ hs ++ y ∷ [] →
    arcs hs ≡ as' ++ map empty_arc (map shifted (take k ls)) → arcs hs' ≡ as' ++ map empty_arc (map shifted (take (k + 1) ls))
shift_more hs hs' ls k x y as' j e eh h =
    let l = get_or ls k x in
    pushed_more hs hs' y as' (map empty_arc (map shifted (take k ls))) (empty_arc (shifted l)) eh e h
    ∙ ap (λ z. as' ++ z) (sym (rw (take_more ls k x j, map-append shifted (take k ls) (l ∷ []), map-append empty_arc (map shifted (take k ls)) (shifted l ∷ [])) refl))

pub shift_all : (hs : List HeldLine) (ls : List Line) (k : ℕ) (as' : List Arc) → length ls ≤ k → arcs hs ≡ as' ++ map empty_arc (map shifted (take k ls)) →
    arcs hs ≡ as' ++ map empty_arc (map shifted ls)
shift_all hs ls k as' e h = h ∙ ap (λ z. as' ++ map empty_arc (map shifted z)) (take_all k ls e)

-- how many are held
pub shift_count : (hs : List HeldLine) (ls : List Line) (k : ℕ) (as' : List Arc) → k ≤ length ls → arcs hs ≡ as' ++ map empty_arc (map shifted (take k ls)) → length hs ≡ length as' + k
shift_count hs ls k as' j h =
    let c = ap length h ∙ length-append as' (map empty_arc (map shifted (take k ls))) in
    let d = length-map (map shifted (take k ls)) empty_arc ∙ length-map (take k ls) shifted ∙ length-take-le k ls j in
    omega (arith, c, d, length-map hs arc)

-- a fine line of few junctions is one of 250
pub fine_here : (n : ℕ) (l : Line) → n ≤ 250 → Fine n l → Fine 250 l
fine_here n l h f = (omega (arith, f.0, h), omega (arith, f.1, h), f.2, f.3, f.4)

-- from no line on, as many lines as were shifted
pub shifted_count : (before after : List HeldLine) (ls : List Line) → before ≡ [] → arcs after ≡ arcs before ++ map empty_arc (map shifted ls) → length after ≡ length ls
shifted_count before after ls none h =
    let e : length (arcs after) ≡ length (map empty_arc (map shifted ls)) = ap length (h ∙ ap (λ (hs : List HeldLine). arcs hs ++ map empty_arc (map shifted ls)) none) in
    sym (length-map after arc) ∙ e ∙ length-map (map shifted ls) empty_arc ∙ length-map ls shifted

second_push : (ls : List Line) (as' : List Arc) (l : Line) (a : Arc) → length ls ≡ length as' →
    second_arcs (ls ++ l ∷ []) (as' ++ a ∷ []) ≡ second_arcs ls as' ++ record { line = l; flow = low_of l + a.flow } ∷ []
second_push [] [] l a e = refl
second_push [] (b ∷ as') l a e = absurd (omega arith)
second_push (k ∷ ls) [] l a e = absurd (omega arith)
second_push (k ∷ ls) (b ∷ as') l a e = ap (λ z. record { line = k; flow = low_of k + b.flow } ∷ z) (second_push ls as' l a (omega arith))

-- the plant's lines in stage two, one more; hs₀ is what was held before
pub settle_more : (hs₀ hs : List HeldLine) (ls : List Line) (k : ℕ) (x y : HeldLine) → k < length hs → k < length hs₀ → k < length ls → drop k hs ≡ drop k hs₀ →
    arc y ≡ record { line = get_or ls k no_line; flow = low_of (get_or ls k no_line) + (get_or hs k x).flow } →
    arcs (take k hs) ≡ second_arcs (take k ls) (arcs (take k hs₀)) →
    arcs (take (k + 1) (set hs k y)) ≡ second_arcs (take (k + 1) ls) (arcs (take (k + 1) hs₀))
settle_more hs₀ hs ls k x y i i₀ j d e h =
    let l = get_or ls k no_line in
    let q : get_or hs k x ≡ get_or hs₀ k x = same_at hs₀ hs k x i i₀ d in
    let n : length (take k ls) ≡ length (arcs (take k hs₀)) = rw (length-map (take k hs₀) arc, length-take k ls, length-take k hs₀) (omega arith) in
    front_more hs k y (second_arcs (take k ls) (arcs (take k hs₀))) (record { line = l; flow = low_of l + (get_or hs₀ k x).flow }) i
    (e ∙ ap (λ (z : HeldLine). record { line = l; flow = low_of l + z.flow }) q) h
    ∙ sym (rw (take_more ls k no_line j, take_more hs₀ k x i₀, map-append arc (take k hs₀) (get_or hs₀ k x ∷ [])) (second_push (take k ls) (arcs (take k hs₀)) l (arc (get_or hs₀ k x)) n))
  where
    same_at : (as' bs : List HeldLine) (k : ℕ) (x : HeldLine) → k < length bs → k < length as' → drop k bs ≡ drop k as' → get_or bs k x ≡ get_or as' k x
    same_at as' bs k x i j d =
        let e : get_or bs k x ∷ drop (k + 1) bs ≡ get_or as' k x ∷ drop (k + 1) as' = sym (drop_more bs k x i) ∙ d ∙ drop_more as' k x j in
        cc

pub settle_all : (hs₀ hs : List HeldLine) (ls : List Line) (k : ℕ) → length ls ≤ k → length hs ≡ length ls → length hs₀ ≡ length ls → arcs (take k hs) ≡ second_arcs (take k ls) (arcs (take k hs₀)) → arcs hs ≡ second_arcs ls (arcs hs₀)
settle_all hs₀ hs ls k e n n₀ h = rw (take_all k hs (omega arith), take_all k hs₀ (omega arith), take_all k ls e) at h

-- lines past those of the plant do not count
pub second_cut : (ls : List Line) (hs : List HeldLine) → second_arcs ls (arcs (take (length ls) hs)) ≡ second_arcs ls (arcs hs)
second_cut [] hs = refl
second_cut (l ∷ ls) [] = refl
second_cut (l ∷ ls) (h ∷ hs) = ap (λ z. record { line = l; flow = low_of l + h.flow } ∷ z) (second_cut ls hs)

-- where the rest is the same, so is what follows
pub drop_next : (as' bs : List HeldLine) (k : ℕ) (x : HeldLine) → k < length bs → k < length as' → drop k bs ≡ drop k as' → drop (k + 1) bs ≡ drop (k + 1) as'
drop_next as' bs k x i j d =
    let e : get_or bs k x ∷ drop (k + 1) bs ≡ get_or as' k x ∷ drop (k + 1) as' = sym (drop_more bs k x i) ∙ d ∙ drop_more as' k x j in
    cc

-- the flow found fits between low and high
pub settle_fits : (hs₀ hs : List HeldLine) (ls : List Line) (k : ℕ) (x : HeldLine) → k < length hs → k < length ls → length hs₀ ≡ length ls → drop k hs ≡ drop k hs₀ →
    lines_of (arcs hs₀) ≡ map shifted ls → (get_or hs k x).flow ≤ high_of (get_or ls k no_line) - low_of (get_or ls k no_line)
settle_fits hs₀ hs ls k x i j n d e =
    let i₀ : k < length hs₀ = omega arith in
    let q : get_or hs k x ∷ drop (k + 1) hs ≡ get_or hs₀ k x ∷ drop (k + 1) hs₀ = sym (drop_more hs k x i) ∙ d ∙ drop_more hs₀ k x i₀ in
    let z : get_or hs k x ≡ get_or hs₀ k x = cc in
    let n' : length (arcs hs₀) ≡ length ls = length-map hs₀ arc ∙ n in
    let a : get_or (lines_of (arcs hs₀)) k no_line ≡ (get_or hs₀ k x).line =
    get_or-map line_of (arcs hs₀) k (arc x) no_line (omega arith) ∙ ap line_of (get_or-map arc hs₀ k x (arc x) (omega arith)) in
    let b : get_or (map shifted ls) k no_line ≡ shifted (get_or ls k no_line) = get_or-map shifted ls k no_line no_line j in
    let f : (get_or hs₀ k x).line ≡ shifted (get_or ls k no_line) = sym a ∙ ap (λ (l : List Line). get_or l k no_line) e ∙ b in
    omega (arith, (get_or hs₀ k x).within.1, ap high_of f, ap (λ (h : HeldLine). h.flow) z)

-- as many lines are held as the plant has
pub settle_count : (hs : List HeldLine) (ls : List Line) → lines_of (arcs hs) ≡ map shifted ls → length hs ≡ length ls
settle_count hs ls e = sym (length-map hs arc) ∙ sym (length-map (arcs hs) line_of) ∙ ap length e ∙ length-map ls shifted

-- sums of limits of fine lines
fine_all : (n : ℕ) (ls : List Line) → ((k : ℕ) → k < length ls → Fine n (get_or ls k no_line)) → AllByRecursion (Fine n) ls
fine_all n ls f = All-from_get_or (Fine n) ls no_line f

sums_le : (n : ℕ) (p : Line → Bool) (g : Line → ℕ) (ls : List Line) → ((l : Line) → Fine n l → g l ≤ 1000000) → AllByRecursion (Fine n) ls → summed p g ls ≤ 1000000 * length ls
sums_le n p g [] f a = omega arith
sums_le n p g (l ∷ ls) f a = omega (arith, one (p l), sums_le n p g ls f a.1)
  where
    one : (b : Bool) → cond b (g l) 0 ≤ 1000000
    one true = f l a.0
    one false = omega arith

module _ (n : ℕ) (ls : List Line) (few : length ls ≤ 1000) (fine : (k : ℕ) → k < length ls → Fine n (get_or ls k no_line)) where
  pub highs_fit : summed every high_of ls ≤ 1000000000
  highs_fit = omega (arith, sums_le n every high_of ls (λ l f. f.4) (fine_all n ls fine))

  pub surplus_fits : (v : ℕ) → (up (surplus ls v) ≤ 1000000000) × (down (surplus ls v) ≤ 1000000000)
  surplus_fits v =
      let a = sums_le n (ends v) low_of ls (λ l f. omega (arith, f.3, f.4)) (fine_all n ls fine) in
      let b = sums_le n (leaves v) low_of ls (λ l f. omega (arith, f.3, f.4)) (fine_all n ls fine) in
      (omega (arith, ints, a, b, one_sided (surplus ls v)), omega (arith, ints, a, b, one_sided (surplus ls v)))

  shifted_fit : (ks : List Line) → AllByRecursion (Fine n) ks → summed every high_of (map shifted ks) ≤ 1000000 * length ks
  shifted_fit [] a = omega arith
  shifted_fit (l ∷ ks) a = omega (arith, shifted_fit ks a.1, a.0.4)

  one_fits : (m v : ℕ) → summed every high_of (surplus_line m ls v) ≤ 1000000000
  one_fits m v = by (ltb 0 (up (surplus ls v))) (ltb 0 (down (surplus ls v)))
    where
      by : (b d : Bool) → summed every high_of (cond b (added_line m v (up (surplus ls v)) ∷ []) (cond d (added_line v (m + 1) (down (surplus ls v)) ∷ []) [])) ≤ 1000000000
      by true d = omega (arith, (surplus_fits v).0)
      by false true = omega (arith, (surplus_fits v).1)
      by false false = omega arith

  all_fit : (m v : ℕ) → summed every high_of (surplus_lines m ls v) ≤ 1000000000 * v
  all_fit m zero = omega arith
  all_fit m (suc v) = omega (arith, summed_append (surplus_lines m ls v) (surplus_line m ls v), all_fit m v, one_fits m v)

  -- the lines of stage one are light
  pub first_light : (m : ℕ) → m ≤ 250 → Light (map empty_arc (map shifted ls ++ (back_line ls ∷ surplus_lines m ls m)))
  first_light m k =
      let e = lines_empty (map shifted ls ++ (back_line ls ∷ surplus_lines m ls m)) in
      let a = summed_append (map shifted ls) (back_line ls ∷ surplus_lines m ls m) in
      omega (arith, ap (summed every high_of) e, a, shifted_fit ls (fine_all n ls fine), highs_fit, all_fit m m)

  -- and those of stage two
  pub second_light : (as' : List Arc) → Light (second_arcs ls as')
  second_light as' = omega (arith, go ls as' (fine_all n ls fine))
    where
      go : (ks : List Line) (bs : List Arc) → AllByRecursion (Fine n) ks → summed every high_of (lines_of (second_arcs ks bs)) ≤ 1000000 * length ks
      go [] bs a = omega arith
      go (l ∷ ks) [] a = omega arith
      go (l ∷ ks) (b ∷ bs) a = omega (arith, go ks bs a.1, a.0.4)

-- one junction more: o is the line that it adds
pub surplus_more : (hs hs' : List HeldLine) (n v : ℕ) (ls : List Line) (as' : List Arc) (o : Option HeldLine) (z : ℤ) → z ≡ surplus ls v → arc_if o ≡ map empty_arc (line_for n v z) →
    arcs hs' ≡ arcs hs ++ arc_if o → arcs hs ≡ as' ++ map empty_arc (surplus_lines n ls v) → arcs hs' ≡ as' ++ map empty_arc (surplus_lines n ls (v + 1))
surplus_more hs hs' n v ls as' o z ez eo e h =
    let w : arc_if o ≡ map empty_arc (surplus_line n ls v) = eo ∙ ap (λ (y : ℤ). map empty_arc (line_for n v y)) ez in
    rw (add-one v, map-append empty_arc (surplus_lines n ls v) (surplus_line n ls v))
    (e ∙ ap (λ b. b ++ arc_if o) h ∙ append_assoc as' (map empty_arc (surplus_lines n ls v)) (arc_if o) ∙ ap (λ b. as' ++ (map empty_arc (surplus_lines n ls v) ++ b)) w)

-- a line that was pushed, and one that there was none of
pub pushed_some : (hs hs' : List HeldLine) (o : Option HeldLine) (x : HeldLine) → o ≡ Some x → hs' ≡ hs ++ x ∷ [] → arcs hs' ≡ arcs hs ++ arc_if o
pushed_some hs hs' o x eo eh = rw (eo, eh) (map-append arc hs (x ∷ []))

pub pushed_none : (hs hs' : List HeldLine) (o : Option HeldLine) → o ≡ None → hs' ≡ hs → arcs hs' ≡ arcs hs ++ arc_if o
pushed_none hs hs' o eo eh = rw (eo, eh) (sym (append-nil (arcs hs)))

-- the lines of stage one in their parts
pub first_opened : (ls : List Line) (n : ℕ) (hs₀ hs₁ hs₂ hs₃ : List HeldLine) (y : HeldLine) (high : ℕ) → hs₀ ≡ [] →
    arcs hs₁ ≡ arcs hs₀ ++ map empty_arc (map shifted ls) → arc y ≡ empty_arc (added_line 1 0 high) → high ≡ summed every high_of ls → hs₂ ≡ hs₁ ++ y ∷ [] →
    arcs hs₃ ≡ arcs hs₂ ++ map empty_arc (surplus_lines n ls n) →
    arcs hs₃ ≡ map empty_arc (map shifted ls ++ (back_line ls ∷ surplus_lines n ls n))
first_opened ls n hs₀ hs₁ hs₂ hs₃ y high none h e eh e₂ q =
    let b = empty_arc (back_line ls) in
    let h' : arcs hs₁ ≡ map empty_arc (map shifted ls) = rw none at h in
    let f : arcs hs₂ ≡ map empty_arc (map shifted ls) ++ b ∷ [] =
    ap arcs e₂ ∙ map-append arc hs₁ (y ∷ []) ∙ ap (λ z. z ++ arc y ∷ []) h' ∙ ap (λ z. map empty_arc (map shifted ls) ++ z ∷ []) (e ∙ ap (λ x. empty_arc (added_line 1 0 x)) eh) in
    q ∙ ap (λ x. x ++ map empty_arc (surplus_lines n ls n)) f
    ∙ append_assoc (map empty_arc (map shifted ls)) (b ∷ []) (map empty_arc (surplus_lines n ls n))
    ∙ sym (map-append empty_arc (map shifted ls) (back_line ls ∷ surplus_lines n ls n))
