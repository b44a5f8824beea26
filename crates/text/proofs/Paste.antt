-- One piece of text after another into a buffer.
use Rattle.std.proofs.Common.{◌≡◌, ℕ, zero, suc, ◌+◌, ◌-◌, ◌<◌, ◌≤◌, List, [], ◌++◌, length, get_or, take, drop, sym, refl, ap, ◌∙◌, subst, ⊎_elim, append_assoc, add-one, arith, length-append, take-append-drop, length-drop, length-take-le, drop-drop, take_at, drop_at}
use Rattle.std.proofs.str.Laws.{order}
use Rattle.std.proofs.lemmas.List.{get_or_default}
use borrow.Rule.Slice.PartMut.{put_mid}
use Rattle.text.specs.declared.page.Page.{Page}
use Rattle.text.specs.Pieces.{Adds, Begins, Puts, pasted, room}
use Rattle.text.specs.Text.{each_below, rows_of}

-- what `copy_from_slice` into `buf[i..e]` leaves
pub pasted_mid : (buf bs ys : List ℕ) (i e : ℕ) → e ≡ i + length bs → ys ≡ bs → put_mid i (e - i) buf ys ≡ pasted buf i bs
unfolding pasted
pasted_mid buf bs ys i e h g =
    let k : e - i ≡ length bs = omega arith in
    rw (g, k) (ap (λ l. take i buf ++ (bs ++ l)) (drop-drop (length bs) i buf))

pub pasted_nil : (buf : List ℕ) (i : ℕ) → pasted buf i [] ≡ buf
unfolding pasted
pasted_nil buf i = let z : i + 0 ≡ i = omega arith in rw z (take-append-drop i buf)

pub pasted_start : (buf bs : List ℕ) → pasted buf 0 bs ≡ bs ++ drop (length bs) buf
unfolding pasted
pasted_start buf bs = let z : 0 + length bs ≡ length bs = omega arith in rw z refl

pub pasted_pasted : (buf xs ys : List ℕ) (i j : ℕ) → j ≡ i + length xs → j + length ys ≤ length buf → pasted (pasted buf i xs) j ys ≡ pasted buf i (xs ++ ys)
unfolding pasted
pasted_pasted buf xs ys i j e room =
    let front : length (take i buf ++ xs) ≡ j = length-append (take i buf) xs ∙ ap (λ n. n + length xs) (length-take-le i buf (omega arith)) ∙ sym e in
    let whole = sym (append_assoc (take i buf) xs (drop (i + length xs) buf)) in
    let a : take j (take i buf ++ (xs ++ drop (i + length xs) buf)) ≡ take i buf ++ xs = ap (take j) whole ∙ take_at (take i buf ++ xs) (drop (i + length xs) buf) j front in
    let d : drop (j + length ys) (take i buf ++ (xs ++ drop (i + length xs) buf)) ≡ drop (i + length (xs ++ ys)) buf =
    sym (drop-drop (length ys) j _) ∙ ap (drop (length ys)) (ap (drop j) whole ∙ drop_at (take i buf ++ xs) (drop (i + length xs) buf) j front) ∙ drop-drop (length ys) (i + length xs) buf ∙ ap (λ n. drop n buf) (let h = length-append xs ys in omega arith) in
    (λ t. a t ++ (ys ++ d t)) ∙ append_assoc (take i buf) xs _ ∙ ap (λ l. take i buf ++ l) (sym (append_assoc xs ys _))

pub length_pasted : (buf bs : List ℕ) (i : ℕ) → i + length bs ≤ length buf → length (pasted buf i bs) ≡ length buf
unfolding pasted
length_pasted buf bs i h =
    let f = length-append (take i buf) (bs ++ drop (i + length bs) buf) in
    let m = length-append bs (drop (i + length bs) buf) in
    let t = length-take-le i buf (omega arith) in
    let d = length-drop (i + length bs) buf in
    omega arith

pub puts_nothing : (buf : List ℕ) (i : ℕ) → Puts [] buf i i buf
puts_nothing buf i = record { end = omega arith; is = sym (pasted_nil buf i) }

-- one piece after another
pub then_puts : {xs ys a b d : List ℕ} {i j r : ℕ} → Puts xs a i j b → Puts ys b j r d → r ≤ length a → Puts (xs ++ ys) a i r d
then_puts {xs} {ys} {a} {b} {d} {i} {j} {r} p q room =
    let l = length-append xs ys in
    let e = p.end in
    let f = q.end in
    record {
      end = omega arith;
      is = q.is ∙ ap (λ buf. pasted buf j ys) p.is ∙ pasted_pasted a xs ys i j e (omega arith);
    }

pub same_text : {xs ys a b : List ℕ} {i r : ℕ} → xs ≡ ys → Puts xs a i r b → Puts ys a i r b
same_text e p = rw e at p

-- nothing more on a page
pub adds_nothing : (p : Page) → Adds [] p p
adds_nothing p = record { same_reference = refl; left = omega arith; puts = puts_nothing p.out.now p.at }

-- one piece behind another
pub then_adds : {xs ys : List ℕ} {a b d : Page} → Adds xs a b → Adds ys b d → Adds (xs ++ ys) a d
then_adds {xs} {ys} {a} {b} {d} p q =
    let l = length-append xs ys in
    let e = p.puts.end in
    let f = q.puts.end in
    record {
      same_reference = q.same_reference ∙ p.same_reference;
      left = omega (arith, p.left, q.left);
      puts = then_puts p.puts q.puts (omega (arith, p.left, q.left, a.within, b.within, d.within));
    }

-- how far rows reach
pub reach : (f : ℕ → List ℕ) (i n : ℕ) → i < n → length (each_below i f) + length (f i) ≤ length (each_below n f)
reach f i zero h = absurd (omega arith)
reach f i (suc n) h =
    let l = length-append (each_below n f) (f n) in
    ⊎_elim (λ lt. let r = reach f i n lt in omega arith) (λ (le : n ≤ i). let e : i ≡ n = omega arith in rw e (omega arith)) (order i n)

-- a text that fits in two pieces
pub first_fits : (xs ys : List ℕ) {n : ℕ} → length (xs ++ ys) ≤ n → length xs ≤ n
first_fits xs ys h = let l = length-append xs ys in omega arith

pub next_fits : {xs : List ℕ} (ys : List ℕ) {a b : Page} → length (xs ++ ys) ≤ room a → Adds xs a b → length ys ≤ room b
next_fits {xs} ys h p = let l = length-append xs ys in omega (arith, p.left)

-- the rows of a list, one behind another
module _ {A : Type 0} (f : ℕ → A → List ℕ) (xs : List A) (i : ℕ) (x : A) (there : i < length xs) (is : x ≡ get_or xs i x) {a b : Page} (before : (d : A) → Adds (each_below i (λ k. f k (get_or xs k d))) a b) where
  pub row_fits : ((d : A) → length (rows_of f xs d) ≤ room a) → length (f i x) ≤ room b
  row_fits fits = omega (arith, reach (λ k. f k (get_or xs k x)) i (length xs) there, ap (λ y. length (f i y)) is, fits x, (before x).left)

  pub row_added : {e : Page} → Adds (f i x) b e → (d : A) → Adds (each_below (i + 1) (λ k. f k (get_or xs k d))) a e
  row_added {e} p d =
      let same : x ≡ get_or xs i d = is ∙ get_or_default xs i x d there in
      rw add-one (then_adds (before d) (subst (λ y. Adds (f i y) b e) same p))

-- whatever stands past the end of a list
pub rows_fit : {A : Type 0} (f : ℕ → A → List ℕ) (xs : List A) (x : A) {n : ℕ} → length (rows_of f xs x) ≤ n → (d : A) → length (rows_of f xs d) ≤ n
rows_fit f xs x h d = rw (same (length xs) (omega arith)) h
  where
    same : (i : ℕ) → i ≤ length xs → each_below i (λ k. f k (get_or xs k d)) ≡ each_below i (λ k. f k (get_or xs k x))
    same zero l = refl
    same (suc i) l = let e = get_or_default xs i d x (omega arith) in λ t. same i (omega arith) t ++ f i (e t)

-- a page that was begun over a buffer
pub begin_fits : {buf : List ℕ} {l n : ℕ} {a : Page} → Begins buf a → n ≤ length buf → l ≤ n → l ≤ room a
begin_fits s m h = omega (arith, ap length s.out, s.at)

pub begin_ends : {buf text : List ℕ} {a b : Page} → Begins buf a → Adds text a b → b.at ≡ length text
begin_ends s p = omega (arith, s.at, p.puts.end)
