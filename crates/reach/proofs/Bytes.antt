-- A set and its bytes.
use Rattle.std.proofs.Common.{◌⊎◌, inl, inr, ◌≡◌, ℕ, zero, suc, ◌+◌, ◌*◌, ◌/◌, ◌%◌, ◌^◌, ◌<◌, ◌≤◌, Bool, true, false, cond, eqb, List, [], ◌∷◌, ◌++◌, length, get_or, take, drop, set, sym, refl, ap, ◌∙◌, ⊎_elim, length-set, pow-suc, add-one, arith, pow_mono}
use mir.Val.{bool_byte}
use Rattle.plant.specs.Plants.{Junctions}
use Rattle.reach.specs.Sets.{bit, bits_from, bytes_from, member, members_below, set_bytes, size}
use Rattle.reach.proofs.Digits.{bit_none, bit_suc, bit_zero}
use Rattle.std.proofs.lemmas.List.{append-nil, drop-drop, drop-set-lt, ext_get_or, get_or_past, take_more_set}
use Rattle.std.proofs.lemmas.Bool.{cases_lt, eq-eqb, ne_eqb}

lowest : (b : Bool) (y : ℕ) → eqb ((cond b 1 0 + 2 * y) % 2) 1 ≡ b
lowest true y = eq-eqb ((1 + 2 * y) % 2) 1 (omega arith)
lowest false y = ne_eqb ((0 + 2 * y) % 2) 1 (λ e. omega arith)

above : (b : Bool) (y : ℕ) → (cond b 1 0 + 2 * y) / 2 ≡ y
above true y = omega arith
above false y = omega arith

bit_of : (S : Junctions) (i v w : ℕ) → i < w → bit (bits_from S v w) i ≡ S (v + i)
unfolding bits_from
bit_of S i v zero h = absurd (omega arith)
bit_of S zero v (suc w) h = bit_zero _ ∙ lowest (S v) (bits_from S (v + 1) w) ∙ ap S (omega arith)
bit_of S (suc i) v (suc w) h = bit_suc _ i ∙ ap (λ (x : ℕ). bit x i) (above (S v) (bits_from S (v + 1) w)) ∙ bit_of S i (v + 1) w (omega arith) ∙ ap S (omega arith)

byte_of : (S : Junctions) (b v w : ℕ) → b < w → get_or (bytes_from S v w) b 0 ≡ bits_from S (v + 8 * b) 8
unfolding bytes_from
byte_of S b v zero h = absurd (omega arith)
byte_of S zero v (suc w) h = ap (λ (x : ℕ). bits_from S x 8) (omega arith)
byte_of S (suc b) v (suc w) h = byte_of S b (v + 8) w (omega arith) ∙ ap (λ (x : ℕ). bits_from S x 8) (omega arith)

past : (S : Junctions) (b v w : ℕ) → w ≤ b → get_or (bytes_from S v w) b 0 ≡ 0
unfolding bytes_from
past S zero v zero h = refl
past S (suc b) v zero h = refl
past S zero v (suc w) h = absurd (omega arith)
past S (suc b) v (suc w) h = past S b (v + 8) w (omega arith)

-- the bytes of a set hold its members below 256, and no others
pub member_below : (S : Junctions) (v : ℕ) → v < 256 → member (set_bytes S) v ≡ S v
unfolding member set_bytes
member_below S v h =
    ap (λ (x : ℕ). bit x (v % 8)) (byte_of S (v / 8) 0 32 (omega arith)) ∙ bit_of S (v % 8) (0 + 8 * (v / 8)) 8 (omega arith) ∙ ap S (omega arith)

pub member_past : (S : Junctions) (v : ℕ) → 256 ≤ v → member (set_bytes S) v ≡ false
unfolding member set_bytes
member_past S v h = ap (λ (x : ℕ). bit x (v % 8)) (past S (v / 8) 0 32 (omega arith)) ∙ bit_none (v % 8)

-- no bytes, no member
pub member_out : (xs : List ℕ) (v : ℕ) → length xs ≤ v / 8 → member xs v ≡ false
unfolding member
member_out xs v h = ap (λ (x : ℕ). bit x (v % 8)) (get_or_past xs (v / 8) 0 h) ∙ bit_none (v % 8)

-- a set of junctions below 256 is read off its bytes
pub member_set : (S : Junctions) → ((v : ℕ) → 256 ≤ v → S v ≡ false) → (v : ℕ) → member (set_bytes S) v ≡ S v
member_set S out v = ⊎_elim (λ h. member_below S v h) (λ h. member_past S v h ∙ sym (out v h)) (cases_lt v 256)

-- equal bytes, equal sets
pub same_set : (S R : Junctions) → set_bytes S ≡ set_bytes R → (v : ℕ) → v < 256 → S v ≡ R v
same_set S R e v h = sym (member_below S v h) ∙ ap (λ (xs : List ℕ). member xs v) e ∙ member_below R v h

length_bytes : (S : Junctions) (v w : ℕ) → length (bytes_from S v w) ≡ w
unfolding bytes_from
length_bytes S v zero = refl
length_bytes S v (suc w) = ap suc (length_bytes S (v + 8) w)

pub length_set_bytes : (S : Junctions) → length (set_bytes S) ≡ 32
unfolding set_bytes
length_set_bytes S = length_bytes S 0 32

digit_value : (x : ℕ) → x < 2 → cond (eqb x 1) 1 0 ≡ x
digit_value zero h = refl
digit_value (suc zero) h = refl
digit_value (suc (suc x)) h = absurd (omega arith)

bits_of_byte : (S : Junctions) (v w x : ℕ) → x < 2 ^ w → ((i : ℕ) → i < w → S (v + i) ≡ bit x i) → bits_from S v w ≡ x
unfolding bits_from
bits_of_byte S v zero x h s = omega arith
bits_of_byte S v (suc w) x h s =
    let low : cond (S v) 1 0 ≡ x % 2 =
    ap {B = ℕ} (λ (b : Bool). cond b 1 0) (ap S (omega arith) ∙ s 0 (omega arith) ∙ bit_zero x) ∙ digit_value (x % 2) (omega arith) in
    let high = bits_of_byte S (v + 1) w (x / 2) (omega (arith, pow-suc 2 w)) (λ i l. ap S (omega arith) ∙ s (suc i) (omega arith) ∙ bit_suc x i) in
    omega (arith, low, high)

-- 32 bytes are those of their members
pub bytes_of_members : (xs : List ℕ) → length xs ≡ 32 → ((i : ℕ) → get_or xs i 0 < 256) → xs ≡ set_bytes (member xs)
unfolding set_bytes member
bytes_of_members xs l fits =
    ext_get_or 0 xs (set_bytes (member xs)) (l ∙ sym (length_set_bytes (member xs)))
    (λ i h. sym (byte_of (member xs) i 0 32 (omega arith)
    ∙ bits_of_byte (member xs) (0 + 8 * i) 8 (get_or xs i 0) (fits i)
    (λ k j. let d : (0 + 8 * i + k) / 8 ≡ i = omega arith in
    let m : (0 + 8 * i + k) % 8 ≡ k = omega arith in
    ap (λ (b : ℕ). bit (get_or xs b 0) ((0 + 8 * i + k) % 8)) d ∙ ap (bit (get_or xs i 0)) m)))

bits_alike : (S R : Junctions) (v w : ℕ) → ((u : ℕ) → u < v + w → S u ≡ R u) → bits_from S v w ≡ bits_from R v w
unfolding bits_from
bits_alike S R v zero h = refl
bits_alike S R v (suc w) h =
    omega (arith, ap {B = ℕ} (λ (b : Bool). cond b 1 0) (h v (omega arith)), bits_alike S R (v + 1) w (λ u l. h u (omega arith)))

bytes_alike : (S R : Junctions) (v w : ℕ) → ((u : ℕ) → u < v + 8 * w → S u ≡ R u) → bytes_from S v w ≡ bytes_from R v w
unfolding bytes_from
bytes_alike S R v zero h = refl
bytes_alike S R v (suc w) h =
    let first = bits_alike S R v 8 (λ u l. h u (omega arith)) in
    let rest = bytes_alike S R (v + 8) w (λ u l. h u (omega arith)) in
    cc

-- equal sets, equal bytes
pub same_bytes : (S R : Junctions) → ((v : ℕ) → v < 256 → S v ≡ R v) → set_bytes S ≡ set_bytes R
unfolding set_bytes
same_bytes S R h = bytes_alike S R 0 32 (λ u l. h u (omega arith))

-- bytes that are each made of eight junctions
pub made_bytes : (S : Junctions) (xs : List ℕ) → length xs ≡ 32 → ((i : ℕ) → i < 32 → get_or xs i 0 ≡ bits_from S (8 * i) 8) → xs ≡ set_bytes S
unfolding set_bytes
made_bytes S xs l e =
    ext_get_or 0 xs (set_bytes S) (l ∙ sym (length_set_bytes S)) (λ i h. e i (omega arith) ∙ sym (byte_of S i 0 32 (omega arith) ∙ ap (λ (x : ℕ). bits_from S x 8) (omega arith)))

-- one bit more at the front
pub bits_more : (S : Junctions) (v w : ℕ) → bits_from S v (w + 1) ≡ cond (S v) 1 0 + 2 * bits_from S (v + 1) w
unfolding bits_from
bits_more S v w = ap (bits_from S v) (add-one w)

-- one junction more
pub size_more : (S : Junctions) (n : ℕ) → size S (n + 1) ≡ cond (S n) 1 0 + size S n
unfolding size
size_more S n = ap (size S) (add-one n)

pub members_more : (S : Junctions) (n : ℕ) → members_below S (n + 1) ≡ members_below S n ++ cond (S n) (n ∷ []) []
unfolding members_below
members_more S n = ap (members_below S) (add-one n)

-- from n on no member: the size is that of the members below n
pub size_past : (S : Junctions) (n k : ℕ) → ((v : ℕ) → n ≤ v → S v ≡ false) → size S (n + k) ≡ size S n
size_past S n zero out = ap (size S) (omega arith)
size_past S n (suc k) out =
    ap (size S) (omega arith) ∙ size_more S (n + k) ∙ omega (arith, ap {B = ℕ} (λ (b : Bool). cond b 1 0) (out (n + k) (omega arith)), size_past S n k out)

pub size_alike : (S R : Junctions) (n : ℕ) → ((v : ℕ) → v < n → S v ≡ R v) → size S n ≡ size R n
unfolding size
size_alike S R zero h = refl
size_alike S R (suc n) h = omega (arith, ap {B = ℕ} (λ (b : Bool). cond b 1 0) (h n (omega arith)), size_alike S R n (λ v l. h v (omega arith)))

at_most_one : (b : Bool) → cond b 1 0 ≤ 1
at_most_one true = omega arith
at_most_one false = omega arith

pub size_le : (S : Junctions) (n : ℕ) → size S n ≤ n
unfolding size
size_le S zero = omega arith
size_le S (suc n) = omega (arith, size_le S n, at_most_one (S n))

-- the bits of w junctions are below 2 to the power w
pub bits_below : (S : Junctions) (v w : ℕ) → bits_from S v w < 2 ^ w
unfolding bits_from
bits_below S v zero = omega arith
bits_below S v (suc w) = omega (arith, bits_below S (v + 1) w, at_most_one (S v), pow-suc 2 w)

-- the members below v stand at the front of `out`, and the rest of it is as before
abbrev pub Listed : Junctions → ℕ → ℕ → List ℕ → List ℕ → Type 0
Listed S v count out before = (take count out ≡ members_below S v) × (count ≡ size S v) × (drop count out ≡ drop count before)

-- one junction on, a member is written after the others, or none is
pub listed_step : (S : Junctions) (v count count' : ℕ) (out out' before : List ℕ) → v < length out' → Listed S v count out before
    → ((S v ≡ true) × (out' ≡ set out count v) × (count' ≡ count + 1)) ⊎ ((S v ≡ false) × (out' ≡ out) × (count' ≡ count))
    → Listed S (v + 1) count' out' before
listed_step S v count count' out out' before l h (inl (e, oe, ce)) =
    let small : count < length out = omega (arith, h.1, size_le S v, ap length oe, length-set out count v) in
    rw (oe, ce) (
      take_more_set out count v small ∙ ap (λ (xs : List ℕ). xs ++ (v ∷ [])) h.0 ∙ sym (members_more S v ∙ ap (λ (b : Bool). members_below S v ++ cond b (v ∷ []) []) e),
      omega (arith, h.1, size_more S v, ap {B = ℕ} (λ (b : Bool). cond b 1 0) e),
      drop-set-lt (count + 1) out count v (omega arith) ∙ sym (drop-drop 1 count out) ∙ ap (drop 1) h.2 ∙ drop-drop 1 count before,
    )
listed_step S v count count' out out' before l h (inr (e, oe, ce)) =
    rw (oe, ce) (
      h.0 ∙ sym (members_more S v ∙ ap (λ (b : Bool). members_below S v ++ cond b (v ∷ []) []) e ∙ append-nil (members_below S v)),
      omega (arith, h.1, size_more S v, ap {B = ℕ} (λ (b : Bool). cond b 1 0) e),
      h.2,
    )

bool_value : (b : Bool) → bool_byte b ≡ cond b 1 0
bool_value true = refl
bool_value false = refl

-- the bits of k junctions, and of one more before them
pub horner : (S : Junctions) (u w k n byte : ℕ) → w ≡ u + 1 → n ≡ k + 1 → byte ≡ bits_from S w k → byte * 2 + bool_byte (S u) ≡ bits_from S u n
horner S u w k n byte p q e =
    omega (arith, e, ap (λ (i : ℕ). bits_from S i k) p, ap (bits_from S u) q, bits_more S u k, bool_value (S u))

pub horner_fits : (S : Junctions) (u w k n byte : ℕ) → w ≡ u + 1 → n ≡ k + 1 → n ≤ 8 → byte ≡ bits_from S w k → byte * 2 + bool_byte (S u) < 256
horner_fits S u w k n byte p q l e =
    let most : 2 ^ n ≤ 2 ^ 8 = pow_mono {i = n} {j = 8} l in
    omega (arith, horner S u w k n byte p q e, bits_below S u n, most)
