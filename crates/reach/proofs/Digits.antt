-- The digits of a byte, and the members and the size of a set of bytes.
use lib.Bits.{bit_or}
use lib.Count.{ones, ones_step, ones_in}
use Rattle.std.proofs.Common.{◌≡◌, ℕ, zero, suc, ◌+◌, ◌-◌, ◌*◌, ◌/◌, ◌%◌, ◌^◌, ◌<◌, ◌≤◌, Bool, true, false, cond, ◌||◌, eqb, List, length, get_or, set, replicate, sym, refl, ap, ◌∙◌, ⊎_elim, add-zero, add-suc, mod-lt, one-mul, pow-suc, zero-add, div-one, add-one, one-add, arith, get_or-set_other, get_or-set_same}
use lib.ListN.{length-replicate}
use native.Mathlib.Nat.{div-eq_of_lt, mul-mod_left, zero-div}
use Rattle.reach.specs.Sets.{bit, member, size}
use Rattle.std.proofs.lemmas.Nat.{or_mod, or_shr, pow-add, pow_below, shl-shr, shr-shr, div-mul-add, mod-mul-add}
use Rattle.std.proofs.lemmas.List.{get_or_past, get_or-replicate}
use Rattle.std.proofs.lemmas.Bool.{cases_eq, cases_lt, cases_order, eq-eqb, ne_eqb, or_left}

-- a power's own digit
pow_same : (k : ℕ) → 2 ^ k / 2 ^ k % 2 ≡ 1
pow_same k = ap (λ (x : ℕ). x / 2 ^ k % 2) (sym (one-mul (2 ^ k))) ∙ ap (λ (x : ℕ). x % 2) (shl-shr 1 k)

-- and any other of its digits
pow_other : (k j : ℕ) → (j ≡ k → ⊥) → 2 ^ k / 2 ^ j % 2 ≡ 0
pow_other k j ne =
    ⊎_elim (λ e. absurd (ne e))
    (⊎_elim
    (λ h. let e : k ≡ suc (k - suc j) + j = omega arith in
    ap (λ (x : ℕ). 2 ^ x / 2 ^ j % 2) e ∙ ap (λ (x : ℕ). x / 2 ^ j % 2) (pow-add 2 (suc (k - suc j)) j)
    ∙ ap (λ (x : ℕ). x % 2) (shl-shr (2 ^ suc (k - suc j)) j) ∙ ap (λ (x : ℕ). x % 2) (pow-suc 2 (k - suc j)) ∙ mul-mod_left (2 ^ (k - suc j)) 2)
    (λ h. ap (λ (x : ℕ). x % 2) (div-eq_of_lt (pow_below k j h))))
    (cases_order j k)

or_one : (x : ℕ) → x < 2 → bit_or x 1 ≡ 1
or_one zero h = refl
or_one (suc zero) h = refl
or_one (suc (suc x)) h = absurd (omega arith)

or_zero : (x : ℕ) → x < 2 → bit_or x 0 ≡ x
or_zero zero h = refl
or_zero (suc zero) h = refl
or_zero (suc (suc x)) h = absurd (omega arith)

or_digit : (a b j : ℕ) → bit_or a b / 2 ^ j % 2 ≡ bit_or (a / 2 ^ j % 2) (b / 2 ^ j % 2)
or_digit a b j = ap (λ (x : ℕ). x % 2) (or_shr a b j) ∙ or_mod (a / 2 ^ j) (b / 2 ^ j) 1

-- a side of an `or` that is false
pub or_left_out : (x y : Bool) → x ≡ false → (x || y) ≡ y
or_left_out true y e = absurd (let z : ◌≡◌ {A = ℕ} 0 1 = cc in omega arith)
or_left_out false y e = refl

bit_or_lem : (a k j : ℕ) → bit (bit_or a (2 ^ k)) j ≡ (eqb j k || bit a j)
unfolding bit
bit_or_lem a k j =
    ⊎_elim
    (λ e. ap (λ (y : ℕ). eqb y 1) (or_digit a (2 ^ k) j ∙ ap (λ (y : ℕ). bit_or (a / 2 ^ j % 2) y) (ap (λ (i : ℕ). 2 ^ k / 2 ^ i % 2) e ∙ pow_same k) ∙ or_one (a / 2 ^ j % 2) (mod-lt (a / 2 ^ j) (omega arith)))
    ∙ sym (or_left (eqb j k) (eqb (a / 2 ^ j % 2) 1) (eq-eqb j k e)))
    (λ ne. ap (λ (y : ℕ). eqb y 1) (or_digit a (2 ^ k) j ∙ ap (λ (y : ℕ). bit_or (a / 2 ^ j % 2) y) (pow_other k j ne) ∙ or_zero (a / 2 ^ j % 2) (mod-lt (a / 2 ^ j) (omega arith)))
    ∙ sym (or_left_out (eqb j k) (eqb (a / 2 ^ j % 2) 1) (ne_eqb j k ne)))
    (cases_eq j k)

-- one member more
pub member_insert : (xs : List ℕ) (v w : ℕ) → v / 8 < length xs
    → member (set xs (v / 8) (bit_or (get_or xs (v / 8) 0) (2 ^ (v % 8)))) w ≡ (eqb w v || member xs w)
unfolding member
member_insert xs v w l =
    let new = bit_or (get_or xs (v / 8) 0) (2 ^ (v % 8)) in
    ⊎_elim
    (λ (e : w / 8 ≡ v / 8).
    ap (λ (i : ℕ). bit (get_or (set xs (v / 8) new) i 0) (w % 8)) e ∙ ap (λ (b : ℕ). bit b (w % 8)) (get_or-set_same xs (v / 8) new 0 l)
    ∙ bit_or_lem (get_or xs (v / 8) 0) (v % 8) (w % 8)
    ∙ ⊎_elim
    (λ (q : w % 8 ≡ v % 8). or_left (eqb (w % 8) (v % 8)) _ (eq-eqb _ _ q) ∙ sym (or_left (eqb w v) _ (eq-eqb w v (omega arith))))
    (λ nq. or_left_out (eqb (w % 8) (v % 8)) _ (ne_eqb _ _ nq) ∙ ap (λ (i : ℕ). bit (get_or xs i 0) (w % 8)) (sym e) ∙ sym (or_left_out (eqb w v) _ (ne_eqb w v (λ z. nq (ap (λ (i : ℕ). i % 8) z)))))
    (cases_eq (w % 8) (v % 8)))
    (λ ne.
    ap (λ (b : ℕ). bit b (w % 8)) (get_or-set_other xs (v / 8) (w / 8) new 0 ne) ∙ sym (or_left_out (eqb w v) _ (ne_eqb w v (λ z. ne (ap (λ (i : ℕ). i / 8) z)))))
    (cases_eq (w / 8) (v / 8))

-- the sum of the k lowest digits
digits : ℕ → ℕ → ℕ
digits zero n = 0
digits (suc k) n = n / 2 ^ k % 2 + digits k n

ones_digits : (k n : ℕ) → ones n ≡ digits k n + ones (n / 2 ^ k)
unfolding digits
ones_digits zero n = sym (zero-add _ ∙ ap ones (div-one n))
ones_digits (suc k) n =
    let e : n / 2 ^ k / 2 ≡ n / 2 ^ suc k = shr-shr n k 1 ∙ ap (λ (i : ℕ). n / 2 ^ i) (add-one k) in
    omega (arith, ones_digits k n, ones_step (n / 2 ^ k), ap ones e)

bit_digit : (x : ℕ) → x < 2 → cond (eqb x 1) 1 0 ≡ x
bit_digit zero h = refl
bit_digit (suc zero) h = refl
bit_digit (suc (suc x)) h = absurd (omega arith)

size_digits : (xs : List ℕ) (i k : ℕ) → k ≤ 8 → size (member xs) (i * 8 + k) ≡ size (member xs) (i * 8) + digits k (get_or xs i 0)
unfolding size digits member bit
size_digits xs i zero h = ap (size (member xs)) (add-zero (i * 8)) ∙ sym (add-zero _)
size_digits xs i (suc k) h =
    let lo : k < 8 = omega arith in
    let d : (i * 8 + k) / 8 ≡ i = div-mul-add i 8 k lo in
    let m : (i * 8 + k) % 8 ≡ k = mod-mul-add i 8 k lo in
    let e : cond (member xs (i * 8 + k)) 1 0 ≡ get_or xs i 0 / 2 ^ k % 2 =
    ap (λ (j : ℕ). cond (bit (get_or xs j 0) ((i * 8 + k) % 8)) 1 0) d ∙ ap (λ (j : ℕ). cond (bit (get_or xs i 0) j) 1 0) m
    ∙ bit_digit (get_or xs i 0 / 2 ^ k % 2) (mod-lt (get_or xs i 0 / 2 ^ k) (omega arith)) in
    ap (size (member xs)) (add-suc (i * 8) k) ∙ omega (arith, e, size_digits xs i k (omega arith))

ones_none : ones 0 ≡ 0
unfolding ones ones_in
ones_none = refl

-- one byte more
pub size_byte : (xs : List ℕ) (i : ℕ) → get_or xs i 0 < 256 → size (member xs) ((i + 1) * 8) ≡ size (member xs) (i * 8) + ones (get_or xs i 0)
size_byte xs i h =
    let e : (i + 1) * 8 ≡ i * 8 + 8 = omega arith in
    let z : get_or xs i 0 / 2 ^ 8 ≡ 0 = div-eq_of_lt h in
    ap (size (member xs)) e ∙ size_digits xs i 8 (omega arith) ∙ omega (arith, ones_digits 8 (get_or xs i 0), ap ones z, ones_none)

-- the lowest digit, and the digits above it
pub bit_zero : (n : ℕ) → bit n 0 ≡ eqb (n % 2) 1
unfolding bit
bit_zero n = ap (λ (x : ℕ). eqb (x % 2) 1) (div-one n)

pub bit_suc : (n w : ℕ) → bit n (suc w) ≡ bit (n / 2) w
unfolding bit
bit_suc n w = ap (λ (x : ℕ). eqb (x % 2) 1) (sym (shr-shr n 1 w ∙ ap (λ (i : ℕ). n / 2 ^ i) (one-add w)))

pub bit_none : (w : ℕ) → bit 0 w ≡ false
unfolding bit
bit_none w = ap (λ (b : ℕ). eqb (b % 2) 1) (zero-div (2 ^ w))

at_zeros : (n i : ℕ) → get_or {A = ℕ} (replicate {A = ℕ} n 0) i 0 ≡ 0
at_zeros n i = ⊎_elim (λ h. get_or-replicate {A = ℕ} n i 0 0 h) (λ h. get_or_past {X = ℕ} (replicate {A = ℕ} n 0) i 0 (omega (arith, length-replicate {A = ℕ} n 0))) (cases_lt i n)

-- no byte but 0, no member
pub member_none : (n w : ℕ) → member (replicate n 0) w ≡ false
unfolding member
member_none n w = ap (λ (b : ℕ). bit b (w % 8)) (at_zeros n (w / 8)) ∙ bit_none (w % 8)
