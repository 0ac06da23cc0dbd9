-- Laws of the bits of a word, and of the machine's operations on them, over the word's width. Assumes nothing.
use mathlib.Core.Path.{◌≡◌, refl, sym, ap, ◌∙◌}
use mathlib.Core.Bool.{true, false, not, ◌&&◌, ◌||◌, and-false, true≢false}
use Prim.Native.Nat.{ℕ, zero, suc, ◌+◌, ◌-◌, ◌*◌, ◌/◌, ◌%◌, ◌^◌, ◌≤◌, ◌<◌, min, max}
use native.Mathlib.Nat.{add-mul, suc-mul, sub-add_cancel, div-eq_of_lt-le, one-mul, mod-lt, div_self, div-one, div-eq_of_lt, zero-div, mul-mod_left, pow-suc, lt_of_lt_of_le, lt_of_le_of_lt}
use native.Mathlib.Numerals.{add-one}
use native.Mathlib.Decide.{dec_lt, ℕ_discrete}
use native.Mathlib.Omega.{arith}
use lib.Arith.{digits_mod, lt-one}
use lib.Bits.{bit_and, bit_or, and_step, or_step, and_shr, or_shr, and_le_r}
use lib.Dec.{eqb, ltb, lit<}
use lib.Pow.{pow_pos, pow-lt, pow_mono, pow-add, shl_exact, shl-shr, shr-shr, shr_lt, le_ones, suc_ones, ones_lt, ones_split, split as parts, high as upper}
use borrow.Author.Tests.{eq-eqb, ne_eqb, lt-ltb, le-ltb}
use Rattle.parity.specs.Finite.{one}
use Rattle.parity.specs.Matrix.{bit_of}
use Rattle.parity.proofs.Finite.Sums.{is_true, is_false, is, byte_one}

-- digit i of a word, 0 or 1
abbrev digit : ℕ → ℕ → ℕ
digit w i = w / 2 ^ i % 2

digit_lt : (x i : ℕ) → digit x i < 2
digit_lt x i = mod-lt (x / 2 ^ i) (lit< tt)

-- the machine's 1 << t
pub one_shl : (t : ℕ) → t < 64 → 1 * 2 ^ t % 2 ^ 64 ≡ 2 ^ t
one_shl t k = shl_exact 1 t 64 (lit< tt) (omega arith) ∙ one-mul (2 ^ t)

-- the bits of both words
pub bit_of_and : (a b i : ℕ) → bit_of (bit_and a b) i ≡ (bit_of a i && bit_of b i)
unfolding bit_of
bit_of_and a b i = rw (and_shr a b i, and_step (a / 2 ^ i) (b / 2 ^ i), digits_mod (bit_and (a / 2 ^ i / 2) (b / 2 ^ i / 2)) {m = 2} {r = min (digit a i) (digit b i)} (omega (arith, digit_lt a i, digit_lt b i))) (go (digit a i) (digit b i) (digit_lt a i) (digit_lt b i))
  where
    go : (x y : ℕ) → x < 2 → y < 2 → eqb (min x y) 1 ≡ (eqb x 1 && eqb y 1)
    go zero zero k l = refl
    go zero (suc zero) k l = refl
    go zero (suc (suc y)) k l = absurd (omega arith)
    go (suc zero) zero k l = refl
    go (suc zero) (suc zero) k l = refl
    go (suc zero) (suc (suc y)) k l = absurd (omega arith)
    go (suc (suc x)) y k l = absurd (omega arith)

-- the bits of either word
pub bit_of_or : (a b i : ℕ) → bit_of (bit_or a b) i ≡ (bit_of a i || bit_of b i)
unfolding bit_of
bit_of_or a b i = rw (or_shr a b i, or_step (a / 2 ^ i) (b / 2 ^ i), digits_mod (bit_or (a / 2 ^ i / 2) (b / 2 ^ i / 2)) {m = 2} {r = max (digit a i) (digit b i)} (omega (arith, digit_lt a i, digit_lt b i))) (go (digit a i) (digit b i) (digit_lt a i) (digit_lt b i))
  where
    go : (x y : ℕ) → x < 2 → y < 2 → eqb (max x y) 1 ≡ (eqb x 1 || eqb y 1)
    go zero zero k l = refl
    go zero (suc zero) k l = refl
    go zero (suc (suc y)) k l = absurd (omega arith)
    go (suc zero) zero k l = refl
    go (suc zero) (suc zero) k l = refl
    go (suc zero) (suc (suc y)) k l = absurd (omega arith)
    go (suc (suc x)) y k l = absurd (omega arith)

-- the word 0
pub bit_zero : (i : ℕ) → bit_of 0 i ≡ false
unfolding bit_of
bit_zero i = rw (zero-div (2 ^ i))

-- a word with one bit
pow_below : (d i : ℕ) → digit (2 ^ (suc d + i)) i ≡ 0
pow_below d i = rw (pow-add 2 (suc d) i, shl-shr (2 ^ suc d) i, pow-suc 2 d, mul-mod_left)

pub bit_pow : (k i : ℕ) → bit_of (2 ^ k) i ≡ eqb i k
unfolding bit_of
bit_pow k i =
    elim (ℕ_discrete i k) [
      | yes e ↦ rw (e, div_self (pow_pos k), eq-eqb k k refl)
      | no d ↦ rw (ne_eqb i k d) (elim (dec_lt i k) [
        | yes l ↦
            let e : k ≡ suc (k - suc i) + i = omega arith in
            ap (λ (n : ℕ). eqb (digit (2 ^ n) i) 1) e ∙ rw (pow_below (k - suc i) i)
        | no l ↦ let m : k < i = omega arith in rw (div-eq_of_lt (pow-lt m))
      ])
    ]

-- a word with the bits below r
mask_digit : (d i : ℕ) → digit (2 ^ (suc d + i) - 1) i ≡ 1
mask_digit d i = rw (ones_split (suc d) i, upper (2 ^ suc d - 1) i (ones_lt i)) (omega (arith, pow-suc 2 d, pow_pos d))

pub bit_mask : (r i : ℕ) → bit_of (2 ^ r - 1) i ≡ ltb i r
unfolding bit_of
bit_mask r i =
    elim (dec_lt i r) [
      | yes l ↦
          let e : r ≡ suc (r - suc i) + i = omega arith in
          ap (λ (n : ℕ). eqb (digit (2 ^ n - 1) i) 1) e ∙ rw (mask_digit (r - suc i) i, lt-ltb i r l)
      | no l ↦ let m : r ≤ i = omega arith in rw (div-eq_of_lt (lt_of_lt_of_le (ones_lt r) (pow_mono m)), le-ltb i r m)
    ]

-- the machine's !a: the other bits
not_shr : (j k a : ℕ) → a < 2 ^ (j + k) → (2 ^ (j + k) - 1 - a) / 2 ^ k ≡ 2 ^ j - 1 - a / 2 ^ k
not_shr j k a h =
    let q : ℕ = a / 2 ^ k in
    let A : ℕ = 2 ^ j - 1 in
    let l : q ≤ A = le_ones j (shr_lt j k h) in
    let f1 : (A - q) * 2 ^ k + q * 2 ^ k ≡ A * 2 ^ k = sym (add-mul (A - q) q (2 ^ k)) ∙ ap (λ (x : ℕ). x * 2 ^ k) (sub-add_cancel l) in
    let f2 : A * 2 ^ k + 2 ^ k ≡ 2 ^ (j + k) = sym (suc-mul A (2 ^ k)) ∙ ap (λ (x : ℕ). x * 2 ^ k) (suc_ones j) ∙ sym (pow-add 2 j k) in
    let f3 : (A - q + 1) * 2 ^ k ≡ (A - q) * 2 ^ k + 2 ^ k = ap (λ (x : ℕ). x * 2 ^ k) (add-one (A - q)) ∙ suc-mul (A - q) (2 ^ k) in
    div-eq_of_lt-le (2 ^ k) (omega (arith, parts a k, mod-lt a (pow_pos k))) (omega (arith, parts a k, mod-lt a (pow_pos k)))

pub bit_not : (k a i : ℕ) → i < k → a < 2 ^ k → bit_of (2 ^ k - 1 - a) i ≡ not (bit_of a i)
unfolding bit_of
bit_not k a i h l = go (k - suc i) (omega arith)
  where
    turn : (x : ℕ) → x < 2 → eqb (1 - x) 1 ≡ not (eqb x 1)
    turn zero m = refl
    turn (suc zero) m = refl
    turn (suc (suc x)) m = absurd (omega arith)

    go : (d : ℕ) → suc d + i ≡ k → eqb (digit (2 ^ k - 1 - a) i) 1 ≡ not (eqb (digit a i) 1)
    go d e =
        let b : a < 2 ^ (suc d + i) = rw e l in
        let f : (2 ^ k - 1 - a) / 2 ^ i ≡ 2 ^ suc d - 1 - a / 2 ^ i = rw e at (not_shr (suc d) i a b) in
        let g : digit (2 ^ k - 1 - a) i ≡ 1 - digit a i = rw f (omega (arith, pow-suc 2 d, shr_lt (suc d) i b)) in
        rw g (turn (digit a i) (digit_lt a i))

-- the machine's a | (1 << t) and a & !(1 << t)
pub bit_set : (a t i : ℕ) → bit_of (bit_or a (2 ^ t)) i ≡ (bit_of a i || eqb i t)
bit_set a t i = bit_of_or a (2 ^ t) i ∙ rw (bit_pow t i)

pub bit_clear : (k a t i : ℕ) → t < k → i < k → bit_of (bit_and a (2 ^ k - 1 - 2 ^ t)) i ≡ (bit_of a i && not (eqb i t))
bit_clear k a t i l m = bit_of_and a (2 ^ k - 1 - 2 ^ t) i ∙ rw (bit_not k (2 ^ t) i m (pow-lt l), bit_pow t i)

-- the lowest bit, and those above it
pub low_bit : (w : ℕ) → one (bit_of w 0) ≡ w % 2
unfolding bit_of
low_bit w = rw (div-one w) (byte_one (w % 2) (omega arith))

pub higher : (w i : ℕ) → bit_of w (1 + i) ≡ bit_of (w / 2) i
unfolding bit_of
higher w i = rw (← shr-shr w 1 i)

-- a word is its bits
pub same_bits : (k x y : ℕ) → x < 2 ^ k → y < 2 ^ k → ((i : ℕ) → i < k → bit_of x i ≡ bit_of y i) → x ≡ y
same_bits zero x y a b f = lt-one a ∙ sym (lt-one b)
same_bits (suc k) x y a b f =
    let r = same_bits k (x / 2) (y / 2) (shr_lt k 1 (rw (add-one k) a)) (shr_lt k 1 (rw (add-one k) b))
    (λ i l. sym (higher x i) ∙ f (1 + i) (omega arith) ∙ higher y i) in
    let q : x % 2 ≡ y % 2 = sym (low_bit x) ∙ ap one (f 0 (omega arith)) ∙ low_bit y in
    omega arith

-- a bit tested by a mask
pub bit_test : (w t : ℕ) → not (eqb (bit_and w (2 ^ t)) 0) ≡ bit_of w t
bit_test w t =
    elim (is (bit_of w t)) [
      | is_true e ↦
          let h : bit_of (bit_and w (2 ^ t)) t ≡ true = bit_of_and w (2 ^ t) t ∙ rw (e, bit_pow t t, eq-eqb t t refl) in
          rw (e, ne_eqb (bit_and w (2 ^ t)) 0 (λ q. true≢false (sym h ∙ ap (λ x. bit_of x t) q ∙ bit_zero t)))
      | is_false e ↦
          let h : bit_and w (2 ^ t) ≡ 0 = same_bits (suc t) (bit_and w (2 ^ t)) 0 (lt_of_le_of_lt (and_le_r w (2 ^ t)) (pow-lt {i = t} {j = suc t} (omega arith))) (pow_pos (suc t)) (λ i l. none e i) in
          rw (e, eq-eqb (bit_and w (2 ^ t)) 0 h)
    ]
  where
    none : bit_of w t ≡ false → (i : ℕ) → bit_of (bit_and w (2 ^ t)) i ≡ bit_of 0 i
    none e i =
        bit_of_and w (2 ^ t) i ∙ rw (bit_pow t i, bit_zero i) (elim (ℕ_discrete i t) [
          | yes q ↦ rw (q, e)
          | no d ↦ rw (ne_eqb i t d, and-false)
        ])
