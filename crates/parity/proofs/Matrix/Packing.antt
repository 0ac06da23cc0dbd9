-- Laws of the matrix's layout in words, over the number W of words of a check. Assumes nothing.
use mathlib.Core.Path.{◌≡◌, refl, sym, ap, ◌∙◌, fun_ext}
use mathlib.Core.Bool.{Bool, true, false, and-false}
use mathlib.Core.List.{List}
use Prim.Native.Nat.{ℕ, zero, suc, ◌+◌, ◌*◌, ◌-◌, ◌/◌, ◌%◌, ◌^◌, ◌≤◌, ◌<◌}
use native.Mathlib.Nat.{not-suc-le-zero, div-add-mod', mod-lt, mul-add-div_right, mul_assoc, pow-suc, zero-div, mul-le-mul_right}
use native.Mathlib.Omega.{arith}
use native.Mathlib.Decide.{ℕ_discrete, dec_lt}
use lib.Dec.{eqb}
use lib.ListN.{get_or, length, get_or-eq_default}
use lib.Seq.{ext_get_or}
use lib.Arith.{digits_div, digits_mod, digits_lt}
use lib.Pow.{pow-add, pow_pos, high}
use borrow.Author.Tests.{lt-ltb}
use Rattle.parity.specs.Finite.{one, sum}
use Rattle.parity.specs.Matrix.{Matrix, bit_of, lent, word_of, pack}
use Rattle.parity.proofs.Finite.Sums.{one≤1}
use Rattle.parity.proofs.Finite.Lists.{length_list_from, at_list_from}
use Rattle.parity.proofs.Matrix.Digits.{same_bits}
use Rattle.parity.proofs.Matrix.Lent.{lent_out, lent_word}

-- a binary number, by its digits
pub binary_lt : (n : ℕ) (p : ℕ → Bool) → sum n (λ b. one (p b) * 2 ^ b) < 2 ^ n
unfolding sum
binary_lt zero p = omega arith
binary_lt (suc n) p =
    rw (pow-suc 2 n) (omega (arith, binary_lt n p, mul-le-mul_right (2 ^ n) (one≤1 (p n))))

one_bit : (b : Bool) → eqb (one b % 2) 1 ≡ b
one_bit true = refl
one_bit false = refl

-- a digit added above those that there are
above : (x s n i : ℕ) → s < 2 ^ n → i < n → (x * 2 ^ n + s) / 2 ^ i % 2 ≡ s / 2 ^ i % 2
above x s n i l k = go (n - suc i) (omega arith)
  where
    go : (d : ℕ) → n ≡ d + 1 + i → (x * 2 ^ n + s) / 2 ^ i % 2 ≡ s / 2 ^ i % 2
    go d e =
        let f : x * 2 ^ n ≡ (x * 2 ^ d * 2) * 2 ^ i = rw (e, pow-add 2 (d + 1) i, pow-add 2 d 1, ← mul_assoc x (2 ^ d * 2) (2 ^ i), ← mul_assoc x (2 ^ d) 2) in
        rw (f, mul-add-div_right (pow_pos i) (x * 2 ^ d * 2) s) (omega arith)

pub binary_bit : (n : ℕ) (p : ℕ → Bool) (i : ℕ) → i < n → bit_of (sum n (λ b. one (p b) * 2 ^ b)) i ≡ p i
unfolding sum bit_of
binary_bit zero p i k = absurd (not-suc-le-zero k)
binary_bit (suc n) p i k =
    let s : ℕ = sum n (λ b. one (p b) * 2 ^ b) in
    let e : s + one (p n) * 2 ^ n ≡ one (p n) * 2 ^ n + s = omega arith in
    elim (ℕ_discrete i n) [
      | yes q ↦ rw (q, e, high (one (p n)) n (binary_lt n p)) (one_bit (p n))
      | no d ↦ rw (e, above (one (p n)) s n i (binary_lt n p) (omega arith)) (binary_bit n p i (omega arith))
    ]

-- the words that hold a matrix
module _ (W : ℕ) (h : Matrix) where
  pub word_lt : (i : ℕ) → word_of W h i < 2 ^ 64
  unfolding word_of
  word_lt i = binary_lt 64 (λ b. h (i / W) (i % W * 64 + b))

  pub word_bit : (i b : ℕ) → b < 64 → bit_of (word_of W h i) b ≡ h (i / W) (i % W * 64 + b)
  unfolding word_of
  word_bit i b k = binary_bit 64 (λ b. h (i / W) (i % W * 64 + b)) b k

  pub pack_length : length (pack W h) ≡ 512 * W
  unfolding pack
  pack_length = length_list_from 0 (512 * W) (word_of W h)

  pub pack_at : (i : ℕ) → i < 512 * W → get_or (pack W h) i 0 ≡ word_of W h i
  unfolding pack
  pack_at i k = at_list_from 0 (512 * W) (word_of W h) i k ∙ ap (word_of W h) (omega arith)

  pub pack_lt : (i : ℕ) → get_or (pack W h) i 0 < 2 ^ 64
  pack_lt i =
      elim (dec_lt i (512 * W)) [
        | yes k ↦ rw (pack_at i k) (word_lt i)
        | no k ↦ rw (get_or-eq_default (pack W h) 0 {n = i} (omega (arith, pack_length))) (pow_pos 64)
      ]

pub behind_checks : (W : ℕ) (ws : List ℕ) → length ws ≡ 512 * W → (c b : ℕ) → 512 ≤ c → lent W ws c b ≡ false
unfolding lent bit_of
behind_checks W ws e c b k =
    rw (get_or-eq_default ws 0 {n = c * W + b / 64} (omega (arith, mul-le-mul_right W k)), zero-div (2 ^ (b % 64)), and-false)

-- reading what was packed
pub lent_pack : (W : ℕ) (h : Matrix) (c b : ℕ) → c < 512 → b < W * 64 → lent W (pack W h) c b ≡ h c b
unfolding lent
lent_pack W h c b k l =
    let i : ℕ = c * W + b / 64 in
    let r : b / 64 < W = omega arith in
    let e : b / 64 * 64 + b % 64 ≡ b = omega arith in
    rw (lt-ltb b (W * 64) l, pack_at W h i (digits_lt k r), word_bit W h i (b % 64) (omega arith), digits_div c r, digits_mod c r, e)

pub lent_packed : (W : ℕ) (h : Matrix) → ((c b : ℕ) → 512 ≤ c → h c b ≡ false) → ((c b : ℕ) → W * 64 ≤ b → h c b ≡ false)
    → lent W (pack W h) ≡ h
lent_packed W h f g = fun_ext (λ c. fun_ext (λ b. at c b))
  where
    at : (c b : ℕ) → lent W (pack W h) c b ≡ h c b
    at c b =
        elim (dec_lt b (W * 64)) [
          | no l ↦ lent_out W (pack W h) c b (omega arith) ∙ sym (g c b (omega arith))
          | yes l ↦ elim (dec_lt c 512) [
            | yes k ↦ lent_pack W h c b k l
            | no k ↦ behind_checks W (pack W h) (pack_length W h) c b (omega arith) ∙ sym (f c b (omega arith))
          ]
        ]

-- bit b of word i
pub lent_flat : (W : ℕ) → 0 < W → (ws : List ℕ) (i b : ℕ) → b < 64 → lent W ws (i / W) (i % W * 64 + b) ≡ bit_of (get_or ws i 0) b
lent_flat W p ws i b k = lent_word W ws (i / W) (i % W) b (mod-lt i p) k ∙ rw (div-add-mod' i W)

-- two lists of machine words that hold the same matrix are the same list
pub words_same : (W : ℕ) → 0 < W → (ws vs : List ℕ) → length ws ≡ length vs → ((i : ℕ) → get_or ws i 0 < 2 ^ 64) → ((i : ℕ) → get_or vs i 0 < 2 ^ 64)
    → lent W ws ≡ lent W vs → ws ≡ vs
words_same W w ws vs e a b f =
    ext_get_or 0 ws vs e (λ i l. same_bits 64 (get_or ws i 0) (get_or vs i 0) (a i) (b i) (λ j k.
    sym (lent_flat W w ws i j k) ∙ ap (λ (h : Matrix). h (i / W) (i % W * 64 + j)) f ∙ lent_flat W w vs i j k))

-- packing what was read
pub pack_lent : (W : ℕ) → 0 < W → (ws : List ℕ) → length ws ≡ 512 * W → ((i : ℕ) → get_or ws i 0 < 2 ^ 64) → pack W (lent W ws) ≡ ws
pack_lent W w ws e a =
    words_same W w (pack W (lent W ws)) ws (pack_length W (lent W ws) ∙ sym e) (pack_lt W (lent W ws)) a
    (lent_packed W (lent W ws) (behind_checks W ws e) (lent_out W ws))
