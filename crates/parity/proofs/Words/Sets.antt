-- Sets of bits that are held in words: how many of its bits a check contains, by the ones of words, over their number W. Assumes nothing.
use mathlib.Core.Path.{◌≡◌, refl, sym, ap, ◌∙◌}
use mathlib.Core.Bool.{Bool, true, false, not, ◌&&◌, xor, and-false}
use mathlib.Core.List.{List}
use Prim.Native.Nat.{ℕ, zero, suc, ◌+◌, ◌*◌, ◌/◌, ◌%◌, ◌^◌, ◌≤◌, ◌<◌}
use native.Mathlib.Nat.{zero-mul, zero-add, mod-lt}
use native.Mathlib.Omega.{arith}
use lib.Arith.{digits_mod}
use lib.Bits.{bit_and, bit_xor, differ, and_le_l, xor_step, xor_shr, xor_lt}
use lib.Count.{ones as onesOf}
use lib.Dec.{eqb, ltb, lit<}
use lib.ListN.{get_or}
use borrow.Author.Tests.{eq-eqb, ne_eqb, eqb-true, eqb-false, lt-ltb, le-ltb}
use Rattle.parity.specs.Finite.{count}
use Rattle.parity.specs.Matrix.{Matrix, bit_of, lent}
use Rattle.parity.specs.Words.{inside, odd}
use Rattle.parity.proofs.Finite.Sums.{is, is_true, is_false, count_cong, count_end}
use Rattle.parity.proofs.Matrix.Digits.{bit_of_and}
use Rattle.parity.proofs.Matrix.Lent.{lent_word, count_add, ones_count}
use Rattle.parity.proofs.Words.Residue.{inside_xor}

-- the bits in which two words differ
pub bit_of_xor : (a b i : ℕ) → bit_of (bit_xor a b) i ≡ xor (bit_of a i) (bit_of b i)
unfolding bit_of xor
bit_of_xor a b i =
    let k : a / 2 ^ i % 2 < 2 = mod-lt (a / 2 ^ i) (lit< tt) in
    let l : b / 2 ^ i % 2 < 2 = mod-lt (b / 2 ^ i) (lit< tt) in
    rw (xor_shr a b i, xor_step (a / 2 ^ i) (b / 2 ^ i), digits_mod (bit_xor (a / 2 ^ i / 2) (b / 2 ^ i / 2)) {m = 2} {r = differ (a / 2 ^ i % 2) (b / 2 ^ i % 2)} (below (a / 2 ^ i % 2) (b / 2 ^ i % 2) k l))
    (go (a / 2 ^ i % 2) (b / 2 ^ i % 2) k l)
  where
    below : (x y : ℕ) → x < 2 → y < 2 → differ x y < 2
    below zero y k l = l
    below (suc zero) zero k l = k
    below (suc zero) (suc zero) k l = omega arith
    below (suc zero) (suc (suc y)) k l = absurd (omega arith)
    below (suc (suc x)) y k l = absurd (omega arith)

    go : (x y : ℕ) → x < 2 → y < 2 → eqb (differ x y) 1 ≡ xor (eqb x 1) (eqb y 1)
    go zero zero k l = refl
    go zero (suc zero) k l = refl
    go zero (suc (suc y)) k l = absurd (omega arith)
    go (suc zero) zero k l = refl
    go (suc zero) (suc zero) k l = refl
    go (suc zero) (suc (suc y)) k l = absurd (omega arith)
    go (suc (suc x)) y k l = absurd (omega arith)

-- Counts of two tests and of their sum modulo 2 agree in parity.
count_xor : (n : ℕ) (p q : ℕ → Bool) → count n (λ i. xor (p i) (q i)) % 2 ≡ (count n p + count n q) % 2
count_xor n p q =
    let e : count n p + count n q ≡ count n (λ i. xor (p i) (q i)) + 2 * count n (λ i. p i && q i) = unfold inside in inside_xor (λ c b. true) n 0 p q in
    omega arith

-- so do the ones of two words and of the machine's a ^ b
pub ones_xor : (k a b : ℕ) → a < 2 ^ k → b < 2 ^ k → onesOf (bit_xor a b) % 2 ≡ (onesOf a + onesOf b) % 2
ones_xor k a b l m =
    rw (ones_count k (bit_xor a b) (xor_lt k a b l m), ones_count k a l, ones_count k b m, count_cong k {p = bit_of (bit_xor a b)} {q = λ i. xor (bit_of a i) (bit_of b i)} (λ i j. bit_of_xor a b i))
    (count_xor k (bit_of a) (bit_of b))

-- word i of a check's bits that are in a set
abbrev pub common : ℕ → List ℕ → List ℕ → ℕ → ℕ → ℕ
common W ws set c i = bit_and (get_or ws (c * W + i) 0) (get_or set i 0)

module _ (W : ℕ) (ws set : List ℕ) (c : ℕ) where
  pub common_bit : (i j : ℕ) → i < W → j < 64 → bit_of (common W ws set c i) j ≡ (lent W ws c (i * 64 + j) && lent W set 0 (i * 64 + j))
  common_bit i j k l =
      bit_of_and (get_or ws (c * W + i) 0) (get_or set i 0) j
      ∙ rw (lent_word W ws c i j k l, lent_word W set 0 i j k l, zero-mul W, zero-add i)

  -- how many bits of the set the check contains, one word more
  pub inside_word : (i : ℕ) → i < W → get_or ws (c * W + i) 0 < 2 ^ 64
      → inside (lent W ws) ((i + 1) * 64) c (lent W set 0) ≡ inside (lent W ws) (i * 64) c (lent W set 0) + onesOf (common W ws set c i)
  unfolding inside
  inside_word i k l =
      let e : (i + 1) * 64 ≡ i * 64 + 64 = omega arith in
      let f : common W ws set c i < 2 ^ 64 = omega (arith, and_le_l (get_or ws (c * W + i) 0) (get_or set i 0)) in
      rw e (count_add (i * 64) 64 (λ b. lent W ws c b && lent W set 0 b)
      ∙ ap (λ (a : ℕ). count (i * 64) (λ b. lent W ws c b && lent W set 0 b) + a)
      (count_cong 64 (λ j m. sym (common_bit i j k m)) ∙ sym (ones_count 64 (common W ws set c i) f)))

-- A set that has no bit from L on counts as far as L.
pub inside_below : (h : Matrix) (N L c : ℕ) (s t : ℕ → Bool) → L ≤ N → ((b : ℕ) → s b ≡ (ltb b L && t b)) → inside h N c s ≡ inside h L c t
unfolding inside
inside_below h N L c s t l e =
    count_end L N (λ b. h c b && s b) l (λ b k m. rw (e b, le-ltb b L k, and-false))
    ∙ count_cong L (λ b k. rw (e b, lt-ltb b L k))

-- odd and even
pub odd_even : (s : ℕ) → odd s ≡ true → eqb (s % 2) 0 ≡ false
unfolding odd
odd_even s e = ne_eqb (s % 2) 0 (λ q. omega (arith, eqb-true (s % 2) 1 e))

pub not_odd_even : (s : ℕ) → odd s ≡ false → eqb (s % 2) 0 ≡ true
unfolding odd
not_odd_even s e = eq-eqb (s % 2) 0 (omega (arith, eqb-false (s % 2) 1 e))

pub even_not_odd : (s : ℕ) → not (odd s) ≡ eqb (s % 2) 0
even_not_odd s = elim (is (odd s)) [ is_true e ↦ rw (e, odd_even s e) | is_false e ↦ rw (e, not_odd_even s e) ]
