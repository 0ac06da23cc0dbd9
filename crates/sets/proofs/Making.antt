-- A set made of bytes, word by word, over the number W of words. Assumes nothing.
use mathlib.Core.Path.{◌≡◌, sym, ap, ◌∙◌}
use mathlib.Core.Bool.{false, and-false, or-true, or-false}
use mathlib.Core.List.{List}
use Prim.Native.Nat.{ℕ, suc, ◌+◌, ◌*◌, ◌-◌, ◌/◌, ◌%◌, ◌^◌, ◌≤◌, ◌<◌, min, max}
use native.Mathlib.Nat.{zero-add, zero-mul, mul_assoc, mul-mod_left, pow-suc}
use native.Mathlib.Omega.{arith}
use native.Mathlib.Decide.{ℕ_discrete, dec_lt}
use lib.Bits.{bit_or, or_zero_r}
use lib.Dec.{eqb}
use lib.ListN.{get_or, length, set, length-set}
use lib.Pow.{pow-add, shl_exact, shl-shr, shr-shr}
use lib.Seq.{get_or-set_same, get_or-set_other}
use borrow.Author.Tests.{eq-eqb, ne_eqb, lt-ltb, le-ltb}
use Rattle.parity.specs.Finite.{one}
use Rattle.parity.specs.Matrix.{Matrix, bit_of, lent}
use Rattle.parity.specs.Words.{inside}
use Rattle.parity.specs.Calls.{byte_of}
use Rattle.parity.proofs.Finite.Sums.{below_next}
use Rattle.parity.proofs.Matrix.Clean.{no_bit}
use Rattle.parity.proofs.Matrix.Digits.{one_shl, bit_zero, bit_set, bit_of_or}
use Rattle.parity.proofs.Matrix.Lent.{lent_in, lent_out}
use Rattle.parity.proofs.Words.Sets.{inside_below}
use Rattle.sets.specs.Sets.{WordOf, SetOf, Upto, Eight}

-- the bits of a word that is shifted
bit_under : (y s j : ℕ) → j < s → bit_of (y * 2 ^ s) j ≡ false
unfolding bit_of
bit_under y s j l =
    let e : s ≡ suc (s - suc j) + j = omega arith in
    let p : 2 ^ s ≡ 2 ^ (s - suc j) * 2 * 2 ^ j = ap (λ (n : ℕ). 2 ^ n) e ∙ pow-add 2 (suc (s - suc j)) j ∙ ap (◌* 2 ^ j) (pow-suc 2 (s - suc j)) in
    let f : y * 2 ^ s ≡ y * (2 ^ (s - suc j) * 2) * 2 ^ j = ap (y *◌) p ∙ sym (mul_assoc y (2 ^ (s - suc j) * 2) (2 ^ j)) in
    rw (f, shl-shr (y * (2 ^ (s - suc j) * 2)) j, ← mul_assoc y (2 ^ (s - suc j)) 2, mul-mod_left)

bit_over : (y s t : ℕ) → bit_of (y * 2 ^ s) (s + t) ≡ bit_of y t
unfolding bit_of
bit_over y s t = rw (← shr-shr (y * 2 ^ s) s t, shl-shr y s)

pub upto_none : (w : List ℕ) (v i : ℕ) → Upto w v i 0 (i * 64)
upto_none w v i = record { at = λ j k. rw (le-ltb (i * 64 + j) (i * 64) (omega arith)) (bit_zero j) }

-- a word behind the bytes
pub word_none : (w : List ℕ) (v i : ℕ) → length w ≤ i * 64 → WordOf w v i 0
word_none w v i l = record { at = λ j k. rw (le-ltb (i * 64 + j) (length w) (omega arith)) (bit_zero j) }

module _ (w : List ℕ) (v i x b : ℕ) (U : Upto w v i x b) where
  pub upto_in : i * 64 ≤ b → byte_of w b ≡ v → Upto w v i (bit_or x (2 ^ (b - i * 64))) (b + 1)
  upto_in l e = record {
    at = λ j k. bit_set x (b - i * 64) j ∙ rw (U.at j k) (elim (ℕ_discrete (i * 64 + j) b) [
      | yes q ↦ rw (q, eq-eqb j (b - i * 64) (omega arith), lt-ltb b (b + 1) (omega arith), eq-eqb (byte_of w b) v e, or-true)
      | no d ↦ rw (ne_eqb j (b - i * 64) (λ q. d (omega arith)), or-false, below_next (i * 64 + j) b d)
    ]);
  }

  pub upto_out : (byte_of w b ≡ v → ⊥) → Upto w v i x (b + 1)
  upto_out n = record {
    at = λ j k. rw (U.at j k) (elim (ℕ_discrete (i * 64 + j) b) [
      | yes q ↦ rw (q, ne_eqb (byte_of w b) v n, and-false, and-false)
      | no d ↦ rw (below_next (i * 64 + j) b d)
    ]);
  }

  -- by the bit's value y, shifted to its place
  pub upto_bit : (y : ℕ) → i * 64 ≤ b → b < i * 64 + 64 → y ≡ one (eqb (byte_of w b) v) → Upto w v i (bit_or x (y * 2 ^ (b - i * 64) % 2 ^ 64)) (b + 1)
  upto_bit y l m e =
      let k : b - i * 64 < 64 = omega arith in
      elim (ℕ_discrete (byte_of w b) v) [
        | yes q ↦
            let f : y ≡ 1 = e ∙ ap one (eq-eqb (byte_of w b) v q) in
            rw (f, one_shl (b - i * 64) k) (upto_in l q)
        | no d ↦
            let f : y ≡ 0 = e ∙ ap one (ne_eqb (byte_of w b) v d) in
            rw (f, zero-mul (2 ^ (b - i * 64)), or_zero_r x) (upto_out d)
      ]

  -- by eight bits at once
  pub upto_eight : (q y : ℕ) → b ≡ i * 64 + q * 8 → q < 8 → Eight w v b y → Upto w v i (bit_or x (y * 2 ^ (q * 8) % 2 ^ 64)) (i * 64 + (q + 1) * 8)
  upto_eight q y e k E = record {
    at = λ j l. bit_of_or x (y * 2 ^ (q * 8) % 2 ^ 64) j ∙ rw (U.at j l, shl_exact 8 (q * 8) 64 E.few (omega arith)) (elim (dec_lt j (q * 8)) [
      | yes m ↦ rw (bit_under y (q * 8) j m, or-false, lt-ltb (i * 64 + j) b (omega arith), lt-ltb (i * 64 + j) (i * 64 + (q + 1) * 8) (omega arith))
      | no m ↦
          let t : ℕ = j - q * 8 in
          let a : q * 8 + t ≡ j = omega arith in
          let f : bit_of (y * 2 ^ (q * 8)) j ≡ bit_of y t = rw a at (bit_over y (q * 8) t) in
          rw (f, le-ltb (i * 64 + j) b (omega arith)) (elim (dec_lt t 8) [
            | yes n ↦
                let g : b + t ≡ i * 64 + j = omega arith in
                rw (lt-ltb (i * 64 + j) (i * 64 + (q + 1) * 8) (omega arith)) (rw g at (E.at t n))
            | no n ↦ rw (le-ltb (i * 64 + j) (i * 64 + (q + 1) * 8) (omega arith)) (no_bit y 8 t E.few (omega arith))
          ])
    ]);
  }

  pub upto_all : b ≤ max (i * 64) (min (length w) (i * 64 + 64)) → min (length w) (i * 64 + 64) ≤ b → WordOf w v i x
  upto_all l m = record {
    at = λ j k. U.at j k ∙ (elim (dec_lt (i * 64 + j) (length w)) [
      | yes q ↦ rw (lt-ltb (i * 64 + j) b (omega arith), lt-ltb (i * 64 + j) (length w) q)
      | no q ↦ rw (le-ltb (i * 64 + j) (length w) (omega arith), le-ltb (i * 64 + j) b (omega arith))
    ]);
  }

-- the first n of the W words of a set
pub record Words (W : ℕ) (w : List ℕ) (v n : ℕ) (r : List ℕ) : Type 0 where
  pub size : length r ≡ W
  pub word : (i : ℕ) → i < n → WordOf w v i (get_or r i 0)

pub words_none : (W : ℕ) (w : List ℕ) (v : ℕ) (r : List ℕ) → length r ≡ W → Words W w v 0 r
words_none W w v r e = record { size = e; word = λ i k. absurd (omega arith) }

module _ (W : ℕ) (w : List ℕ) (v n : ℕ) (r : List ℕ) (S : Words W w v n r) where
  pub words_more : (x : ℕ) → n < W → WordOf w v n x → Words W w v (n + 1) (set r n x)
  words_more x k O = record {
    size = length-set r n x ∙ S.size;
    word = λ i l. elim (ℕ_discrete i n) [
      | yes q ↦ rw (q, get_or-set_same r n x 0 (omega (arith, S.size))) O
      | no d ↦ rw (get_or-set_other r n i x 0 d) (S.word i (omega arith))
    ];
  }

  pub words_all : n ≡ W → length w ≤ W * 64 → SetOf W w v r
  words_all e l = record {
    size = S.size;
    at = λ b. elim (dec_lt b (W * 64)) [
      | yes k ↦
          let q : b / 64 * 64 + b % 64 ≡ b = omega arith in
          lent_in W r 0 b k ∙ rw (zero-mul W, zero-add (b / 64)) (rw q at ((S.word (b / 64) (omega arith)).at (b % 64) (omega arith)))
      | no k ↦ lent_out W r 0 b (omega arith) ∙ rw (le-ltb b (length w) (omega arith))
    ];
  }

-- the bits of a check that are in the set, among so many that all bytes are
pub set_inside : (W : ℕ) (h : Matrix) (N c : ℕ) (w : List ℕ) (v : ℕ) (r : List ℕ) → SetOf W w v r → length w ≤ N
    → inside h N c (lent W r 0) ≡ inside h (length w) c (λ b. eqb (byte_of w b) v)
set_inside W h N c w v r S l = inside_below h N (length w) c (lent W r 0) (λ b. eqb (byte_of w b) v) l S.at
