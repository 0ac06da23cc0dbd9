-- The rules of the house codes: the Hamming checks over all lengths 2^r - 1, the circulant over all check and bit numbers. Assumes nothing.
use mathlib.Core.Path.{◌≡◌, refl, ap, ◌∙◌}
use mathlib.Core.Bool.{and-false}
use mathlib.Core.List.{List, [], ◌∷◌}
use Prim.Native.Nat.{ℕ, ◌+◌, ◌*◌, ◌-◌, ◌%◌, ◌^◌, ◌<◌}
use native.Mathlib.Omega.{arith}
use native.Mathlib.Decide.{ℕ_discrete}
use lib.Dec.{eqb}
use borrow.Author.Tests.{eq-eqb, ne_eqb, lt-ltb, le-ltb}
use Rattle.parity.specs.Finite.{one, sum}
use Rattle.parity.specs.Matrix.{Matrix, bit_of}
use Rattle.parity.specs.House.{at_offsets, offsets, circulant, hamming, code_of, hamming_code, house_code, table_word}
use Rattle.parity.specs.Sound.{Clean}
use Rattle.parity.proofs.Finite.Sums.{sum_cong}
use Rattle.parity.proofs.Matrix.Digits.{same_bits}
use Rattle.parity.proofs.Matrix.Packing.{binary_lt, binary_bit}

-- a code's matrix: its rule within its bits and checks, and nothing outside them
module _ (n m : ℕ) (rule : Matrix) where
  pub code_in : (c b : ℕ) → c < m → b < n → (code_of n m rule).matrix c b ≡ rule c b
  unfolding code_of
  code_in c b k l = rw (lt-ltb c m k, lt-ltb b n l)

  pub code_clean : Clean (code_of n m rule).matrix n m
  unfolding code_of
  code_clean = record { checks = λ c b k. rw (le-ltb c m k); bits = λ c b k. rw (le-ltb b n k, and-false) }

-- bit b of word c of a table is bit b of check c
pub table_bit : (width : ℕ) (h : Matrix) (c b : ℕ) → b < width → bit_of (table_word width h c) b ≡ h c b
unfolding table_word
table_bit width h c b l = binary_bit width (h c) b l

pub table_lt : (width : ℕ) (h : Matrix) (c : ℕ) → table_word width h c < 2 ^ width
unfolding table_word
table_lt width h c = binary_lt width (h c)

-- The Hamming rule, for every r: bit b of word c is bit c of b + 1, in words of any width;
pub hamming_rule : (r width c b : ℕ) → c < r → b < 2 ^ r - 1 → b < width → bit_of (table_word width (hamming_code r).matrix c) b ≡ bit_of (b + 1) c
unfolding hamming_code hamming
hamming_rule r width c b k l w = table_bit width (hamming_code r).matrix c b w ∙ code_in (2 ^ r - 1) r hamming c b k l

-- the column of bit b, read as a number, is b + 1: so no two bits have the same column, and none has a zero one.
digits : (r x : ℕ) → x < 2 ^ r → sum r (λ c. one (bit_of x c) * 2 ^ c) ≡ x
digits r x l = same_bits r (sum r (λ c. one (bit_of x c) * 2 ^ c)) x (binary_lt r (bit_of x)) l (binary_bit r (bit_of x))

pub hamming_column : (r b : ℕ) → b < 2 ^ r - 1 → sum r (λ c. one ((hamming_code r).matrix c b) * 2 ^ c) ≡ b + 1
unfolding hamming_code hamming
hamming_column r b l =
    sum_cong r (λ c k. ap (λ x. one x * 2 ^ c) (code_in (2 ^ r - 1) r hamming c b k l)) ∙ digits r (b + 1) (omega arith)

pub hamming_differ : (r a b : ℕ) → a < 2 ^ r - 1 → b < 2 ^ r - 1
    → ((c : ℕ) → c < r → (hamming_code r).matrix c a ≡ (hamming_code r).matrix c b) → a ≡ b
hamming_differ r a b k l f =
    let e = sum_cong r (λ c t. ap (λ x. one x * 2 ^ c) (f c t)) in
    omega (arith, hamming_column r a k, hamming_column r b l)

-- The circulant rule, for all check and bit numbers: bit b of word c is whether b is (c+e) mod 23 for an e of the list,
pub circulant_rule : (c b : ℕ) → c < 23 → b < 23 → bit_of (table_word 32 (house_code 0).matrix c) b ≡ at_offsets offsets c b
unfolding house_code circulant
circulant_rule c b k l = table_bit 32 (house_code 0).matrix c b (omega arith) ∙ code_in 23 23 circulant c b k l

-- and each check is the one before it, turned by one.
offset_one : (e c b : ℕ) → b < 23 → eqb ((c + 1 + e) % 23) ((b + 1) % 23) ≡ eqb ((c + e) % 23) b
offset_one e c b l =
    elim (ℕ_discrete ((c + e) % 23) b) [
      | yes q ↦ rw (eq-eqb ((c + e) % 23) b q, eq-eqb ((c + 1 + e) % 23) ((b + 1) % 23) (omega arith))
      | no d ↦ rw (ne_eqb ((c + e) % 23) b d, ne_eqb ((c + 1 + e) % 23) ((b + 1) % 23) (omega arith))
    ]

offsets_next : (es : List ℕ) (c b : ℕ) → b < 23 → at_offsets es (c + 1) ((b + 1) % 23) ≡ at_offsets es c b
unfolding at_offsets
offsets_next [] c b l = refl
offsets_next (e ∷ es) c b l = rw (offset_one e c b l, offsets_next es c b l)

pub circulant_next : (c b : ℕ) → b < 23 → circulant (c + 1) ((b + 1) % 23) ≡ circulant c b
unfolding circulant
circulant_next c b l = offsets_next offsets c b l
