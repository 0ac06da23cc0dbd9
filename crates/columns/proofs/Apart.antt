-- The checks that contain two of three bits, from the words of their columns. Assumes nothing.
use mathlib.Core.Path.{◌≡◌, refl, sym, ◌∙◌}
use mathlib.Core.Bool.{Bool, true, false, ◌&&◌, ◌||◌, true≢false}
use mathlib.Core.List.{List}
use Prim.Native.Nat.{ℕ, ◌+◌, ◌*◌, ◌/◌, ◌%◌, ◌^◌, ◌≤◌, ◌<◌}
use native.Mathlib.Omega.{arith}
use native.Mathlib.Decide.{dec_lt}
use lib.Bits.{bit_and, bit_or, and_lt, or_lt}
use lib.Dec.{eqb, lit<}
use lib.ListN.{get_or}
use borrow.Author.Tests.{eq-eqb, eqb-true, lt-ltb, le-ltb}
use Rattle.parity.specs.Finite.{one, count}
use Rattle.parity.specs.Matrix.{Matrix, bit_of, lent}
use Rattle.parity.specs.Cycles.{share}
use Rattle.parity.proofs.Finite.Sums.{is, is_true, is_false, sum_zero, count_pos}
use Rattle.parity.proofs.Matrix.Digits.{bit_of_and, bit_of_or, bit_zero, same_bits}
use Rattle.parity.proofs.Matrix.Lent.{lent_word}
use Rattle.rows.specs.Zeros.{Zeros}
use Rattle.columns.specs.Columns.{Columns}
use Rattle.columns.specs.Three.{in_two, two_in, two, NoneIn, Apart}

bit_in_two : (x y z i : ℕ) → bit_of (in_two x y z) i ≡ ((bit_of x i && bit_of y i) || ((bit_of x i || bit_of y i) && bit_of z i))
bit_in_two x y z i = rw (bit_of_or (bit_and x y) (bit_and (bit_or x y) z) i, bit_of_and x y i, bit_of_and (bit_or x y) z i, bit_of_or x y i)

module _ (W : ℕ) (cols : List ℕ) (x y z : ℕ) where
  -- whether check d contains two of the bits
  two_bit : (i t : ℕ) → i < W → t < 64 → bit_of (two_in W cols x y z i) t ≡ two (λ d b. lent W cols b d) x y z (i * 64 + t)
  two_bit i t k l =
      rw (lent_word W cols x i t k l, lent_word W cols y i t k l, lent_word W cols z i t k l)
      (bit_in_two (get_or cols (x * W + i) 0) (get_or cols (y * W + i) 0) (get_or cols (z * W + i) 0) t)

  module _ (machine : (i : ℕ) → get_or cols i 0 < 2 ^ 64) where
    two_lt : (i : ℕ) → two_in W cols x y z i < 2 ^ 64
    two_lt i =
        or_lt 64 _ _ (and_lt 64 (get_or cols (x * W + i) 0) (get_or cols (y * W + i) 0) (machine (x * W + i)) (machine (y * W + i)))
        (and_lt 64 (bit_or (get_or cols (x * W + i) 0) (get_or cols (y * W + i) 0)) (get_or cols (z * W + i) 0) (or_lt 64 _ _ (machine (x * W + i)) (machine (y * W + i))) (machine (z * W + i)))

    pub apart_law : (acc : ℕ) → Zeros 0 W (two_in W cols x y z) acc → Apart (W * 64) (lent W cols) x y z (eqb acc 0)
    apart_law acc Z = record {
      yes_none = λ e. record {
        none = λ d dl.
            let s : d / 64 * 64 + d % 64 ≡ d = omega arith in
            let w : two_in W cols x y z (d / 64) ≡ 0 = Z.none (eqb-true acc 0 e) (d / 64) (omega arith) (omega arith) in
            let b = two_bit (d / 64) (d % 64) (omega arith) (omega arith) in
            sym (rw s at b) ∙ rw w (bit_zero (d % 64));
      };
      none_yes = λ O. eq-eqb acc 0 (Z.back (λ i a k. same_bits 64 (two_in W cols x y z i) 0 (two_lt i) (lit< tt) (λ t l.
          two_bit i t k l ∙ O.none (i * 64 + t) (omega arith) ∙ sym (bit_zero t))));
    }

-- the columns of the first M checks say it of the matrix
module _ (N : ℕ) (h g : Matrix) (M x y z : ℕ) (C : Columns M h g) (few : M ≤ N) where
  in_columns : (d : ℕ) → d < M → two (λ d b. g b d) x y z d ≡ two h x y z d
  in_columns d l = rw (C.at x d, C.at y d, C.at z d, lt-ltb d M l)

  pub none_columns : NoneIn (λ d b. g b d) N x y z → NoneIn h M x y z
  none_columns O = record { none = λ d l. sym (in_columns d l) ∙ O.none d (omega arith) }

  pub columns_none : NoneIn h M x y z → NoneIn (λ d b. g b d) N x y z
  columns_none O = record {
    none = λ d l. elim (dec_lt d M) [
      | yes k ↦ in_columns d k ∙ O.none d k
      | no k ↦ rw (C.at x d, C.at y d, C.at z d, le-ltb d M (omega arith))
    ];
  }

pub two_false : (x y w : Bool) → (x && y) || ((x || y) && w) ≡ false → (x && y ≡ false) × (x && w ≡ false) × (y && w ≡ false)
two_false true true w e = absurd (true≢false e)
two_false true false true e = absurd (true≢false e)
two_false true false false e = (refl, refl, refl)
two_false false true true e = absurd (true≢false e)
two_false false true false e = (refl, refl, refl)
two_false false false w e = (refl, refl, refl)

pub two_none : (x y w : Bool) → x && y ≡ false → x && w ≡ false → y && w ≡ false → (x && y) || ((x || y) && w) ≡ false
two_none true true w e f g = absurd (true≢false e)
two_none true false true e f g = absurd (true≢false f)
two_none true false false e f g = refl
two_none false true true e f g = absurd (true≢false g)
two_none false true false e f g = refl
two_none false false w e f g = refl

-- so that each two of the bits share no check
module _ (h : Matrix) (M : ℕ) where
  none_share : (x y : ℕ) → ((d : ℕ) → d < M → (h d x && h d y) ≡ false) → share h M x y ≡ 0
  unfolding share count
  none_share x y f = sum_zero M {f = λ d. one (h d x && h d y)} (λ d l. rw (f d l))

  share_none : (x y : ℕ) → share h M x y ≡ 0 → (d : ℕ) → d < M → (h d x && h d y) ≡ false
  unfolding share
  share_none x y e d l = elim (is (h d x && h d y)) [ is_false f ↦ f | is_true f ↦ absurd (omega (arith, count_pos M (λ d. h d x && h d y) d l f)) ]

  module _ (x y z : ℕ) where
    pub none_shares : NoneIn h M x y z → (share h M x y ≡ 0) × (share h M x z ≡ 0) × (share h M y z ≡ 0)
    none_shares O =
        let f : (d : ℕ) → d < M → (h d x && h d y ≡ false) × (h d x && h d z ≡ false) × (h d y && h d z ≡ false) = λ d l. two_false (h d x) (h d y) (h d z) (O.none d l) in
        (none_share x y (λ d l. (f d l).0), none_share x z (λ d l. (f d l).1), none_share y z (λ d l. (f d l).2))

    pub shares_none : share h M x y ≡ 0 → share h M x z ≡ 0 → share h M y z ≡ 0 → NoneIn h M x y z
    shares_none a b c = record { none = λ d l. two_none (h d x) (h d y) (h d z) (share_none x y a d l) (share_none x z b d l) (share_none y z c d l) }
