-- Eight bytes up to 2, four bits to each, and the bits of a set that a product brings together. Assumes nothing.
use mathlib.Core.Path.{◌≡◌, refl, ap, ◌∙◌}
use mathlib.Core.Bool.{Bool}
use mathlib.Core.List.{List}
use Prim.Native.Nat.{ℕ, zero, suc, ◌+◌, ◌*◌, ◌/◌, ◌%◌, ◌^◌, ◌≤◌, ◌<◌}
use native.Mathlib.Omega.{arith}
use lib.Bits.{bit_and, and_block, and_mask}
use lib.Dec.{eqb, lit<}
use lib.Pow.{high, low}
use Rattle.parity.specs.Finite.{one, sum}
use Rattle.parity.specs.Calls.{byte_of}
use Rattle.parity.proofs.Finite.Sums.{one≤1}
use Rattle.parity.proofs.Matrix.Packing.{binary_bit, binary_lt}
use Rattle.sets.specs.Sets.{Eight, four_bytes}

-- Eight numbers, each in four bits. That of byte 0 is the lowest, then come those of bytes 4, 1, 5, 2, 6, 3 and 7.
abbrev nest : (ℕ → ℕ) → ℕ
nest p = ((((((p 7 * 16 + p 3) * 16 + p 6) * 16 + p 2) * 16 + p 5) * 16 + p 1) * 16 + p 4) * 16 + p 0

nest_cong : (p q : ℕ → ℕ) → ((t : ℕ) → t < 8 → p t ≡ q t) → nest p ≡ nest q
nest_cong p q e = rw (e 0 (lit< tt), e 1 (lit< tt), e 2 (lit< tt), e 3 (lit< tt), e 4 (lit< tt), e 5 (lit< tt), e 6 (lit< tt), e 7 (lit< tt))

-- a mask of each
masked : (m : ℕ) (p : ℕ → ℕ) → m < 16 → ((t : ℕ) → t < 8 → p t ≤ 2) → bit_and (nest p) (nest (λ t. m)) ≡ nest (λ t. bit_and (p t) m)
masked m p l s =
    by 0 (lit< tt) _ _
    ∙ ap (λ x. x * 16 + bit_and (p 0) m) (by 4 (lit< tt) _ _
    ∙ ap (λ x. x * 16 + bit_and (p 4) m) (by 1 (lit< tt) _ _
    ∙ ap (λ x. x * 16 + bit_and (p 1) m) (by 5 (lit< tt) _ _
    ∙ ap (λ x. x * 16 + bit_and (p 5) m) (by 2 (lit< tt) _ _
    ∙ ap (λ x. x * 16 + bit_and (p 2) m) (by 6 (lit< tt) _ _
    ∙ ap (λ x. x * 16 + bit_and (p 6) m) (by 3 (lit< tt) (p 7) m))))))
  where
    by : (t : ℕ) → t < 8 → (n k : ℕ) → bit_and (n * 16 + p t) (k * 16 + m) ≡ bit_and n k * 16 + bit_and (p t) m
    by t k a b = and_block 4 a b (p t) m (omega (arith, s t k)) l

-- The product with 2 ^ 24 + 2 ^ 17 + 2 ^ 10 + 2 ^ 3 brings them together: no two of its terms fall on the same bit.
module _ (q : ℕ → Bool) where
  abbrev d : ℕ → ℕ
  d t = one (q t)

  abbrev together : ℕ
  together = sum 8 (λ t. one (q t) * 2 ^ t)

  abbrev beneath : ℕ
  beneath = d 0 * 132104 + d 1 * 264192 + d 2 * 524288 + d 4 * 2113664 + d 5 * 4227072 + d 6 * 8388608

  abbrev beyond : ℕ
  beyond = d 1 + d 2 * 258 + d 3 * 66052 + d 5 * 16 + d 6 * 4128 + d 7 * 1056832

  few : beneath < 16777216
  few = omega (arith, one≤1 (q 0), one≤1 (q 1), one≤1 (q 2), one≤1 (q 4), one≤1 (q 5), one≤1 (q 6))

  ones_together : nest d * 16909320 / 16777216 % 256 ≡ together
  unfolding sum
  ones_together =
      let p : nest d * 16909320 ≡ (beyond * 256 + together) * 16777216 + beneath = omega arith in
      rw (p, high (beyond * 256 + together) 24 few) (low beyond 8 (binary_lt 8 q))

  twos_together : nest (λ t. d t * 2) * 16909320 / 33554432 % 256 ≡ together
  unfolding sum
  twos_together =
      let p : nest (λ t. d t * 2) * 16909320 ≡ (beyond * 256 + together) * 33554432 + beneath * 2 = omega arith in
      let l : beneath * 2 < 33554432 = omega (arith, few) in
      rw (p, high (beyond * 256 + together) 25 l) (low beyond 8 (binary_lt 8 q))

-- a byte's bits
pub bit_one : (v : ℕ) → v ≤ 2 → bit_and v 1 ≡ one (eqb v 1)
bit_one zero l = refl
bit_one (suc zero) l = refl
bit_one (suc (suc zero)) l = refl
bit_one (suc (suc (suc v))) l = absurd (omega arith)

bit_two : (v : ℕ) → v ≤ 2 → bit_and v 2 ≡ one (eqb v 2) * 2
bit_two zero l = refl
bit_two (suc zero) l = refl
bit_two (suc (suc zero)) l = refl
bit_two (suc (suc (suc v))) l = absurd (omega arith)

pub half : (v : ℕ) → v ≤ 2 → v / 2 ≡ one (eqb v 2)
half zero l = refl
half (suc zero) l = refl
half (suc (suc zero)) l = refl
half (suc (suc (suc v))) l = absurd (omega arith)

module _ (w : List ℕ) (b : ℕ) (small : (t : ℕ) → t < 8 → byte_of w (b + t) ≤ 2) where
  eight_is : (v y : ℕ) → y ≡ sum 8 (λ t. one (eqb (byte_of w (b + t)) v) * 2 ^ t) → Eight w v b y
  eight_is v y e = record {
    few = rw e (binary_lt 8 (λ t. eqb (byte_of w (b + t)) v));
    at = λ t l. rw e (binary_bit 8 (λ t. eqb (byte_of w (b + t)) v) t l);
  }

  in_order : four_bytes w b + four_bytes w (b + 4) * 16 ≡ nest (λ t. byte_of w (b + t))
  in_order =
      let e₀ : b + 0 ≡ b = omega arith in
      let e₁ : b + 4 + 1 ≡ b + 5 = omega arith in
      let e₂ : b + 4 + 2 ≡ b + 6 = omega arith in
      let e₃ : b + 4 + 3 ≡ b + 7 = omega arith in
      rw (e₀, e₁, e₂, e₃) (omega arith)

  pub eight_ones : Eight w 1 b (bit_and (bit_and (four_bytes w b + four_bytes w (b + 4) * 16) 286331153 * 16909320 / 16777216) 255)
  eight_ones = eight_is 1 _ (
      and_mask (bit_and (four_bytes w b + four_bytes w (b + 4) * 16) 286331153 * 16909320 / 16777216) 8
      ∙ ap (λ x. x * 16909320 / 16777216 % 256) (ap (λ x. bit_and x 286331153) in_order ∙ masked 1 (λ t. byte_of w (b + t)) (lit< tt) small ∙ nest_cong _ _ (λ t l. bit_one (byte_of w (b + t)) (small t l)))
      ∙ ones_together (λ t. eqb (byte_of w (b + t)) 1))

  pub eight_twos : Eight w 2 b (bit_and (bit_and (four_bytes w b + four_bytes w (b + 4) * 16) 572662306 * 16909320 / 33554432) 255)
  eight_twos = eight_is 2 _ (
      and_mask (bit_and (four_bytes w b + four_bytes w (b + 4) * 16) 572662306 * 16909320 / 33554432) 8
      ∙ ap (λ x. x * 16909320 / 33554432 % 256) (ap (λ x. bit_and x 572662306) in_order ∙ masked 2 (λ t. byte_of w (b + t)) (lit< tt) small ∙ nest_cong _ _ (λ t l. bit_two (byte_of w (b + t)) (small t l)))
      ∙ twos_together (λ t. eqb (byte_of w (b + t)) 2))
