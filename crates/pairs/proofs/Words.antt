-- The lowest and the highest bit that two rows have in common, word by word. Assumes nothing.
use mathlib.Core.Path.{◌≡◌, sym, ap, ◌∙◌}
use mathlib.Core.Bool.{Bool, true, false}
use Rattle.std.specs.Prelude.{Some, None, unwrap_or}
use mathlib.Core.List.{List, [], ◌∷◌}
use Prim.Native.Nat.{ℕ, suc, ◌+◌, ◌*◌, ◌-◌, ◌^◌, ◌≤◌, ◌<◌}
use native.Mathlib.Decide.{dec_lt}
use native.Mathlib.Omega.{arith}
use lib.Count.{count_leading_zeros, leading_top}
use lib.ListN.{get_or}
use Rattle.parity.specs.Finite.{any, greatest, first, outermost}
use Rattle.parity.specs.Matrix.{bit_of}
use Rattle.parity.proofs.Finite.Sums.{is_true, is_false, is, any_of}
use Rattle.parity.proofs.Finite.Firsts.{any_none, least_is}
use Rattle.parity.proofs.Finite.Positions.{first_some, first_none}
use Rattle.parity.proofs.Finite.Outermost.{greatest_is, outermost_none, outermost_both}
use Rattle.parity.proofs.Matrix.Clean.{no_bit, no_bits}
use Rattle.parity.proofs.Matrix.Digits.{bit_of_and, bit_zero}
use Rattle.parity.proofs.Matrix.Lent.{lent_word}
use Rattle.parity.proofs.Matrix.Ones.{Lowest}
use Rattle.rows.specs.Zeros.{both}
use Rattle.rows.proofs.Next.{Clear}
use Rattle.pairs.specs.Rows.{in_both, last}

-- t is the highest one of the word x
pub record Highest (x t : ℕ) : Type 0 where
  pub here : bit_of x t ≡ true
  pub none : (i : ℕ) → t < i → bit_of x i ≡ false

-- the machine's leading_zeros stand above it
pub leading_highest : (k x : ℕ) → x < 2 ^ k → (x ≡ 0 → ⊥) → (t : ℕ) → count_leading_zeros k x + suc t ≡ k → Highest x t
leading_highest k x l n t e =
    let (j, f, low, high) = leading_top k x (omega arith) l in
    let s : t ≡ j = omega arith in
    rw s record {
      here = elim (is (bit_of x j)) [
        | is_true q ↦ q
        | is_false q ↦ absurd (omega (arith, no_bits (suc j) j x (omega arith) high (λ b a m. let r : b ≡ j = omega arith in rw r q)))
      ];
      none = λ i m. no_bit x (suc j) i high (omega arith);
    }

-- nothing is left to search
pub none_in : (T : ℕ) (set : ℕ → Bool) → Clear set 0 T → any T set ≡ false
none_in T set C = any_none T set (λ b l. C.none b (omega arith) l)

-- x is what word p of both rows have in common
module _ (W : ℕ) (a : List ℕ) (i : ℕ) (b : List ℕ) (j p : ℕ) (k : p < W) (x : ℕ) (same : x ≡ both W a i b j p) where
  abbrev set : ℕ → Bool
  set = in_both W a i b j

  -- word p of both rows has their common bits from 64 p on
  common_word : (t : ℕ) → t < 64 → set (p * 64 + t) ≡ bit_of x t
  unfolding both
  common_word t l = rw (lent_word W a i p t k l, lent_word W b j p t k l, same) (sym (bit_of_and (get_or a (i * W + p) 0) (get_or b (j * W + p) 0) t))

  common_at : (c : ℕ) → p * 64 ≤ c → c < p * 64 + 64 → set c ≡ bit_of x (c - p * 64)
  common_at c l m = let e : c ≡ p * 64 + (c - p * 64) = omega arith in ap set e ∙ common_word (c - p * 64) (omega arith)

  clear_word : x ≡ 0 → (c : ℕ) → p * 64 ≤ c → c < p * 64 + 64 → set c ≡ false
  clear_word e c l m = common_at c l m ∙ rw e (bit_zero (c - p * 64))

  pub clear_up : x ≡ 0 → Clear set 0 (p * 64) → Clear set 0 ((p + 1) * 64)
  clear_up e C = record { none = λ c l m. elim (dec_lt c (p * 64)) [ yes q ↦ C.none c l q | no q ↦ clear_word e c (omega arith) (omega arith) ] }

  pub clear_down : x ≡ 0 → Clear set ((p + 1) * 64) (W * 64) → Clear set (p * 64) (W * 64)
  clear_down e C = record { none = λ c l m. elim (dec_lt c ((p + 1) * 64)) [ yes q ↦ clear_word e c l (omega arith) | no q ↦ C.none c (omega arith) m ] }

  -- the lowest one of the first word that is not zero
  pub least_here : (t : ℕ) → Lowest 64 x t → Clear set 0 (p * 64) → Some (p * 64 + t) ≡ first (W * 64) set
  least_here t L C = let s = L.short in
      let e = common_word t s ∙ L.here in
      rw (
        any_of (W * 64) set (p * 64 + t) (omega arith) e,
        least_is (W * 64) set (p * 64 + t) (omega arith) e
            (λ c m. elim (dec_lt c (p * 64)) [
              | yes q ↦ C.none c (omega arith) q
              | no q ↦ common_at c (omega arith) (omega arith) ∙ L.none (c - p * 64) (omega arith)
            ]),
      )

  -- the highest one of the last word that is not zero
  pub greatest_here : (t : ℕ) → t < 64 → Highest x t → Clear set ((p + 1) * 64) (W * 64) → Some (p * 64 + t) ≡ last (W * 64) set
  greatest_here t s H C =
      let e = common_word t s ∙ H.here in
      rw (
        any_of (W * 64) set (p * 64 + t) (omega arith) e,
        greatest_is (W * 64) set (p * 64 + t) (omega arith) e
            (λ c l m. elim (dec_lt c ((p + 1) * 64)) [
              | yes q ↦ common_at c (omega arith) (omega arith) ∙ H.none (c - p * 64) (omega arith)
              | no q ↦ C.none c (omega arith) m
            ]),
      )

-- none of either, or both
pub none_held : (T : ℕ) (set : ℕ → Bool) → None ≡ first T set → [] ≡ outermost T set
none_held T set e = sym (outermost_none T set (first_none T set e))

pub both_held : (T : ℕ) (set : ℕ → Bool) (low high : ℕ) → Some low ≡ first T set → Some high ≡ last T set → low ∷ high ∷ [] ≡ outermost T set
both_held T set low high e f =
    let (a, l) = first_some T set low e in
    let h : high ≡ greatest T set = ap (λ o. unwrap_or o high) (rw a at f) in
    rw (outermost_both T set a, l, h)
