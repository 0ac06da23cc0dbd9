-- The erased bits that the scan of a check has seen in its first U words, where a row has W. Assumes nothing.
use mathlib.Core.Path.{◌≡◌, sym, ◌∙◌}
use mathlib.Core.Bool.{Bool, true, false, not, cond, ◌&&◌, and-true, and-eq-true_iff, false≢true}
use mathlib.Core.List.{List}
use Prim.Native.Nat.{ℕ, ◌+◌, ◌*◌, ◌-◌, ◌^◌, ◌≤◌, ◌<◌}
use native.Mathlib.Nat.{lt_of_le_of_lt}
use native.Mathlib.Omega.{arith}
use native.Mathlib.Decide.{ℕ_discrete, dec_lt}
use lib.Bits.{bit_and, and_le_l}
use lib.Dec.{eqb}
use lib.ListN.{get_or}
use borrow.Author.Tests.{eq-eqb, ne_eqb}
use Rattle.parity.specs.Finite.{one, count}
use Rattle.parity.specs.Matrix.{bit_of, lent}
use Rattle.parity.specs.Words.{inside}
use Rattle.parity.proofs.Finite.Sums.{sum_cong, sum_zero, sum_at, count_two}
use Rattle.parity.proofs.Matrix.Digits.{bit_zero}
use Rattle.parity.proofs.Matrix.Ones.{Lowest}
use Rattle.parity.proofs.Matrix.Rest.{rest_bit}
use Rattle.parity.proofs.Words.Sets.{common, common_bit}
use Rattle.search.specs.Next.{Lone}

-- bit b is an erased bit of check c
abbrev pub hole : ℕ → List ℕ → List ℕ → ℕ → ℕ → Bool
hole W ws es c b = lent W ws c b && lent W es 0 b

-- Of the check's first i words at most one erased bit was seen: at, or none where at is U * 64.
pub record Row (W U : ℕ) (ws es : List ℕ) (c at i : ℕ) : Type 0 where
  pub top : at ≤ U * 64
  pub here : at < U * 64 → hole W ws es c at ≡ true
  pub past : at < U * 64 → at < i * 64
  pub none : (b : ℕ) → b < i * 64 → (b ≡ at → ⊥) → hole W ws es c b ≡ false

-- Of word i, those that are not in x were seen too.
pub record Bits (W U : ℕ) (ws es : List ℕ) (c at i x : ℕ) : Type 0 where
  pub fits : x < 2 ^ 64
  pub top : at ≤ U * 64
  pub here : at < U * 64 → hole W ws es c at ≡ true
  pub past : at < U * 64 → at < (i + 1) * 64
  pub part : (j : ℕ) → j < 64 → bit_of x j ≡ true → hole W ws es c (i * 64 + j) ≡ true
  pub fresh : at < U * 64 → (j : ℕ) → j < 64 → bit_of x j ≡ true → at ≡ i * 64 + j → ⊥
  pub none : (b : ℕ) → b < i * 64 → (b ≡ at → ⊥) → hole W ws es c b ≡ false
  pub word : (j : ℕ) → j < 64 → (i * 64 + j ≡ at → ⊥) → bit_of x j ≡ false → hole W ws es c (i * 64 + j) ≡ false

pub row_start : (W U : ℕ) (ws es : List ℕ) (c : ℕ) → Row W U ws es c (U * 64) 0
row_start W U ws es c = record { top = omega arith; here = λ k. absurd (omega arith); past = λ k. absurd (omega arith); none = λ b k d. absurd (omega arith) }

module _ (W U : ℕ) (ws es : List ℕ) (c at i : ℕ) (k : i < U) (room : U ≤ W) where
  pub bits_start : Row W U ws es c at i → get_or ws (c * W + i) 0 < 2 ^ 64 → Bits W U ws es c at i (common W ws es c i)
  bits_start R l = record {
    fits = lt_of_le_of_lt (and_le_l (get_or ws (c * W + i) 0) (get_or es i 0)) l;
    top = R.top;
    here = R.here;
    past = λ m. omega (arith, R.past m);
    part = λ j m e. sym (common_bit W ws es c i j (omega arith) m) ∙ e;
    fresh = λ m j n e q. omega (arith, R.past m);
    none = R.none;
    word = λ j m d e. sym (common_bit W ws es c i j (omega arith) m) ∙ e;
  }

  module _ (x : ℕ) (B : Bits W U ws es c at i x) where
    -- nothing is left of the word
    pub bits_end : x ≡ 0 → Row W U ws es c at (i + 1)
    bits_end e = record {
      top = B.top;
      here = B.here;
      past = B.past;
      none = λ b l d. elim (dec_lt b (i * 64)) [
        | yes m ↦ B.none b m d
        | no m ↦
            let q : i * 64 + (b - i * 64) ≡ b = omega arith in
            rw q at (B.word (b - i * 64) (omega arith) (rw q d) (rw e (bit_zero (b - i * 64))))
      ];
    }

    module _ (t : ℕ) (L : Lowest 64 x t) where
      -- the first erased bit of the check
      pub bits_first : (at < U * 64 → ⊥) → Bits W U ws es c (i * 64 + t) i (bit_and x (x - 1))
      bits_first n =
          let s = L.short in
          record {
            fits = lt_of_le_of_lt (and_le_l x (x - 1)) B.fits;
            top = omega arith;
            here = λ m. B.part t s L.here;
            past = λ m. omega arith;
            part = λ j m e. B.part j m ((and-eq-true_iff (bit_of x j) (not (eqb j t))).0 (sym (rest_bit 64 x t L j) ∙ e)).0;
            fresh = λ l j m e q. kept j m e (omega arith);
            none = λ b m d. B.none b m (λ q. n (omega arith));
            word = λ j m d e.
                B.word j m (λ q. n (omega arith))
                (sym (rest_bit 64 x t L j ∙ rw (ne_eqb j t (λ q. d (rw q)), and-true)) ∙ e);
          }
        where
          kept : (j : ℕ) → j < 64 → bit_of (bit_and x (x - 1)) j ≡ true → j ≡ t → ⊥
          kept j m e q =
              let (p, r) = (and-eq-true_iff (bit_of x j) (not (eqb j t))).0 (sym (rest_bit 64 x t L j) ∙ e) in
              false≢true (rw (eq-eqb j t q) at r)

      -- a second one
      pub bits_second : at < U * 64 → inside (lent W ws) (U * 64) c (lent W es 0) ≡ 1 → ⊥
      unfolding inside
      bits_second l e =
          omega (arith, count_two (U * 64) (hole W ws es c) at (i * 64 + t) l (omega (arith, L.short)) (B.fresh l t L.short L.here) (B.here l) (B.part t L.short L.here))

-- the whole check
module _ (W U : ℕ) (ws es : List ℕ) (c at i : ℕ) (e : i ≡ U) (R : Row W U ws es c at i) where
  row_one : at < U * 64 → inside (lent W ws) (U * 64) c (lent W es 0) ≡ 1
  unfolding inside count
  row_one l =
      sum_cong (U * 64) {f = λ b. one (hole W ws es c b)} {g = λ b. cond (eqb b at) 1 0} (λ b k. elim (ℕ_discrete b at) [
        | yes q ↦ rw (eq-eqb b at q, q, R.here l)
        | no d ↦ rw (ne_eqb b at d, R.none b (omega arith) d)
      ]) ∙ sum_at (U * 64) at 1 l

  pub row_lone : (M : ℕ) → c < M → at < U * 64 → Lone (lent W ws) (U * 64) M (lent W es 0) c at
  row_lone M m l =
      let (p, q) = (and-eq-true_iff (lent W ws c at) (lent W es 0 at)).0 (R.here l) in
      record { check = m; bit = l; has = p; gone = q; only = row_one l }

  pub row_zero : (at < U * 64 → ⊥) → inside (lent W ws) (U * 64) c (lent W es 0) ≡ 0
  unfolding inside count
  row_zero n = sum_zero (U * 64) {f = λ b. one (hole W ws es c b)} (λ b k. rw (R.none b (omega arith) (λ r. n (omega arith))))
