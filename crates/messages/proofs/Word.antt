-- The ones of a word of a row, from the lowest on. Assumes nothing.
use mathlib.Core.Path.{◌≡◌, refl, sym, ◌∙◌}
use mathlib.Core.Bool.{Bool, true, false, and-true, and-false, true≢false}
use mathlib.Core.List.{List}
use Prim.Native.Nat.{ℕ, ◌+◌, ◌*◌, ◌-◌, ◌^◌, ◌<◌, ◌≤◌}
use native.Mathlib.Decide.{ℕ_discrete, dec_lt}
use native.Mathlib.Nat.{lt_of_le_of_lt}
use native.Mathlib.Omega.{arith}
use borrow.Author.Tests.{eq-eqb, ne_eqb}
use lib.Bits.{bit_and, and_le_l}
use lib.Count.{count_trailing_zeros}
use lib.ListN.{get_or}
use Rattle.parity.specs.Finite.{count}
use Rattle.parity.specs.Matrix.{bit_of, lent}
use Rattle.parity.proofs.Finite.Sums.{count_end}
use Rattle.parity.proofs.Matrix.Digits.{bit_zero}
use Rattle.parity.proofs.Matrix.Lent.{lent_word}
use Rattle.parity.proofs.Matrix.Ones.{Lowest, trailing_lowest}
use Rattle.parity.proofs.Matrix.Rest.{rest_bit}

-- No number from c on below e passes p.
pub record Gap (p : ℕ → Bool) (c e : ℕ) : Type 0 where
  pub least : c ≤ e
  pub none : (d : ℕ) → c ≤ d → d < e → p d ≡ false

module _ (p : ℕ → Bool) (c e : ℕ) (G : Gap p c e) where
  pub gap_count : count e p ≡ count c p
  gap_count = count_end c e p G.least G.none

  -- what passes lies before the gap
  pub gap_before : (d : ℕ) → d < e → p d ≡ true → d < c
  gap_before d k q = elim (dec_lt d c) [ yes l ↦ l | no l ↦ absurd (true≢false (sym q ∙ G.none d (omega arith) k)) ]

-- `rest` has the ones of word i of p from c on.
pub record Left (p : ℕ → Bool) (i c rest : ℕ) : Type 0 where
  pub fits : rest < 2 ^ 64
  pub low : i * 64 ≤ c
  pub top : c ≤ i * 64 + 64
  pub gone : (j : ℕ) → j < 64 → i * 64 + j < c → bit_of rest j ≡ false
  pub here : (j : ℕ) → j < 64 → c ≤ i * 64 + j → bit_of rest j ≡ p (i * 64 + j)

-- all ones of word i of row r, which has W words
pub left_all : (W : ℕ) (ws : List ℕ) (r i : ℕ) → i < W → get_or ws (r * W + i) 0 < 2 ^ 64 → Left (lent W ws r) i (i * 64) (get_or ws (r * W + i) 0)
left_all W ws r i k f = record {
  fits = f;
  low = omega arith;
  top = omega arith;
  gone = λ j l m. absurd (omega arith);
  here = λ j l m. sym (lent_word W ws r i j k l);
}

module _ (p : ℕ → Bool) (i c rest : ℕ) (S : Left p i c rest) where
  -- a number of the word by its place there
  at_place : (d : ℕ) → c ≤ d → d < i * 64 + 64 → bit_of rest (d - i * 64) ≡ p d
  at_place d k l =
      let e : i * 64 + (d - i * 64) ≡ d = omega (arith, S.low) in
      rw e at (S.here (d - i * 64) (omega (arith, S.low)) (omega (arith, S.low)))

  pub left_none : rest ≡ 0 → Gap p c (i * 64 + 64)
  left_none z = record { least = S.top; none = λ d k l. sym (at_place d k l) ∙ rw z (bit_zero (d - i * 64)) }

  -- the lowest
  module _ (t : ℕ) (L : Lowest 64 rest t) where
    least : c ≤ i * 64 + t
    least = elim (dec_lt (i * 64 + t) c) [ yes k ↦ absurd (true≢false (sym L.here ∙ S.gone t L.short k)) | no k ↦ omega arith ]

    left_gap : Gap p c (i * 64 + t)
    left_gap = record { least = least; none = λ d k l. sym (at_place d k (omega (arith, L.short))) ∙ L.none (d - i * 64) (omega (arith, S.low)) }

    left_one : p (i * 64 + t) ≡ true
    left_one = sym (S.here t L.short least) ∙ L.here

    left_next : Left p i (i * 64 + t + 1) (bit_and rest (rest - 1))
    left_next = record {
      fits = lt_of_le_of_lt (and_le_l rest (rest - 1)) S.fits;
      low = omega arith;
      top = omega (arith, L.short);
      gone = λ j k l. rest_bit 64 rest t L j ∙ elim (ℕ_discrete j t) [
        | yes q ↦ rw (q, eq-eqb t t refl, and-false)
        | no n ↦ rw (L.none j (omega arith))
      ];
      here = λ j k l. rest_bit 64 rest t L j ∙ rw (ne_eqb j t (λ q. omega arith), and-true) (S.here j k (omega (arith, least)));
    }

-- `e` is the lowest number left in word i, which goes out.
pub record Taken (p : ℕ → Bool) (i c rest e : ℕ) : Type 0 where
  pub one : p e ≡ true
  pub low : i * 64 ≤ e
  pub top : e < i * 64 + 64
  pub gap : Gap p c e
  pub next : Left p i (e + 1) (bit_and rest (rest - 1))

pub left_taken : (p : ℕ → Bool) (i c rest : ℕ) → Left p i c rest → (rest ≡ 0 → ⊥) → (e : ℕ) → e ≡ i * 64 + count_trailing_zeros 64 rest → Taken p i c rest e
left_taken p i c rest S n e q =
    let L = trailing_lowest 64 rest S.fits n in
    rw q (record {
      one = left_one p i c rest S _ L;
      low = omega arith;
      top = omega (arith, L.short);
      gap = left_gap p i c rest S _ L;
      next = left_next p i c rest S _ L;
    })
