-- The offsets of a check's erased bits in its first U words, where a row has W, and a second one of them. Assumes nothing.
use mathlib.Core.Path.{◌≡◌, refl, sym, ◌∙◌}
use mathlib.Core.Bool.{Bool, true, false, not, ◌&&◌, and-false, and-eq-true_iff, false≢true}
use mathlib.Core.List.{List}
use Prim.Native.Nat.{ℕ, ◌+◌, ◌*◌, ◌-◌, ◌^◌, ◌<◌}
use native.Mathlib.Nat.{lt_of_le_of_lt}
use native.Mathlib.Omega.{arith}
use lib.Bits.{bit_and, bit_or, and_le_l, or_lt}
use lib.Dec.{eqb}
use lib.ListN.{get_or}
use borrow.Author.Tests.{eq-eqb}
use Rattle.parity.specs.Matrix.{bit_of, lent}
use Rattle.parity.specs.Words.{inside}
use Rattle.parity.proofs.Finite.Sums.{is, is_true, is_false, count_two}
use Rattle.parity.proofs.Matrix.Digits.{bit_zero, bit_of_or}
use Rattle.parity.proofs.Matrix.Ones.{Lowest}
use Rattle.parity.proofs.Matrix.Rest.{rest_bit}
use Rattle.parity.proofs.Words.Sets.{common, common_bit}
use Rattle.search.specs.Live.{Offset, Offsets}

pub offsets_none : (W : ℕ) (ws es : List ℕ) (c : ℕ) → Offsets W 0 ws es c 0
offsets_none W ws es c = record { fits = omega arith; at = λ j k e. absurd (false≢true (sym (bit_zero j) ∙ e)) }

offset_more : (W U : ℕ) (ws es : List ℕ) (c j : ℕ) → Offset W U ws es c j → Offset W (U + 1) ws es c j
offset_more W U ws es c j O = record { word = O.word; few = omega (arith, O.few); here = O.here }

pub offsets_more : (W U : ℕ) (ws es : List ℕ) (c x : ℕ) → U < W → get_or ws (c * W + U) 0 < 2 ^ 64 → Offsets W U ws es c x → Offsets W (U + 1) ws es c (bit_or x (common W ws es c U))
offsets_more W U ws es c x k l S = record {
  fits = or_lt 64 x (common W ws es c U) S.fits (lt_of_le_of_lt (and_le_l (get_or ws (c * W + U) 0) (get_or es U 0)) l);
  at = λ j m e. elim (is (bit_of x j)) [
    | is_true p ↦ offset_more W U ws es c j (S.at j m p)
    | is_false p ↦ record { word = U; few = omega arith; here = sym (common_bit W ws es c U j k m) ∙ (rw p at (sym (bit_of_or x (common W ws es c U) j) ∙ e)) }
  ];
}

-- an erased bit whose offset is none of those of x
pub record Earlier (W U : ℕ) (ws es : List ℕ) (c x : ℕ) : Type 0 where
  pub place : ℕ
  pub short : place < 64
  pub here : Offset W U ws es c place
  pub gone : bit_of x place ≡ false

-- the offsets that are left, and whether one was seen before
pub record Rest (W U : ℕ) (ws es : List ℕ) (c : ℕ) (seen : Bool) (x : ℕ) : Type 0 where
  pub left : Offsets W U ws es c x
  pub first : seen ≡ true → Earlier W U ws es c x

pub rest_start : (W U : ℕ) (ws es : List ℕ) (c x : ℕ) → Offsets W U ws es c x → Rest W U ws es c false x
rest_start W U ws es c x S = record { left = S; first = λ e. absurd (false≢true e) }

module _ (W U : ℕ) (ws es : List ℕ) (c : ℕ) (seen : Bool) (x : ℕ) (R : Rest W U ws es c seen x) (t : ℕ) (L : Lowest 64 x t) where
  -- the first
  pub rest_next : Rest W U ws es c true (bit_and x (x - 1))
  rest_next = record {
    left = record {
      fits = lt_of_le_of_lt (and_le_l x (x - 1)) R.left.fits;
      at = λ j k e. R.left.at j k ((and-eq-true_iff (bit_of x j) (not (eqb j t))).0 (sym (rest_bit 64 x t L j) ∙ e)).0;
    };
    first = λ e. record { place = t; short = L.short; here = R.left.at t L.short L.here; gone = rest_bit 64 x t L t ∙ rw (eq-eqb t t refl) (and-false (bit_of x t)) };
  }

  -- a second one
  pub rest_second : seen ≡ true → inside (lent W ws) (U * 64) c (lent W es 0) ≡ 1 → ⊥
  unfolding inside
  rest_second s e =
      let f = R.first s in
      let a = f.here in
      let b = R.left.at t L.short L.here in
      let apart : f.place ≡ t → ⊥ = λ q. false≢true (sym f.gone ∙ rw q L.here) in
      omega (arith, count_two (U * 64) (λ i. lent W ws c i && lent W es 0 i) (a.word * 64 + f.place) (b.word * 64 + t) (omega (arith, a.few, f.short)) (omega (arith, b.few, L.short)) (λ q. apart (omega (arith, f.short, L.short))) a.here b.here)
