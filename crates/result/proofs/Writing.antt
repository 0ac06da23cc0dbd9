-- The bytes of recovered bits, word by word of their set, over the number W of words. Assumes nothing.
use mathlib.Core.Path.{◌≡◌, refl, sym, ap, ◌∙◌}
use mathlib.Core.Bool.{Bool, true, false, not, cond, ◌&&◌, and-true, and-false, and-eq-true_iff, true≢false}
use mathlib.Core.List.{List}
use Prim.Native.Nat.{ℕ, ◌+◌, ◌*◌, ◌-◌, ◌/◌, ◌^◌, ◌≤◌, ◌<◌}
use native.Mathlib.Nat.{zero-add, zero-mul, lt_of_le_of_lt}
use native.Mathlib.Omega.{arith}
use native.Mathlib.Decide.{ℕ_discrete, dec_lt}
use lib.Bits.{bit_and, and_le_l}
use lib.Dec.{eqb}
use lib.ListN.{length, get_or, set, length-set}
use lib.Seq.{ext_get_or, get_or-set_same, get_or-set_other}
use borrow.Author.Tests.{eq-eqb, ne_eqb}
use Rattle.parity.specs.Finite.{one, list_from}
use Rattle.parity.specs.Matrix.{bit_of, lent}
use Rattle.parity.specs.Calls.{byte_of}
use Rattle.parity.proofs.Matrix.Digits.{bit_zero, bit_of_and, bit_not}
use Rattle.parity.proofs.Matrix.Lent.{lent_word, lent_out}
use Rattle.parity.proofs.Matrix.Ones.{Lowest}
use Rattle.parity.proofs.Finite.Lists.{length_list_from, at_list_from}
use Rattle.parity.proofs.Matrix.Rest.{rest_bit}
use Rattle.sets.specs.Sets.{Short}
use Rattle.result.specs.Result.{filled, Reaching, WordWritten}

-- Of the bits that x, word i of a set, has, those that are not in rest have got their bytes.
pub record Writing (i x rest : ℕ) (o : ℕ → Bool) (w w' : List ℕ) : Type 0 where
  pub fits : rest < 2 ^ 64
  pub size : length w' ≡ length w
  pub part : (j : ℕ) → j < 64 → bit_of rest j ≡ true → bit_of x j ≡ true
  pub here : (j : ℕ) → j < 64 → byte_of w' (i * 64 + j) ≡ cond (bit_of x j && not (bit_of rest j)) (one (o (i * 64 + j))) (byte_of w (i * 64 + j))
  pub other : (b : ℕ) → (b / 64 ≡ i → ⊥) → byte_of w' b ≡ byte_of w b

pub writing_none : (i x : ℕ) (o : ℕ → Bool) (w : List ℕ) → x < 2 ^ 64 → Writing i x x o w w
writing_none i x o w l = record {
  fits = l;
  size = refl;
  part = λ j k e. e;
  here = λ j k. rw (never (bit_of x j));
  other = λ b d. refl;
}
  where
    never : (b : Bool) → (b && not b) ≡ false
    never true = refl
    never false = refl

module _ (i x rest : ℕ) (o : ℕ → Bool) (w w' : List ℕ) (S : Writing i x rest o w w') where
  pub writing_all : rest ≡ 0 → WordWritten i x o w w'
  writing_all e = record {
    size = S.size;
    here = λ j k. S.here j k ∙ rw (e, bit_zero j, and-true);
    other = S.other;
  }

  module _ (t : ℕ) (L : Lowest 64 rest t) where
    -- the bit is one of the word
    pub writing_place : Reaching (length w) i x → i * 64 + t < length w
    writing_place R = R.below t L.short (S.part t L.short L.here)

    pub writing_next : (v : ℕ) → i * 64 + t < length w → v ≡ one (o (i * 64 + t)) → Writing i x (bit_and rest (rest - 1)) o w (set w' (i * 64 + t) v)
    writing_next v k e = record {
      fits = lt_of_le_of_lt (and_le_l rest (rest - 1)) S.fits;
      size = length-set w' (i * 64 + t) v ∙ S.size;
      part = λ j l p. S.part j l ((and-eq-true_iff (bit_of rest j) (not (eqb j t))).0 (sym (rest_bit 64 rest t L j) ∙ p)).0;
      here = λ j l. rw (rest_bit 64 rest t L j) (elim (ℕ_discrete j t) [
        | yes q ↦ rw (q, eq-eqb t t refl, and-false, S.part t L.short L.here, get_or-set_same w' (i * 64 + t) v 0 (omega (arith, S.size))) e
        | no d ↦ rw (ne_eqb j t d, and-true, get_or-set_other w' (i * 64 + t) (i * 64 + j) v 0 (λ q. d (omega arith))) (S.here j l)
      ]);
      other = λ b d. get_or-set_other w' (i * 64 + t) b v 0 (λ q. d (omega (arith, L.short))) ∙ S.other b d;
    }

-- The first i words' bits are filled.
pub record Filling (s e o : ℕ → Bool) (i : ℕ) (w w' : List ℕ) : Type 0 where
  pub size : length w' ≡ length w
  pub past : (b : ℕ) → b < i * 64 → byte_of w' b ≡ filled s e o (byte_of w) b
  pub later : (b : ℕ) → i * 64 ≤ b → byte_of w' b ≡ byte_of w b

pub filling_none : (s e o : ℕ → Bool) (w : List ℕ) → Filling s e o 0 w w
filling_none s e o w = record { size = refl; past = λ b k. absurd (omega arith); later = λ b k. refl }

-- what a mask y leaves of word i of a set has no bit from N on either
pub masked_below : (W : ℕ) (ls : List ℕ) (i y N : ℕ) → i < W → Short N (lent W ls 0) → Reaching N i (bit_and (get_or ls i 0) y)
masked_below W ls i y N k S = record {
  below = λ j l e. elim (dec_lt (i * 64 + j) N) [
    | yes q ↦ q
    | no q ↦
        let p = ((and-eq-true_iff (bit_of (get_or ls i 0) j) (bit_of y j)).0 (sym (bit_of_and (get_or ls i 0) y j) ∙ e)).0 in
        let r : lent W ls 0 (i * 64 + j) ≡ true = rw (lent_word W ls 0 i j k l, zero-mul W, zero-add i) p in
        absurd (true≢false (sym r ∙ S.none (i * 64 + j) (omega arith)))
  ];
}

-- word i of the bits that were lost, ls, and are not erased, es
abbrev pub found : List ℕ → List ℕ → ℕ → ℕ
found ls es i = bit_and (get_or ls i 0) (2 ^ 64 - 1 - get_or es i 0)

module _ (W : ℕ) (ls es : List ℕ) (i : ℕ) (k : i < W) (few : get_or es i 0 < 2 ^ 64) where
  found_bit : (j : ℕ) → j < 64 → bit_of (found ls es i) j ≡ (lent W ls 0 (i * 64 + j) && not (lent W es 0 (i * 64 + j)))
  found_bit j l =
      bit_of_and (get_or ls i 0) (2 ^ 64 - 1 - get_or es i 0) j
      ∙ rw (bit_not 64 (get_or es i 0) j l few, lent_word W ls 0 i j k l, lent_word W es 0 i j k l, zero-mul W, zero-add i)

  module _ (o : ℕ → Bool) (w₀ w w' : List ℕ) (F : Filling (lent W ls 0) (lent W es 0) o i w₀ w) (R : WordWritten i (found ls es i) o w w') where
    pub filling_next : Filling (lent W ls 0) (lent W es 0) o (i + 1) w₀ w'
    filling_next = record {
      size = R.size ∙ F.size;
      past = λ b l. elim (dec_lt b (i * 64)) [
        | yes q ↦ R.other b (λ r. omega arith) ∙ F.past b q
        | no q ↦
            let t : i * 64 + (b - i * 64) ≡ b = omega arith in
            let u : b - i * 64 < 64 = omega arith in
            rw (found_bit (b - i * 64) u, t, F.later b (omega arith)) at (R.here (b - i * 64) u)
      ];
      later = λ b l. R.other b (λ r. omega arith) ∙ F.later b (omega arith);
    }

pub filling_all : (W : ℕ) (ls : List ℕ) (e o : ℕ → Bool) (i : ℕ) (w w' : List ℕ) → i ≡ W → Filling (lent W ls 0) e o i w w' → w' ≡ list_from 0 (length w) (filled (lent W ls 0) e o (byte_of w))
filling_all W ls e o i w w' q F =
    let f : ℕ → ℕ = filled (lent W ls 0) e o (byte_of w) in
    ext_get_or 0 w' (list_from 0 (length w) f) (F.size ∙ sym (length_list_from 0 (length w) f)) (λ b k.
    let l : b < length w = omega (arith, F.size) in
    at b ∙ ap f (sym (zero-add b)) ∙ sym (at_list_from 0 (length w) f b l))
  where
    at : (b : ℕ) → byte_of w' b ≡ filled (lent W ls 0) e o (byte_of w) b
    at b = elim (dec_lt b (i * 64)) [ yes k ↦ F.past b k | no k ↦ F.later b (omega arith) ∙ rw (lent_out W ls 0 b (omega arith)) ]
