-- The search for the next one of a row of W words, word by word. Assumes nothing.
use mathlib.Core.Path.{◌≡◌, sym, ap, ◌∙◌}
use mathlib.Core.Bool.{Bool, false, not, ◌&&◌, and-true, and-eq-true_iff}
use mathlib.Core.List.{List}
use Prim.Native.Nat.{ℕ, ◌+◌, ◌*◌, ◌-◌, ◌/◌, ◌%◌, ◌^◌, ◌≤◌, ◌<◌}
use native.Mathlib.Nat.{lt_of_le_of_lt}
use native.Mathlib.Decide.{dec_lt}
use native.Mathlib.Omega.{arith}
use lib.Bits.{bit_and}
use lib.Dec.{ltb}
use lib.ListN.{get_or}
use lib.Pow.{pow-lt}
use borrow.Author.Tests.{lt-ltb, le-ltb, ltb-false, not-true}
use Rattle.parity.specs.Matrix.{bit_of, lent}
use Rattle.parity.proofs.Matrix.Digits.{one_shl, bit_of_and, bit_not, bit_mask, bit_zero}
use Rattle.parity.proofs.Matrix.Lent.{lent_word}
use Rattle.parity.proofs.Matrix.Ones.{Lowest}
use Rattle.rows.specs.Rows.{NextOne}

-- the row contains no bit from `from` on up to `to`
pub record Clear (row : ℕ → Bool) (from to : ℕ) : Type 0 where
  pub none : (b : ℕ) → from ≤ b → b < to → row b ≡ false

pub clear_none : (row : ℕ → Bool) (from to : ℕ) → to ≤ from → Clear row from to
clear_none row from to k = record { none = λ b l m. absurd (omega arith) }

-- nothing is left to search
pub next_top : (T : ℕ) (row : ℕ → Bool) (from : ℕ) → from ≤ T → Clear row from T → NextOne T row from T
next_top T row from k C = record { least = k; top = omega arith; none = C.none; found = λ l. absurd (omega arith) }

-- the next one lies in later words
pub next_later : (T : ℕ) (row : ℕ → Bool) (from to r : ℕ) → from ≤ to → Clear row from to → NextOne T row to r → NextOne T row from r
next_later T row from to r k C N = record {
  least = omega (arith, N.least);
  top = N.top;
  none = λ b l m. elim (dec_lt b to) [ yes q ↦ C.none b l q | no q ↦ N.none b (omega arith) m ];
  found = N.found;
}

-- x has the bits of word i of row c that are at `from` or above.
pub record From (W : ℕ) (ws : List ℕ) (c i from x : ℕ) : Type 0 where
  pub at : (j : ℕ) → j < 64 → bit_of x j ≡ (bit_of (get_or ws (c * W + i) 0) j && not (ltb (i * 64 + j) from))

-- the whole word
pub from_all : (W : ℕ) (ws : List ℕ) (c i from : ℕ) → from ≤ i * 64 → From W ws c i from (get_or ws (c * W + i) 0)
from_all W ws c i from k = record { at = λ j l. rw (le-ltb (i * 64 + j) from (omega arith), and-true) }

-- the word with its bits below `from` masked, as the machine's x & !((1 << r) - 1) gives it
pub from_mask : (W : ℕ) (ws : List ℕ) (c from : ℕ)
    → From W ws c (from / 64) from (bit_and (get_or ws (c * W + from / 64) 0) (2 ^ 64 - 1 - (1 * 2 ^ (from % 64) % 2 ^ 64 - 1)))
from_mask W ws c from = rw (one_shl (from % 64) (omega arith)) (record {
  at = λ j l.
      let s : 2 ^ (from % 64) - 1 < 2 ^ 64 = lt_of_le_of_lt (omega arith) (pow-lt {i = from % 64} {j = 64} (omega arith)) in
      bit_of_and (get_or ws (c * W + from / 64) 0) (2 ^ 64 - 1 - (2 ^ (from % 64) - 1)) j
      ∙ rw (bit_not 64 (2 ^ (from % 64) - 1) j l s, bit_mask (from % 64) j) (elim (dec_lt j (from % 64)) [
        | yes q ↦ rw (lt-ltb j (from % 64) q, lt-ltb (from / 64 * 64 + j) from (omega arith))
        | no q ↦ rw (le-ltb j (from % 64) (omega arith), le-ltb (from / 64 * 64 + j) from (omega arith))
      ]);
})

module _ (W : ℕ) (ws : List ℕ) (c i from x : ℕ) (k : i < W) (F : From W ws c i from x) (C : Clear (lent W ws c) from (i * 64)) where
  -- a bit of the row that x does not have
  missing : (j : ℕ) → j < 64 → from ≤ i * 64 + j → bit_of x j ≡ false → lent W ws c (i * 64 + j) ≡ false
  missing j l m e = lent_word W ws c i j k l ∙ sym (sym e ∙ F.at j l ∙ rw (le-ltb (i * 64 + j) from m, and-true))

  -- up to bit t of the word there is none
  clear_to : (t : ℕ) → t ≤ 64 → ((j : ℕ) → j < t → bit_of x j ≡ false) → (b : ℕ) → from ≤ b → b < i * 64 + t → lent W ws c b ≡ false
  clear_to t s n b l m =
      elim (dec_lt b (i * 64)) [
        | yes q ↦ C.none b l q
        | no q ↦
            let e : b ≡ i * 64 + (b - i * 64) = omega arith in
            ap (lent W ws c) e ∙ missing (b - i * 64) (omega arith) (omega arith) (n (b - i * 64) (omega arith))
      ]

  pub clear_word : x ≡ 0 → Clear (lent W ws c) from ((i + 1) * 64)
  clear_word e = record { none = λ b l m. clear_to 64 (omega arith) (λ j q. rw e (bit_zero j)) b l (omega arith) }

  -- the lowest one of x is the next one
  pub next_here : (t : ℕ) → Lowest 64 x t → NextOne (W * 64) (lent W ws c) from (i * 64 + t)
  next_here t L =
      let e = sym (F.at t L.short) ∙ L.here in
      let (p, q) = (and-eq-true_iff (bit_of (get_or ws (c * W + i) 0) t) (not (ltb (i * 64 + t) from))).0 e in record {
        least = ltb-false (i * 64 + t) from (not-true (ltb (i * 64 + t) from) q);
        top = omega (arith, L.short);
        none = clear_to t (omega (arith, L.short)) L.none;
        found = λ m. lent_word W ws c i t k L.short ∙ p;
      }
