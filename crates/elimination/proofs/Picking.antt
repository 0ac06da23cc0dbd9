-- The two rows, an empty one and a check, of which a bit picks one. Assumes nothing.
use mathlib.Core.Path.{◌≡◌, refl, sym, ◌∙◌, fun_ext}
use mathlib.Core.Bool.{Bool, false}
use mathlib.Core.List.{List}
use Prim.Native.Nat.{ℕ, zero, suc, ◌*◌, ◌/◌, ◌≤◌, ◌<◌}
use native.Mathlib.Nat.{zero-mul, zero-add, one-mul}
use native.Mathlib.Omega.{arith}
use native.Mathlib.Decide.{dec_lt}
use lib.Dec.{eqb}
use lib.ListN.{replicate, length-replicate}
use Rattle.parity.specs.Matrix.{lent}
use Rattle.parity.proofs.Matrix.Lent.{lent_in, lent_out, lent_empty}
use Rattle.rows.specs.Whole.{Written, word_from}
use Rattle.rows.proofs.Writing.{word_in, row_others, copied_row}
use Rattle.elimination.specs.Reduction.{when, cleared, around}
use Rattle.elimination.specs.Rows.{Blank, RowOf}
use Rattle.elimination.proofs.Clearing.{around_back}

-- an empty row and then that of check c
pub row_written : (W : ℕ) (ws u : List ℕ) (c : ℕ) → Written (replicate 16 0) u W (word_from ws (c * W)) W → RowOf W ws c u
row_written W ws u c A = record {
  blank = record { size = A.long ∙ length-replicate {A = ℕ} 16 0; none = none };
  bits = fun_ext (λ b. elim (dec_lt b (W * 64)) [
    | yes k ↦ rw (lent_in W u 1 b k, lent_in W ws c b k, one-mul W, A.done (b / 64) (word_in W b k))
    | no k ↦ let l : W * 64 ≤ b = omega arith in rw (lent_out W u 1 b l, lent_out W ws c b l)
  ]);
}
  where
    none : (b : ℕ) → lent W u 0 b ≡ false
    none b = elim (dec_lt b (W * 64)) [
      | yes k ↦ rw (lent_in W u 0 b k, zero-mul W, zero-add (b / 64), A.else (b / 64) (λ j l e. omega (arith, word_in W b k)))
          (sym (rw (zero-mul W, zero-add (b / 64)) at (lent_in W (replicate 16 0) 0 b k)) ∙ lent_empty W 16 (replicate 16 0) refl 0 b)
      | no k ↦ lent_out W u 0 b (omega arith)
    ]

-- check r put back after clearing, from the row that was copied of it
pub row_back : (W first m r b : ℕ) (ws vs us row : List ℕ) → RowOf W ws r row → lent W vs ≡ cleared (lent W row 1) b first m (lent W ws) → Written vs us (r * W) (word_from row W) W
    → lent W us ≡ around first m r b (lent W ws)
row_back W first m r b ws vs us row R C A = around_back (lent W ws) first m r b (lent W us) own (λ c j d. row_others W r W (omega arith) vs us _ A c j d ∙ rw (C, R.bits))
  where
    own : (j : ℕ) → lent W us r j ≡ lent W ws r j
    own j = elim (dec_lt j (W * 64)) [
      | yes k ↦ copied_row W W (omega arith) row vs us 1 r (rw (one-mul W) A) j k ∙ rw R.bits
      | no k ↦ let l : W * 64 ≤ j = omega arith in rw (lent_out W us r j l, lent_out W ws r j l)
    ]

-- the two rows have room for W words each
pub pick_room : (W x : ℕ) → x < 2 → x * W ≤ W
pick_room W zero k = omega (arith, zero-mul W)
pick_room W (suc zero) k = omega (arith, one-mul W)
pick_room W (suc (suc x)) k = absurd (omega arith)

-- the digit x of a bit picks the row that is added where the bit is 1
pub picked : (W : ℕ) (t : List ℕ) → Blank W t → (x : ℕ) → x < 2 → (bit : Bool) → bit ≡ eqb x 1 → lent W t x ≡ when bit (lent W t 1)
picked W t B zero k bit e = fun_ext (λ b. rw e (B.none b))
picked W t B (suc zero) k bit e = fun_ext (λ b. rw e)
picked W t B (suc (suc x)) k bit e = absurd (omega arith)
