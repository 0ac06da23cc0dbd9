-- Laws of the matrix's words while a code of at most 32 bits is put there, over the number W of words of a check. Assumes nothing.
use mathlib.Core.Path.{◌≡◌, sym, ◌∙◌}
use mathlib.Core.Bool.{cond}
use mathlib.Core.List.{List}
use Prim.Native.Nat.{ℕ, ◌+◌, ◌*◌, ◌/◌, ◌%◌, ◌≤◌, ◌<◌}
use native.Mathlib.Nat.{div-add-mod', mul-div_cancel, mul-mod_left, mul-lt-mul_of_pos_right}
use native.Mathlib.Omega.{arith}
use native.Mathlib.Decide.{ℕ_discrete, dec_lt}
use lib.ListN.{set, length}
use lib.Seq.{get_or-set_same, get_or-set_other, ext_get_or}
use lib.Dec.{ltb}
use borrow.Author.Tests.{lt-ltb, le-ltb}
use Rattle.parity.specs.Matrix.{Matrix, word_of, pack}
use Rattle.parity.specs.House.{table_word}
use Rattle.parity.specs.Sound.{Clean}
use Rattle.parity.proofs.Finite.Sums.{sum_cong, sum_zero, sum_end, below_next}
use Rattle.parity.proofs.Matrix.Packing.{pack_length, pack_at}
use Rattle.rows.specs.Zeros.{Zeroed}
use Rattle.house.specs.Holding.{Holding}
use Rattle.house.proofs.Generated.{no_term}

-- words that are all 0 hold no check
pub holding_none : (W : ℕ) (h : Matrix) (words : List ℕ) → Zeroed words (512 * W) → Holding W h 0 words
holding_none W h words Z = record { held = λ j l. rw (le-ltb (j / W) 0 (omega arith)) (Z.none j l) }

module _ (W : ℕ) (pos : 0 < W) (h : Matrix) (n m : ℕ) (K : Clean h n m) (small : n ≤ 32) where
  -- the first word of a row is the table's, the others are 0, and so are those behind the last check
  first_word : (c : ℕ) → word_of W h (c * W) ≡ table_word 32 h c
  unfolding word_of table_word
  first_word c =
      sum_cong 64 (λ b l. let q : c * W % W * 64 + b ≡ b = rw (mul-mod_left c W) (omega arith) in rw (mul-div_cancel c pos, q))
      ∙ sum_end 32 64 (omega arith) (λ b l k. no_term b (K.bits c b (omega arith)))

  other_word : (i : ℕ) → 0 < i % W → word_of W h i ≡ 0
  unfolding word_of
  other_word i l = sum_zero 64 (λ b k. no_term b (K.bits (i / W) (i % W * 64 + b) (omega arith)))

  behind_word : (i : ℕ) → m ≤ i / W → word_of W h i ≡ 0
  unfolding word_of
  behind_word i l = sum_zero 64 (λ b k. no_term b (K.checks (i / W) (i % W * 64 + b) l))

  -- the next check is put there by its word
  pub holding_next : (c : ℕ) (words : List ℕ) → c < 512 → length words ≡ 512 * W → Holding W h c words → Holding W h (c + 1) (set words (c * W) (table_word 32 h c))
  holding_next c words k e H = record {
    held = λ j l. elim (ℕ_discrete j (c * W)) [
      | yes q ↦ rw (q, mul-div_cancel c pos, lt-ltb c (c + 1) (omega arith), first_word c) (get_or-set_same words (c * W) (table_word 32 h c) 0 (omega (arith, mul-lt-mul_of_pos_right k pos)))
      | no d ↦ get_or-set_other words (c * W) j (table_word 32 h c) 0 d ∙ H.held j l ∙ (elim (ℕ_discrete (j / W) c) [
        | yes q ↦
            let r : c * W + j % W ≡ j = rw q at (div-add-mod' j W) in
            rw (le-ltb (j / W) c (omega arith), lt-ltb (j / W) (c + 1) (omega arith)) (sym (other_word j (omega arith)))
        | no r ↦ rw (below_next (j / W) c r)
      ])
    ];
  }

  -- words that hold all checks are those of the matrix
  pub holding_all : (words : List ℕ) → length words ≡ 512 * W → Holding W h m words → words ≡ pack W h
  holding_all words e H =
      ext_get_or 0 words (pack W h) (e ∙ sym (pack_length W h)) (λ i l. H.held i (omega arith) ∙ all_of i ∙ sym (pack_at W h i (omega arith)))
    where
      all_of : (i : ℕ) → cond (ltb (i / W) m) (word_of W h i) 0 ≡ word_of W h i
      all_of i =
          elim (dec_lt (i / W) m) [
            | yes l ↦ rw (lt-ltb (i / W) m l)
            | no l ↦ let k : m ≤ i / W = omega arith in rw (le-ltb (i / W) m k) (sym (behind_word i k))
          ]
