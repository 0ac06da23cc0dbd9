-- What writing a record leaves: its words stored one after another. Assumes nothing.
use Rattle.std.specs.Prelude.{◌≡◌, Bool, cond, List, [], ◌∷◌, ◌++◌, ℕ, zero, suc, ◌+◌, ◌*◌, ◌^◌, length}
use Rattle.std.proofs.lemmas.List.Edits.{sets}
use Rattle.parity.specs.Finite.{count, list_from}
use Rattle.parity.specs.Matrix.{Matrix, bit_of}
use Rattle.parity.specs.Splits.{pair_of}
use Rattle.parity.specs.Record.{head_kind, bit_words, opening, check_words, splitting}
use Rattle.parity.specs.declared.Form.{Form}

-- the words of the ones of x among its lowest b bits, bit 0 as the word `first`
unfoldable pub word_ones : ℕ → ℕ → ℕ → List ℕ
word_ones first x zero = []
word_ones first x (suc b) = word_ones first x b ++ cond (bit_of x b) ((first + b) ∷ []) []

-- the words of check c, which contains no bit at N or above
unfoldable pub check_of : Form → ℕ → (ℕ → Bool) → ℕ → List ℕ
check_of f c s N = opening f c (count N s) ∷ bit_words s N

-- the kind 6 word of split j of h, from its check m + j
unfoldable pub split_of_check : Matrix → ℕ → ℕ → ℕ → ℕ
split_of_check h n m j = splitting (pair_of h (n + j) (m + j))

-- the record, of a form, of the checks g with n bits and m checks, none of which contains a bit at N or above, and of the k splits of h
unfoldable pub plain_record : Form → Matrix → ℕ → Matrix → ℕ → ℕ → ℕ → List ℕ
plain_record f g N h n m k = (head_kind f * 2 ^ 28 + m * 256 + n) ∷ check_words f g N m ++ (list_from 0 k (split_of_check h n m) ++ ((15 * 2 ^ 28) ∷ []))

-- `new` is `old` with the words ws stored from place p on, and r is the place behind them.
pub record Wrote (old new : List ℕ) (p : ℕ) (ws : List ℕ) (r : ℕ) : Type 0 where
  pub stored : new ≡ sets old p ws
  pub place : r ≡ p + length ws
