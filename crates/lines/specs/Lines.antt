-- The lines of the report, each by itself, and its characters. Assumes nothing.
use Rattle.std.specs.Prelude.{ℕ, ◌≤◌, cond, List, [], ◌∷◌, ◌++◌, eqb}
use Rattle.parity.specs.Finite.{list_from}
use Rattle.parity.specs.Calls.{byte_of}
use Rattle.parity.specs.Mend.{decimal, splits_head, sum_head, residue_head, residue_text, word_head, shown}

-- every byte is at most `top`
pub record Bytes (top : ℕ) (w : List ℕ) : Type 0 where
  pub most : (b : ℕ) → byte_of w b ≤ top

-- a bit's number with a space before it, if its byte x says that it is erased
unfoldable pub left_text : ℕ → ℕ → List ℕ
left_text x b = cond (eqb x 2) (32 ∷ decimal b) []

-- the first n characters of a word
unfoldable pub word_text : List ℕ → ℕ → List ℕ
word_text w n = list_from 0 n (λ b. shown (byte_of w b))

unfoldable pub splits_line : ℕ → ℕ → List ℕ
splits_line splits total = splits_head ++ decimal splits ++ sum_head ++ decimal total ++ (10 ∷ [])

unfoldable pub residue_line : List ℕ → ℕ → List ℕ
residue_line w n = residue_head ++ residue_text w n ++ (10 ∷ [])

unfoldable pub word_line : List ℕ → ℕ → List ℕ
word_line w n = word_head ++ word_text w n ++ (10 ∷ [])
