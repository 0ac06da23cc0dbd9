-- Words that are written one after the other, and rows that are copied, or combined with another row. Assumes nothing.
use Rattle.std.specs.Prelude.{◌≡◌, Bool, cond, List, ℕ, ◌+◌, ◌*◌, ◌<◌, eqb, get_or, length}
use Rattle.std.specs.Bool.{xor}
use Rattle.parity.specs.Matrix.{Matrix}

-- The first i words from place b on are f 0, f 1, ..; the others are as they were.
pub record Written (before after : List ℕ) (b : ℕ) (f : ℕ → ℕ) (i : ℕ) : Type 0 where
  pub long : length after ≡ length before
  pub done : (a : ℕ) → a < i → get_or after (b + a) 0 ≡ f a
  pub else : (a : ℕ) → ((j : ℕ) → j < i → a ≡ b + j → ⊥) → get_or after a 0 ≡ get_or before a 0

-- the words of a list from place a on
abbrev pub word_from : List ℕ → ℕ → ℕ → ℕ
word_from ws a i = get_or ws (a + i) 0

-- Each of the first M rows of W words is the first words of a row of U words.
pub record RowsCopied (U W : ℕ) (ws after : List ℕ) (M : ℕ) : Type 0 where
  pub at : (c i : ℕ) → c < M → i < W → get_or after (c * W + i) 0 ≡ get_or ws (c * U + i) 0

-- row c, bit by bit with another row
unfoldable pub combined : (Bool → Bool → Bool) → ℕ → (ℕ → Bool) → Matrix → Matrix
combined f c row g i b = cond (eqb i c) (f (g i b) (row b)) (g i b)

-- the row added to row c, modulo 2
abbrev pub plus : ℕ → (ℕ → Bool) → Matrix → Matrix
plus c row g = combined xor c row g
