-- An or that is zero exactly if all its parts are, what two rows have in common, and words that are 0. Assumes nothing.
use Rattle.std.specs.Prelude.{◌≡◌, List, ℕ, ◌+◌, ◌*◌, ◌≤◌, ◌<◌, get_or}
use Rattle.std.specs.Int.Bits.{bit_and}

-- f is zero from place a up to b exactly if acc is.
pub record Zeros (a b : ℕ) (f : ℕ → ℕ) (acc : ℕ) : Type 0 where
  pub none : acc ≡ 0 → (i : ℕ) → a ≤ i → i < b → f i ≡ 0
  pub back : ((i : ℕ) → a ≤ i → i < b → f i ≡ 0) → acc ≡ 0

-- what word p of row i of a and word p of row j of b have in common, W words to a row
unfoldable pub both : ℕ → List ℕ → ℕ → List ℕ → ℕ → ℕ → ℕ
both W a i b j p = bit_and (get_or a (i * W + p) 0) (get_or b (j * W + p) 0)

-- the first i words are 0
pub record Zeroed (words : List ℕ) (i : ℕ) : Type 0 where
  pub none : (j : ℕ) → j < i → get_or words j 0 ≡ 0
