-- Document 02, M-105: everything the checks determine, without steps. A word, a set of bits and N and M are as in Words. Assumes nothing.
use Rattle.std.specs.Prelude.{ℕ, Bool, not, cond, ◌&&◌, ◌||◌}
use Rattle.std.specs.Bool.{beq}
use Rattle.parity.specs.Finite.{one, all, any_set}
use Rattle.parity.specs.Matrix.{Matrix}
use Rattle.parity.specs.Words.{erased, is_one, even_checks}

-- A codeword y, given by its ones, agrees with the received word w: it has its value at every bit that is not erased.
unfoldable pub agrees_with : Matrix → ℕ → ℕ → (ℕ → ℕ) → (ℕ → Bool) → Bool
agrees_with h N M w y = even_checks h N M y && all N (λ b. erased w b || beq (y b) (is_one w b))

-- Some codeword agrees. Where none does, determining is refused (12).
unfoldable pub some_agrees : Matrix → ℕ → ℕ → (ℕ → ℕ) → Bool
some_agrees h N M w = any_set N (agrees_with h N M w)

-- Some codeword that agrees has a one at bit b, or a zero.
unfoldable pub agrees_at_one : Matrix → ℕ → ℕ → (ℕ → ℕ) → ℕ → Bool
agrees_at_one h N M w b = any_set N (λ y. agrees_with h N M w y && y b)

unfoldable pub agrees_at_zero : Matrix → ℕ → ℕ → (ℕ → ℕ) → ℕ → Bool
agrees_at_zero h N M w b = any_set N (λ y. agrees_with h N M w y && not (y b))

-- Determining: a bit at which codewords that agree differ stays 2, and every other bit has the one value that all of them have there.
unfoldable pub determined : Matrix → ℕ → ℕ → (ℕ → ℕ) → ℕ → ℕ
determined h N M w b = cond (agrees_at_one h N M w b && agrees_at_zero h N M w b) 2 (one (agrees_at_one h N M w b))
