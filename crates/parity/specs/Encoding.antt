-- Document 01, 'Encoding': parity bits, the rank, encoding, for a matrix with k = 0. Assumes nothing.
use Rattle.std.specs.Prelude.{ℕ, ◌%◌, Bool, not, ◌&&◌, ◌||◌, eqb}
use Rattle.std.specs.Bool.{beq}
use Rattle.parity.specs.Finite.{one, count, all, any_set}
use Rattle.parity.specs.Matrix.{Matrix}
use Rattle.parity.specs.Words.{inside, even_checks}

-- The column of bit b is a sum modulo 2 of some columns of lower bits; a zero column is the empty sum.
unfoldable pub dependent : Matrix → ℕ → ℕ → Bool
dependent h m b = any_set b (λ s. all m (λ c. eqb (inside h b c s % 2) (one (h c b))))

-- A parity bit is a bit whose column is not such a sum.
abbrev pub parity_bit : Matrix → ℕ → ℕ → Bool
parity_bit h m b = not (dependent h m b)

-- The rank: the number of parity bits.
unfoldable pub rank_of : Matrix → ℕ → ℕ → ℕ
rank_of h n m = count n (parity_bit h m)

-- The other bits of x, rising, hold the message.
unfoldable pub holds : Matrix → ℕ → ℕ → (ℕ → Bool) → (ℕ → Bool) → Bool
holds h n m message x = all n (λ b. parity_bit h m b || beq (x b) (message (count b (dependent h m))))

-- Encoding: the codeword whose other bits hold the message. There is exactly one: `encodes` of proofs/Encoding/Encode.
unfoldable pub encoded : Matrix → ℕ → ℕ → (ℕ → Bool) → ℕ → Bool
encoded h n m message b = any_set n (λ x. even_checks h n m x && holds h n m message x && x b)
