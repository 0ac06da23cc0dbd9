-- Document 02, M-104, 'House codes from their rule': each code's rule, length and checks, and the words of its table. Assumes nothing.
use Rattle.std.specs.Prelude.{ℕ, zero, suc, ◌+◌, ◌*◌, ◌-◌, ◌%◌, ◌^◌, Bool, false, ◌&&◌, ◌||◌, List, [], ◌∷◌, eqb, ltb}
use Rattle.parity.specs.Finite.{one, sum}
use Rattle.parity.specs.Matrix.{Matrix, bit_of}

-- Document 01, case L: the list of e
abbrev pub offsets : List ℕ
offsets = 0 ∷ 1 ∷ 2 ∷ 3 ∷ 4 ∷ 7 ∷ 10 ∷ 12 ∷ []

-- bit b is (c+e) mod 23 for an e of a list
unfoldable pub at_offsets : List ℕ → Matrix
at_offsets [] c b = false
at_offsets (e ∷ es) c b = eqb ((c + e) % 23) b || at_offsets es c b

-- The circulant: check c contains (c+e) mod 23 for e in 0,1,2,3,4,7,10,12.
unfoldable pub circulant : Matrix
circulant = at_offsets offsets

-- The Hamming checks: check c contains bit b exactly when bit c of b+1 is one.
unfoldable pub hamming : Matrix
hamming c b = bit_of (b + 1) c

-- a code: its n, its m and its matrix
pub record Code : Type 0 where
  pub n : ℕ
  pub m : ℕ
  pub matrix : Matrix

-- what a rule says of n bits and m checks
unfoldable pub code_of : ℕ → ℕ → Matrix → Code
code_of n m rule = record { n = n; m = m; matrix = λ c b. ltb c m && ltb b n && rule c b }

-- the Hamming checks for length 2^r - 1
unfoldable pub hamming_code : ℕ → Code
hamming_code r = code_of (2 ^ r - 1) r hamming

-- The code of a name, a number: 0 the circulant, 1 to 4 the Hamming checks by rising length, which are 3, 7, 15 and 31.
unfoldable pub house_code : ℕ → Code
house_code zero = code_of 23 23 circulant
house_code (suc i) = hamming_code (i + 2)

-- the names are the numbers below 5
unfoldable pub known : ℕ → Bool
known name = ltb name 5

-- Word c of a table of words of `width` bits: bit b of word c is bit b of check c. The tables have width 32.
unfoldable pub table_word : ℕ → Matrix → ℕ → ℕ
table_word width h c = sum width (λ b. one (h c b) * 2 ^ b)
