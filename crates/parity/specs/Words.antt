-- Document 01, 'Words, peeling': words, codewords, verifying, extending, stopping sets, the residue, peeling. Assumes nothing.
-- A word gives each bit its byte; a set of bits says of each bit whether it is in it. N bits and M checks are looked at.
use Rattle.std.specs.Prelude.{ℕ, zero, suc, ◌+◌, ◌%◌, Bool, not, cond, ◌&&◌, ◌||◌, List, [], ◌∷◌, eqb, leb}
use Rattle.std.specs.Bool.{beq}
use Rattle.parity.specs.Finite.{one, count, all, any, least, any_set}
use Rattle.parity.specs.Matrix.{Matrix}

-- A byte of a word is 0, 1, or 2 for erased: its erased bits, and its ones.
abbrev pub erased : (ℕ → ℕ) → ℕ → Bool
erased w b = eqb (w b) 2

abbrev pub is_one : (ℕ → ℕ) → ℕ → Bool
is_one w b = eqb (w b) 1

-- how many bits of a set a check contains
unfoldable pub inside : Matrix → ℕ → ℕ → (ℕ → Bool) → ℕ
inside h N c s = count N (λ b. h c b && s b)

-- each check contains an even number of the set's bits
unfoldable pub even_checks : Matrix → ℕ → ℕ → (ℕ → Bool) → Bool
even_checks h N M s = all M (λ c. eqb (inside h N c s % 2) 0)

-- A codeword has no 2 and gives each check an even number of ones. Verifying is yes exactly for codewords.
unfoldable pub codeword : Matrix → ℕ → ℕ → (ℕ → ℕ) → Bool
codeword h N M w = all N (λ b. leb (w b) 1) && even_checks h N M (is_one w)

-- an odd number
unfoldable pub odd : ℕ → Bool
odd s = eqb (s % 2) 1

-- Extending: the sent bits stay, and each added bit n + j is the sum modulo 2 of the two lower bits of its added check m + j. In document
-- 000 this check is S_{m+u-n}, x_i + x_j = x_u with i and j below u; that the codeword determines the added bits (001) is `extend_only`
-- of proofs/Words/Extend.
unfoldable pub extended : Matrix → ℕ → ℕ → ℕ → (ℕ → Bool) → ℕ → Bool
extended h n m zero x b = x b
extended h n m (suc j) x b = cond (eqb b (n + j)) (odd (inside h (n + j) (m + j) (extended h n m j x))) (extended h n m j x b)

-- A stopping set: no check contains exactly one of its bits. (Document 000: all neighbors of the set are connected to it at least twice.)
-- The empty set is one.
unfoldable pub stopping : Matrix → ℕ → ℕ → (ℕ → Bool) → Bool
stopping h N M s = all M (λ c. not (eqb (inside h N c s) 1))

-- one set lies inside the other
unfoldable pub within : ℕ → (ℕ → Bool) → (ℕ → Bool) → Bool
within N s e = all N (λ b. not (s b) || e b)

-- The residue of a word with the erased bits e: the union of all stopping sets inside them.
unfoldable pub residue : Matrix → ℕ → ℕ → (ℕ → Bool) → ℕ → Bool
residue h N M e b = any_set N (λ s. stopping h N M s && within N s e && s b)

-- The values y for the erased bits e outside the residue r, with x's values at the bits that are not erased, make each check even
-- that contains no residue bit. At residue bits y is free: no check that is looked at contains one. These are document 004's equations (1)
-- of the checks that contain no residue bit.
unfoldable pub solves : Matrix → ℕ → ℕ → (ℕ → Bool) → (ℕ → Bool) → (ℕ → Bool) → (ℕ → Bool) → Bool
solves h N M e r x y =
    all N (λ b. e b || beq (y b) (x b))
    && all M (λ c. not (eqb (inside h N c r) 0) || eqb (inside h N c y % 2) 0)

-- Such values exist; if none do, peeling is refused (12).
unfoldable pub peels : Matrix → ℕ → ℕ → (ℕ → ℕ) → Bool
peels h N M w = any_set N (solves h N M (erased w) (residue h N M (erased w)) (is_one w))

-- Peeling: the residue keeps 2, and every other bit has the value that solves. It is unique: `unique` of proofs/Words/Residue.
unfoldable pub peeled : Matrix → ℕ → ℕ → (ℕ → ℕ) → ℕ → ℕ
peeled h N M w b =
    cond (residue h N M (erased w) b) 2
    (one (any_set N (λ y. solves h N M (erased w) (residue h N M (erased w)) (is_one w) y && y b)))

-- Of a word before and a word after, a bit is left if its byte is 2 afterwards, and recovered if it was 2 before and isn't afterwards.
unfoldable pub recovered : (ℕ → ℕ) → (ℕ → ℕ) → ℕ → Bool
recovered before after b = erased before b && not (erased after b)

-- Document 02, M-100: what was recovered and what is left, counted in sent bits and in added bits: the recovered sent bits, the recovered added bits,
-- the sent bits left, the added bits left. The sent bits are the first n, the added ones the k after them.
unfoldable pub losses : ℕ → ℕ → (ℕ → ℕ) → (ℕ → ℕ) → List ℕ
losses n k before after =
    count n (recovered before after) ∷ count k (λ j. recovered before after (n + j))
    ∷ count n (erased after) ∷ count k (λ j. erased after (n + j)) ∷ []

-- Peeling by steps solves, as long as one exists, a check with exactly one erased bit. That it ends as defined above, in whatever order,
-- is a law: `any_order` and `peel_steps` of proofs/Words/Steps. Lists of such steps are in Solving (M-108).
-- Bit b of check c is solved: it becomes the sum modulo 2 of the check's ones.
unfoldable pub solved : Matrix → ℕ → ℕ → ℕ → (ℕ → ℕ) → ℕ → ℕ
solved h N c b w i = cond (eqb i b) (one (odd (inside h N c (is_one w)))) (w i)

-- the first check with exactly one erased bit, and that bit
unfoldable pub lone_check : Matrix → ℕ → ℕ → (ℕ → ℕ) → ℕ
lone_check h N M w = least M (λ c. eqb (inside h N c (erased w)) 1)

unfoldable pub lone_bit : Matrix → ℕ → ℕ → (ℕ → ℕ) → ℕ
lone_bit h N c w = least N (λ b. h c b && erased w b)

-- steps as long as there is such a check; the first argument only ends the recursion
unfoldable pub steps : ℕ → Matrix → ℕ → ℕ → (ℕ → ℕ) → ℕ → ℕ
steps zero h N M w = w
steps (suc turns) h N M w =
    cond (any M (λ c. eqb (inside h N c (erased w)) 1))
    (steps turns h N M (solved h N (lone_check h N M w) (lone_bit h N (lone_check h N M w) w) w))
    w

-- each check that has no erased bit is even
unfoldable pub agrees : Matrix → ℕ → ℕ → (ℕ → ℕ) → Bool
agrees h N M w = all M (λ c. not (eqb (inside h N c (erased w)) 0) || eqb (inside h N c (is_one w) % 2) 0)
