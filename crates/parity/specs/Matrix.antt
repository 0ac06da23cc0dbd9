-- Document 01, 'The matrix': the matrix, its layout in words, rule A, and causes 1 to 4. Assumes nothing.
use Rattle.std.specs.Prelude.{ℕ, suc, ◌+◌, ◌*◌, ◌-◌, ◌/◌, ◌%◌, ◌^◌, min, Bool, true, not, cond, ◌&&◌, ◌||◌, List, [], ◌∷◌, eqb, ltb, leb, get_or, length}
use Rattle.parity.specs.Finite.{one, sum, count, all, list_from}

-- The matrix: whether a check contains a bit. The check's number comes first, then the bit's. It is document 000's H, numbered from 0:
-- S_i is check i - 1, and x_i is bit i - 1.
abbrev pub Matrix : Type 0
Matrix = ℕ → ℕ → Bool

-- bit i of a word, bit 0 being the lowest
unfoldable pub bit_of : ℕ → ℕ → Bool
bit_of w i = eqb (w / 2 ^ i % 2) 1

-- The matrix as it is lent, W words of 64 bits for each check: check c has the words W c to W c + W - 1, and bit b of the code is
-- bit b mod 64 of the (b div 64)th of them. Document 01's matrix has W = 8.
unfoldable pub lent : ℕ → List ℕ → Matrix
lent W ws c b = ltb b (W * 64) && bit_of (get_or ws (c * W + b / 64) 0) (b % 64)

-- word i of those that hold a matrix
unfoldable pub word_of : ℕ → Matrix → ℕ → ℕ
word_of W h i = sum 64 (λ b. one (h (i / W) (i % W * 64 + b)) * 2 ^ b)

-- the words that hold a matrix of 512 checks: 4,096 where W = 8
unfoldable pub pack : ℕ → Matrix → List ℕ
pack W h = list_from 0 (512 * W) (word_of W h)

-- the matrix with x at check c and bit b
unfoldable pub put : ℕ → ℕ → Bool → Matrix → Matrix
put c b x h d a = cond (eqb d c && eqb a b) x (h d a)

-- n sent bits (1 to 120), m given checks (0 to 120) and k added bits (0 to 392)
unfoldable pub in_range : ℕ → ℕ → ℕ → Bool
in_range n m k = leb 1 n && leb n 120 && leb m 120 && leb k 392

-- how many of the low bits of word i are bits below N of a check below M
unfoldable pub room : ℕ → ℕ → ℕ → ℕ → ℕ
room W N M i = cond (ltb (i / W) M) (min 64 (N - i % W * 64)) 0

-- No word from place i on has a one at bit N or above, or at check M or above: w < 2 ^ r says that w has no one at its bit r or above.
-- So it also says that each word is below 2 ^ 64, and demand 3, which is over all lists of numbers, needs no further hypothesis. In bits
-- it is `cleans` of proofs/Matrix/Clean.
unfoldable pub clean : ℕ → ℕ → ℕ → ℕ → List ℕ → Bool
clean W N M i [] = true
clean W N M i (w ∷ ws) = ltb w (2 ^ room W N M i) && clean W N M (suc i) ws

-- Two bits share no check, of M, other than check c.
unfoldable pub no_other : Matrix → ℕ → ℕ → ℕ → ℕ → Bool
no_other h M c a b = all M (λ d. eqb d c || not (h d a && h d b))

-- Rule A for added check m + j: it contains exactly three bits, namely n + j and two bits below n + j, and any two of these three
-- share no other check.
unfoldable pub rule_at : Matrix → ℕ → ℕ → ℕ → ℕ → Bool
rule_at h n m k j =
    eqb (count (n + k) (h (m + j))) 3 && h (m + j) (n + j) && eqb (count (n + j) (h (m + j))) 2
    && all (n + k) (λ b. all b (λ a. not (h (m + j) a && h (m + j) b) || no_other h (m + k) (m + j) a b))

-- Rule A, for every added check
unfoldable pub rule_a : Matrix → ℕ → ℕ → ℕ → Bool
rule_a h n m k = all k (rule_at h n m k)

-- The cause that refuses a lent matrix: the first of 1 to 4 that holds; 0 where none does, and the matrix is accepted.
unfoldable pub cause : List ℕ → ℕ → ℕ → ℕ → ℕ
cause ws n m k =
    cond (not (eqb (length ws) 4096)) 1
    (cond (not (in_range n m k)) 2
    (cond (not (clean 8 (n + k) (m + k) 0 ws)) 3
    (cond (not (rule_a (lent 8 ws) n m k)) 4 0)))
