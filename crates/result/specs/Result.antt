-- The word of the sets of its erased bits and of its ones, with N bits and M checks. Assumes nothing.
use Rattle.std.specs.Prelude.{◌≡◌, Bool, true, not, cond, ◌&&◌, ◌||◌, List, ℕ, ◌+◌, ◌*◌, ◌/◌, ◌%◌, ◌≤◌, ◌<◌, eqb, length}
use Rattle.parity.specs.Finite.{one, all, list_from}
use Rattle.parity.specs.Matrix.{Matrix, bit_of, lent}
use Rattle.parity.specs.Words.{inside}
use Rattle.parity.specs.Calls.{byte_of}
use Rattle.sets.specs.Sets.{Short}

-- the words of a matrix, its first checks, and the sets of erased bits and of ones, of which the first words are in use
abbrev pub WithSets : List ℕ → ℕ → List ℕ → List ℕ → ℕ → Type 0
WithSets ws checks es os used = (length ws ≡ 4096) × (checks ≤ 512) × (length es ≡ 8) × (length os ≡ 8) × (used ≤ 8)

-- the word whose erased bits are e, and whose ones are o
abbrev pub held : (ℕ → Bool) → (ℕ → Bool) → ℕ → ℕ
held e o b = cond (e b) 2 (one (o b))

-- each check without an erased bit is even
unfoldable pub agreeing : Matrix → ℕ → ℕ → (ℕ → Bool) → (ℕ → Bool) → Bool
agreeing h N M e o = all M (λ c. not (eqb (inside h N c e) 0) || eqb (inside h N c o % 2) 0)

-- the word w, in which each bit that was lost, s, and is not erased, e, has its byte by the ones o
abbrev pub filled : (ℕ → Bool) → (ℕ → Bool) → (ℕ → Bool) → (ℕ → ℕ) → ℕ → ℕ
filled s e o w b = cond (s b && not (e b)) (one (o b)) (w b)

-- the erased bits and the ones are in the first words
abbrev pub BothShort : ℕ → List ℕ → List ℕ → Type 0
BothShort used es os = Short (used * 64) (lent 8 es 0) × Short (used * 64) (lent 8 os 0)

-- x, word i of a set, has no bit from N on
pub record Reaching (N i x : ℕ) : Type 0 where
  pub below : (j : ℕ) → j < 64 → bit_of x j ≡ true → i * 64 + j < N

-- of word w, the bits that x, word i of a set, has get their bytes by the ones o
pub record WordWritten (i x : ℕ) (o : ℕ → Bool) (w w' : List ℕ) : Type 0 where
  pub size : length w' ≡ length w
  pub here : (j : ℕ) → j < 64 → byte_of w' (i * 64 + j) ≡ cond (bit_of x j) (one (o (i * 64 + j))) (byte_of w (i * 64 + j))
  pub other : (b : ℕ) → (b / 64 ≡ i → ⊥) → byte_of w' b ≡ byte_of w b

-- r says whether each check without an erased bit is even; if so, the word w is filled, and else it stays
pub record Finished (h : Matrix) (N M : ℕ) (s e o : ℕ → Bool) (w : List ℕ) (r : Bool) (w' : List ℕ) : Type 0 where
  pub told : r ≡ agreeing h N M e o
  pub word : w' ≡ cond r (list_from 0 (length w) (filled s e o (byte_of w))) w
