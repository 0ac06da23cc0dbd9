-- What the checks determine, on the sets of a word's erased bits and of its ones, with N bits and M checks. Assumes nothing.
use Rattle.std.specs.Prelude.{◌≡◌, Bool, true, false, cond, List, ℕ, ◌*◌, ◌≤◌, ◌<◌, length}
use Rattle.parity.specs.Finite.{list_from}
use Rattle.parity.specs.Matrix.{Matrix, lent}
use Rattle.parity.specs.Calls.{byte_of}
use Rattle.parity.specs.Determining.{some_agrees, determined}
use Rattle.result.specs.Result.{held, filled, agreeing}

-- the sets have no bit from N on, and none in common
pub record Apart (N : ℕ) (e o : ℕ → Bool) : Type 0 where
  pub short_e : (b : ℕ) → N ≤ b → e b ≡ false
  pub short_o : (b : ℕ) → N ≤ b → o b ≡ false
  pub apart : (b : ℕ) → e b ≡ true → o b ≡ false

-- What is handed to elimination: the words of a matrix, the sets es of the erased bits and os of the ones, which are apart, and ls and vs, which are the same.
pub record Given (ws : List ℕ) (N M : ℕ) (es os ls vs : List ℕ) : Type 0 where
  pub words : length ws ≡ 4096
  pub bits : N ≤ 512
  pub checks : M ≤ 512
  pub residue : length es ≡ 8
  pub known : length os ≡ 8
  pub left : ls ≡ es
  pub values : vs ≡ os
  pub apart : Apart N (lent 8 es 0) (lent 8 os 0)

-- and the checks without an erased bit are even; a row of W words has room for the bits
pub record Posed (W : ℕ) (ws : List ℕ) (N M : ℕ) (es os ls vs : List ℕ) : Type 0 where
  pub given : Given ws N M es os ls vs
  pub even : agreeing (lent 8 ws) 512 M (lent 8 es 0) (lent 8 os 0) ≡ true
  pub narrow : W ≤ 8
  pub wide : N ≤ W * 64

-- r says whether some codeword agrees with the word that e and o hold, and then e' and o' hold what the checks determine of it
pub record Determined (h : Matrix) (N M : ℕ) (e o : ℕ → Bool) (r : Bool) (e' o' : ℕ → Bool) : Type 0 where
  pub told : r ≡ some_agrees h N M (held e o)
  pub word : r ≡ true → (b : ℕ) → b < N → held e' o' b ≡ determined h N M (held e o) b
  pub fewer : (b : ℕ) → e' b ≡ true → e b ≡ true

-- the same on words
abbrev pub Eliminated : List ℕ → ℕ → ℕ → List ℕ → List ℕ → Bool → List ℕ → List ℕ → Type 0
Eliminated ws N M es os r ls vs = Determined (lent 8 ws) N M (lent 8 es 0) (lent 8 os 0) r (lent 8 ls 0) (lent 8 vs 0)

-- and of the word w, whose lost bits are ss, each that is determined has its byte
pub record Finished (ws : List ℕ) (N M : ℕ) (ss es os w : List ℕ) (r : Bool) (ls vs w' : List ℕ) : Type 0 where
  pub sets : Eliminated ws N M es os r ls vs
  pub word : w' ≡ cond r (list_from 0 (length w) (filled (lent 8 ss 0) (lent 8 ls 0) (lent 8 vs 0) (byte_of w))) w
