-- Three columns: the checks that contain two of three bits. Assumes nothing.
use Rattle.std.specs.Prelude.{◌≡◌, Bool, true, false, ◌&&◌, ◌||◌, List, ℕ, ◌+◌, ◌*◌, ◌<◌, get_or}
use Rattle.std.specs.Int.Bits.{bit_and, bit_or}
use Rattle.parity.specs.Matrix.{Matrix}

-- the bits that are ones of at least two of three words
abbrev pub in_two : ℕ → ℕ → ℕ → ℕ
in_two x y z = bit_or (bit_and x y) (bit_and (bit_or x y) z)

-- the checks of column word i, of W, that contain two of the bits x, y and z
abbrev pub two_in : ℕ → List ℕ → ℕ → ℕ → ℕ → ℕ → ℕ
two_in W cols x y z i = in_two (get_or cols (x * W + i) 0) (get_or cols (y * W + i) 0) (get_or cols (z * W + i) 0)

-- Check d contains two of the bits x, y and z.
abbrev pub two : Matrix → ℕ → ℕ → ℕ → ℕ → Bool
two h x y z d = (h d x && h d y) || ((h d x || h d y) && h d z)

-- No check, of M, contains two of them.
pub record NoneIn (h : Matrix) (M x y z : ℕ) : Type 0 where
  pub none : (d : ℕ) → d < M → two h x y z d ≡ false

-- r says so, of the first N checks of columns g
pub record Apart (N : ℕ) (g : Matrix) (x y z : ℕ) (r : Bool) : Type 0 where
  pub yes_none : r ≡ true → NoneIn (λ d b. g b d) N x y z
  pub none_yes : NoneIn (λ d b. g b d) N x y z → r ≡ true
