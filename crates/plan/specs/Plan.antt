-- A plan: what is done to the ones of a lane, and in which lanes no codeword agrees, for given losses. Assumes nothing.
use Rattle.std.specs.Prelude.{◌≡◌, Bool, true, false, not, ℕ, ◌<◌}
use Rattle.parity.specs.Matrix.{Matrix}
use Rattle.parity.specs.Determining.{some_agrees, determined}
use Rattle.result.specs.Result.{held}
use Rattle.residue.specs.Sets.{Apart}

-- For every lane that has lost the bits e: it is contradicted exactly if no codeword agrees with it, and else the bits that are determined have their
-- values, and the others are `left`.
pub record Plans (h : Matrix) (N M : ℕ) (e left : ℕ → Bool) (mend : (ℕ → Bool) → ℕ → Bool) (flag : (ℕ → Bool) → Bool) : Type 0 where
  pub told : (o : ℕ → Bool) → Apart N e o → not (flag o) ≡ some_agrees h N M (held e o)
  pub word : (o : ℕ → Bool) → Apart N e o → flag o ≡ false → (b : ℕ) → b < N → held left (mend o) b ≡ determined h N M (held e o) b
  pub fewer : (b : ℕ) → left b ≡ true → e b ≡ true
