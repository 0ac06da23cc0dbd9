-- The lowest byte above a value: whether there is one, and where. Assumes nothing.
use mathlib.Core.Path.{◌≡◌}
use mathlib.Core.Bool.{true, false}
use mathlib.Core.List.{List}
use Prim.Native.Nat.{ℕ}
use lib.Dec.{ltb}
use lib.ListN.{length}
use Rattle.std.specs.Prelude.{Some, None, is_some, position}
use Rattle.parity.specs.Calls.{byte_of, wrong_byte, wrong_place}
use Rattle.parity.proofs.Finite.Positions.{first_some, first_none, is_some_first, position_first}
use Rattle.sets.specs.Above.{first_wrong}

module _ (top : ℕ) (w : List ℕ) where
  -- what the search finds
  pub position_wrong : position (λ b. ltb top b) w ≡ first_wrong top w
  unfolding first_wrong
  position_wrong = position_first (λ b. ltb top b) w 0

  -- a place found is the place of the refusal
  pub wrong_some : (p : ℕ) → Some p ≡ first_wrong top w → (wrong_byte top w ≡ true) × (p ≡ wrong_place top w)
  unfolding first_wrong wrong_byte wrong_place
  wrong_some p e = first_some (length w) (λ b. ltb top (byte_of w b)) p e

  -- where none is found, no byte is above the value
  pub wrong_none : None ≡ first_wrong top w → wrong_byte top w ≡ false
  unfolding first_wrong wrong_byte
  wrong_none e = first_none (length w) (λ b. ltb top (byte_of w b)) e

  pub is_some_wrong : is_some (first_wrong top w) ≡ wrong_byte top w
  unfolding first_wrong wrong_byte
  is_some_wrong = is_some_first (length w) (λ b. ltb top (byte_of w b))

  pub none_wrong : wrong_byte top w ≡ false → None ≡ first_wrong top w
  unfolding first_wrong wrong_byte
  none_wrong e = rw e
