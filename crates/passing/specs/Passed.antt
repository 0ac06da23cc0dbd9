-- How a reply reaches a caller in C: its number is returned, and its values are put into a lent list of any length. Assumes nothing.
use Rattle.std.specs.Prelude.{◌≡◌, List, ◌++◌, ℕ, length, take, drop}
use Rattle.parity.specs.Causes.{Reply}

-- the values fill the first elements as far as the list reaches; its other elements are left
unfoldable pub filled : {A : Type 0} → List A → List A → List A
filled vs old = take (length old) vs ++ drop (length vs) old

pub record Passed (reply : Reply) (old new : List ℕ) (returned : ℕ) : Type 0 where
  pub number : returned ≡ reply.number
  pub values : new ≡ filled reply.values old
