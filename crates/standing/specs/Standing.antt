-- The messages of the round before: a copy in the places after the w messages, where the lent memory has room for both before the row. Assumes nothing.
use Rattle.std.specs.Prelude.{ℕ, ◌+◌, ◌<◌, ◌≤◌, ◌≡◌, Bool, true, ◌&&◌, eqb, List, length, get_or, Float}
use Rattle.std.specs.Float.{binary32, nan}
use Rattle.std.specs.Float.Ieee.{eq, to_bits}
use Rattle.parity.specs.Soft.{message_at}

-- the same number with the same sign
abbrev pub same_number : Float → Float → Bool
same_number x y = eq x y && eqb (to_bits binary32 x) (to_bits binary32 y)

-- messages i and j are the same, byte and float
abbrev pub same_message : List ℕ → List Float → ℕ → ℕ → Bool
same_message ts xs i j = eqb (get_or ts i 0) (get_or ts j 0) && same_number (get_or xs i nan) (get_or xs j nan)

-- with room, the first i of the w messages are those of the copy
pub record Twice (w i : ℕ) (ts : List ℕ) (xs : List Float) : Type 0 where
  pub at : w + w ≤ 65024 → (j : ℕ) → j < i → message_at ts xs j ≡ message_at ts xs (w + j)

-- The first i of the w messages are copied, with room, and all w stay.
pub record Kept (w i : ℕ) (ts : List ℕ) (xs : List Float) (ts' : List ℕ) (xs' : List Float) : Type 0 where
  pub tags : length ts' ≡ length ts
  pub values : length xs' ≡ length xs
  pub same : (j : ℕ) → j < w → message_at ts' xs' j ≡ message_at ts xs j
  pub copy : w + w ≤ 65024 → (j : ℕ) → j < i → message_at ts' xs' (w + j) ≡ message_at ts xs j

-- r says that there is room, and that the messages are those of the copy
pub record Standing (r : Bool) (w : ℕ) (ts : List ℕ) (xs : List Float) : Type 0 where
  pub room : r ≡ true → w + w ≤ 65024
  pub twice : r ≡ true → Twice w w ts xs
