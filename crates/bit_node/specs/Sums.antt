-- A bit's sums, built up by rising number of the check. Assumes nothing.
use Rattle.std.specs.Prelude.{ℕ, ◌≤◌, ◌<◌, ◌≡◌, Bool, true, List, get_or, length, Float}
use Rattle.std.specs.Float.{nan, binary32}
use Rattle.std.specs.Float.Ieee.{add}
use Rattle.parity.specs.Soft.{with_next, settled, gathered, bit_sends, but}
use Rattle.parity.specs.declared.Channel.{Channel}
use Rattle.parity.specs.declared.Channel.TheVariants.{Soft}

-- the channel's value and the first n values but value t
unfoldable pub part_sum : Channel → (ℕ → Channel) → ℕ → ℕ → Channel
unfolding gathered
part_sum v f n t = gathered v n (but t) f

-- each value joined with v
abbrev pub joined_with : (ℕ → Channel) → Channel → ℕ → Channel
joined_with f v t = with_next (f t) v

-- each value settled
abbrev pub settled_of : (ℕ → Channel) → ℕ → Channel
settled_of f t = settled (f t)

-- x is added to the first j floats, and the others are as they were
pub record AddedTo (xs : List Float) (x : Float) (j : ℕ) (ys : List Float) : Type 0 where
  pub size : length ys ≡ length xs
  pub new : (t : ℕ) → t < j → get_or ys t nan ≡ add binary32 (get_or xs t nan) x
  pub old : (t : ℕ) → j ≤ t → get_or ys t nan ≡ get_or xs t nan

-- soft values, by their floats
abbrev pub soft_at : List Float → ℕ → Channel
soft_at xs t = Soft (get_or xs t nan)

-- Of soft values, the sums of the channel's float c and the first j others stand in the first j places, each but its own, and `all` is the sum of all j; the
-- further places are as they were.
pub record SoftSums (c : Float) (xs : List Float) (j : ℕ) (ys : List Float) (all : Float) : Type 0 where
  pub size : length ys ≡ length xs
  pub sum : Soft all ≡ part_sum (Soft c) (soft_at xs) j j
  pub new : (t : ℕ) → t < j → Soft (get_or ys t nan) ≡ part_sum (Soft c) (soft_at xs) j t
  pub old : (t : ℕ) → j ≤ t → get_or ys t nan ≡ get_or xs t nan

-- every place
abbrev pub every : ℕ → Bool
every i = true

-- A bit's answers replace what its checks sent.
unfoldable pub bit_answer : Channel → ℕ → (ℕ → Channel) → ℕ → Channel
bit_answer v d f t = bit_sends v d (but t) f
