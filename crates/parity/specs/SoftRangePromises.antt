-- Document 02, M-113: what is promised of the range of a check's answer, over what the call answers and gives. Assumes nothing.
use Rattle.std.specs.Prelude.{ℕ, ◌<◌, ◌≡◌, true, List, [], ◌∷◌, get_or, length, Float}
use Rattle.std.specs.Float.{nan, binary32}
use Rattle.std.specs.Float.Ieee.{fits, eq, le}
use Rattle.parity.specs.Causes.{answer}
use Rattle.parity.specs.Floats.{plus_zero}
use Rattle.parity.specs.Soft.{check_sends}
use Rattle.parity.specs.SoftRange.{min_sum_range_outcome}
use Rattle.parity.specs.declared.Channel.{Channel}
use Rattle.parity.specs.declared.Channel.TheVariants.{Soft}

-- M-113: what a check sends, as M-112 defines it, where its n other bits sent the soft values g 0 .. g (n - 1)
abbrev pub sends_for : ℕ → (ℕ → Float) → Channel
sends_for n g = check_sends n (λ i. true) (λ i. Soft (g i))

-- a choice of 32-bit floats inside; `le` compares values, and a zero of either sign is the same one
pub record Choice (lows highs : List Float) (g : ℕ → Float) : Type 0 where
  pub float : (i : ℕ) → i < length lows → fits binary32 (g i) ≡ true
  pub above : (i : ℕ) → i < length lows → le (get_or lows i nan) (g i) ≡ true
  pub below : (i : ℕ) → i < length lows → le (g i) (get_or highs i nan) ≡ true

-- a soft value between two ends
pub record Between (low high : Float) (v : Channel) : Type 0 where
  pub value : Float
  pub is_soft_lem : v ≡ Soft value
  pub above : le low value ≡ true
  pub below : le value high ≡ true

-- a choice for which the check sends the value y
pub record Reached (lows highs : List Float) (y : Float) : Type 0 where
  pub chosen : ℕ → Float
  pub choice : Choice lows highs chosen
  pub value : Float
  pub sends : sends_for (length lows) chosen ≡ Soft value
  pub same : eq value y ≡ true

-- The range of the min-sum answer over all choices inside: every choice answers within it, and each end is reached by some choice.
pub record IsRange (lows highs : List Float) (low high : Float) : Type 0 where
  pub within : (g : ℕ → Float) → Choice lows highs g → Between low high (sends_for (length lows) g)
  pub lowest : Reached lows highs low
  pub highest : Reached lows highs high

-- the call gives a range; the floats of a lent slice are 32-bit floats
pub record Gives (lows highs : List Float) (low high : Float) : Type 0 where
  pub low_floats : (i : ℕ) → fits binary32 (get_or lows i nan) ≡ true
  pub high_floats : (i : ℕ) → fits binary32 (get_or highs i nan) ≡ true
  pub outcome : min_sum_range_outcome lows highs ≡ record { reply = answer (3 ∷ []); ends = low ∷ high ∷ [] }

-- The ends that the call gives are the range of the answer, and an end that is zero is plus zero.
abbrev pub RangeGiven : Type 0
RangeGiven = (lows highs : List Float) (low high : Float) → Gives lows highs low high
    → IsRange lows highs low high × (plus_zero low ≡ low) × (plus_zero high ≡ high)

-- They are the only 32-bit floats with these properties.
abbrev pub RangeOnly : Type 0
RangeOnly = (lows highs : List Float) (low high : Float) → Gives lows highs low high
    → (low' high' : Float) → fits binary32 low' ≡ true → fits binary32 high' ≡ true
    → IsRange lows highs low' high' → plus_zero low' ≡ low' → plus_zero high' ≡ high' → (low' ≡ low) × (high' ≡ high)

-- floats that differ at most in the sign of zeros
pub record SameValues (xs ys : List Float) : Type 0 where
  pub size : length xs ≡ length ys
  pub floats : (i : ℕ) → (fits binary32 (get_or xs i nan) ≡ true) × (fits binary32 (get_or ys i nan) ≡ true)
  pub values : (i : ℕ) → plus_zero (get_or xs i nan) ≡ plus_zero (get_or ys i nan)

-- A zero of either sign is the same value: the call answers or refuses alike.
abbrev pub ZerosAlike : Type 0
ZerosAlike = (lows highs lows' highs' : List Float) → SameValues lows lows' → SameValues highs highs'
    → min_sum_range_outcome lows highs ≡ min_sum_range_outcome lows' highs'
