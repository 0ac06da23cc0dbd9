-- The parts of cause 3 on the words: masks of a row's words, and the or of rows. Assumes nothing.
use Rattle.std.specs.Prelude.{◌≡◌, List, ℕ, ◌+◌, ◌*◌, ◌-◌, ◌/◌, ◌^◌, ◌≤◌, ◌<◌, min, get_or, length}
use Rattle.std.specs.Int.Bits.{bit_or}
use Rattle.rows.specs.Zeros.{Zeros}

-- The first n words of a list are the masks of the bits at N and above.
pub record Masks (N n : ℕ) (ms : List ℕ) : Type 0 where
  pub mask : (p : ℕ) → p < n → get_or ms p 0 ≡ 2 ^ 64 - 2 ^ min 64 (N - p * 64)

-- The first n words of row c, of W words, are put into a list, by an or, and its other words stay.
pub record RowIn (W n : ℕ) (ws : List ℕ) (c : ℕ) (before after : List ℕ) : Type 0 where
  pub size : length after ≡ length before
  pub each : (p : ℕ) → p < n → get_or after p 0 ≡ bit_or (get_or before p 0) (get_or ws (c * W + p) 0)
  pub rest : (p : ℕ) → n ≤ p → get_or after p 0 ≡ get_or before p 0

-- Word p of a list, of 64 bits, has a one at bit r or above exactly if word p of a row from a up to b has, W words to a row.
pub record Ored (W a b : ℕ) (ws all : List ℕ) : Type 0 where
  pub fits : (p : ℕ) → p < W → get_or all p 0 < 2 ^ 64
  pub each : (r p : ℕ) → p < W → Zeros a b (λ c. get_or ws (c * W + p) 0 / 2 ^ r) (get_or all p 0 / 2 ^ r)
