-- Values in lists of bytes and floats. Assumes nothing.
use Rattle.std.specs.Prelude.{ℕ, ◌<◌, ◌≤◌, ◌≡◌, true, List, get_or, length, Float}
use Rattle.std.specs.Float.{nan}
use Rattle.parity.specs.Soft.{byte_for, float_for, message_at, sound}
use Rattle.parity.specs.declared.Channel.{Channel}

-- Lists of d bytes and d floats hold the values g.
pub record Holding (d : ℕ) (g : ℕ → Channel) (ts : List ℕ) (xs : List Float) : Type 0 where
  pub tags : length ts ≡ d
  pub values : length xs ≡ d
  pub tag : (t : ℕ) → t < d → get_or ts t 0 ≡ byte_for (g t)
  pub value : (t : ℕ) → t < d → get_or xs t nan ≡ float_for (g t)

-- The first i of d places hold the values g, and the others the values f.
pub record Partly (d i : ℕ) (g f : ℕ → Channel) (ts : List ℕ) (xs : List Float) : Type 0 where
  pub tags : length ts ≡ d
  pub values : length xs ≡ d
  pub tag : (t : ℕ) → t < i → get_or ts t 0 ≡ byte_for (g t)
  pub value : (t : ℕ) → t < i → get_or xs t nan ≡ float_for (g t)
  pub rest : (t : ℕ) → i ≤ t → t < d → message_at ts xs t ≡ f t

-- every soft float of d messages is a number
pub record Sounds (d : ℕ) (f : ℕ → Channel) : Type 0 where
  pub at : (t : ℕ) → t < d → sound (f t) ≡ true
