-- What the rounds leave. Assumes nothing.
use Rattle.std.specs.Prelude.{ℕ, ◌≡◌, List, replicate, Float}
use Rattle.parity.specs.Floats.{positive_zero}
use Rattle.parity.specs.declared.Channel.{Channel}
use Rattle.soft.specs.Store.{Holding}

-- word and floats hold the results, and the messages are zero
pub record Results (N : ℕ) (result : ℕ → Channel) (word : List ℕ) (floats : List Float) (tags : List ℕ) (values : List Float) : Type 0 where
  pub held : Holding N result word floats
  pub tags_zero : tags ≡ replicate 65536 0
  pub values_zero : values ≡ replicate 65536 positive_zero
