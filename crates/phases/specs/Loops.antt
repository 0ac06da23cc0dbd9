-- Loops over the bits. Assumes nothing.
use Rattle.std.specs.Prelude.{ℕ, ◌≡◌, List, length, Float}
use Rattle.parity.specs.Matrix.{Matrix}
use Rattle.parity.specs.Soft.{Messages}
use Rattle.phases.specs.Phases.{Sending, Answering, result_of}
use Rattle.messages.specs.Memory.{Above, held}
use Rattle.soft.specs.Store.{Holding}
use Rattle.parity.specs.declared.Channel.{Channel}

-- the first b bits have sent
pub record SentAll (h : Matrix) (M b : ℕ) (channel : ℕ → Channel) (old : Messages) (ts : List ℕ) (xs : List Float) : Type 0 where
  pub tags : length ts ≡ 65536
  pub values : length xs ≡ 65536
  pub sending : Sending h 512 M b channel old ts xs

-- all checks have answered, by lists between
pub record Heard (h : Matrix) (M : ℕ) (ts : List ℕ) (xs : List Float) (mt : List ℕ) (mx : List Float) : Type 0 where
  pub tags : length mt ≡ 65536
  pub values : length mx ≡ 65536
  pub answering : Answering h 512 M M (held h 512 ts xs) mt mx

-- a round: all checks, and then all N bits
pub record Round (h : Matrix) (N M : ℕ) (channel : ℕ → Channel) (ts : List ℕ) (xs : List Float) (ts' : List ℕ) (xs' : List Float) : Type 0 where
  pub mt : List ℕ
  pub mx : List Float
  pub heard : Heard h M ts xs mt mx
  pub sent : SentAll h M N channel (held h 512 mt mx) ts' xs'
  pub above : Above h 512 ts xs ts' xs'

-- the last half round, and the results
pub record Last (h : Matrix) (N M : ℕ) (channel : ℕ → Channel) (ts : List ℕ) (xs : List Float) (w : List ℕ) (f : List Float) : Type 0 where
  pub mt : List ℕ
  pub mx : List Float
  pub heard : Heard h M ts xs mt mx
  pub results : Holding N (result_of h 512 M channel mt mx) w f
