-- What holds of every channel value, and is kept by what checks and bits send, holds of every message and result. Assumes nothing.
use mathlib.Core.Path.{◌≡◌}
use mathlib.Core.Bool.{Bool, true, ◌&&◌, and-eq-true_iff}
use Prim.Native.Nat.{ℕ, zero, suc, ◌-◌, ◌<◌}
use Rattle.parity.specs.Matrix.{Matrix}
use Rattle.parity.specs.Soft.{Messages, check_sends, bit_sends, but, to_bits, to_checks, sent_after, result_after}
use Rattle.parity.specs.declared.Channel.{Channel}

module _ (P : Channel → Bool)
    (check-keeps : (n : ℕ) (p : ℕ → Bool) (f : ℕ → Channel) → ((i : ℕ) → i < n → p i ≡ true → P (f i) ≡ true) → P (check_sends n p f) ≡ true)
    (bit-keeps : (v : Channel) (n : ℕ) (p : ℕ → Bool) (f : ℕ → Channel) → P v ≡ true → ((i : ℕ) → i < n → p i ≡ true → P (f i) ≡ true) → P (bit_sends v n p f) ≡ true)
    (h : Matrix) (N M : ℕ) (channel : ℕ → Channel) (C : (b : ℕ) → b < N → P (channel b) ≡ true) where
  -- it holds of every message between a check and a bit that it contains
  abbrev pub Every : Messages → Type 0
  Every m = (c b : ℕ) → c < M → b < N → h c b ≡ true → P (m c b) ≡ true

  heard_every : (m : Messages) → Every m → (c b : ℕ) → c < M → P (to_bits h N m c b) ≡ true
  unfolding to_bits
  heard_every m S c b k = check-keeps N (λ a. h c a && but b a) (m c) (λ a l t. S c a k l ((and-eq-true_iff (h c a) (but b a)).0 t).0)

  pub sent_every : (r : ℕ) → Every (sent_after h N M channel r)
  unfolding sent_after to_checks
  sent_every zero c b k l e = C b l
  sent_every (suc r) c b k l e =
      bit-keeps (channel b) M (λ d. h d b && but c d) (λ d. to_bits h N (sent_after h N M channel r) d b) (C b l)
      (λ d i t. heard_every (sent_after h N M channel r) (sent_every r) d b i)

  pub result_every : (r b : ℕ) → b < N → P (result_after h N M channel r b) ≡ true
  unfolding result_after
  result_every r b l =
      bit-keeps (channel b) M (λ d. h d b) (λ d. to_bits h N (sent_after h N M channel (r - 1)) d b) (C b l)
      (λ d i t. heard_every (sent_after h N M channel (r - 1)) (sent_every (r - 1)) d b i)
