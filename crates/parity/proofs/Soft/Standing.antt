-- Messages that a round leaves as they are stay so: every later round sends the same, and the results are the same. Assumes nothing.
use mathlib.Core.Path.{◌≡◌, ap, ◌∙◌}
use mathlib.Core.Bool.{◌&&◌, and-eq-true_iff}
use Prim.Native.Nat.{ℕ, zero, suc, ◌+◌, ◌-◌, ◌<◌}
use native.Mathlib.Nat.{suc-add, zero-add}
use native.Mathlib.Omega.{arith}
use Rattle.parity.specs.Matrix.{Matrix}
use Rattle.parity.specs.Soft.{Messages, settled, bit_sends, but, to_bits, to_checks, sent_after, result_after}
use Rattle.parity.specs.SoftPromises.{Agree}
use Rattle.parity.specs.declared.Channel.{Channel}
use Rattle.parity.proofs.Soft.Cong.{gathered_at, check_at'}

module _ (h : Matrix) (N M : ℕ) where
  heard_agree : (m m' : Messages) → Agree h N M m m' → (c b : ℕ) → c < M → to_bits h N m c b ≡ to_bits h N m' c b
  unfolding to_bits
  heard_agree m m' A c b k = check_at' N (λ a. h c a && but b a) (m c) (m' c) (λ a l t. A c a k l ((and-eq-true_iff (h c a) (but b a)).0 t).0)

  module _ (channel : ℕ → Channel) where
    abbrev sent : ℕ → Messages
    sent = sent_after h N M channel

    round_agree : (m m' : Messages) → Agree h N M m m' → (c b : ℕ) → to_checks h M channel (to_bits h N m) c b ≡ to_checks h M channel (to_bits h N m') c b
    unfolding to_checks bit_sends
    round_agree m m' A c b =
        ap settled (gathered_at (channel b) M (λ d. h d b && but c d) (λ d. to_bits h N m d b) (λ d. to_bits h N m' d b) (λ d k t. heard_agree m m' A d b k))

    module _ (r : ℕ) (A : Agree h N M (sent (suc r)) (sent r)) where
      pub sent_standing : (j : ℕ) → Agree h N M (sent (j + r)) (sent r)
      unfolding sent_after
      sent_standing zero c b k l e = ap (λ q. sent q c b) (zero-add r)
      sent_standing (suc j) c b k l e =
          ap (λ q. sent q c b) (suc-add j r) ∙ round_agree (sent (j + r)) (sent r) (sent_standing j) c b ∙ A c b k l e

      pub result_standing : (j b : ℕ) → result_after h N M channel (suc (j + r)) b ≡ result_after h N M channel (suc r) b
      unfolding result_after bit_sends
      result_standing j b =
          let p : suc (j + r) - 1 ≡ j + r = omega arith in
          let q : suc r - 1 ≡ r = omega arith in
          rw (p, q) (ap settled (gathered_at (channel b) M (λ d. h d b) (λ d. to_bits h N (sent (j + r)) d b) (λ d. to_bits h N (sent r) d b)
          (λ d k t. heard_agree (sent (j + r)) (sent r) (sent_standing j) d b k)))

      -- with every number of rounds above r
      pub result_ends : (q : ℕ) → r < q → (b : ℕ) → result_after h N M channel q b ≡ result_after h N M channel (suc r) b
      result_ends q k b = let e : suc (q - suc r + r) ≡ q = omega arith in rw e at (result_standing (q - suc r) b)
