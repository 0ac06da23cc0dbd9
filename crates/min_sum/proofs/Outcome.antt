-- From the reply to the outcome. Assumes nothing.
use mathlib.Core.Path.{◌≡◌, refl, sym, ◌∙◌}
use mathlib.Core.Bool.{true, false}
use mathlib.Core.List.{List, []}
use Prim.Native.Nat.{ℕ, ◌+◌}
use native.Mathlib.Omega.{arith}
use lib.Dec.{eqb}
use borrow.Author.Tests.{ne_eqb}
use lib.Ieee.{Float}
use Rattle.parity.specs.Matrix.{lent}
use Rattle.parity.specs.Causes.{Reply, answer, accepting}
use Rattle.parity.specs.Calls.{accept_reply}
use Rattle.parity.proofs.Matrix.Accept.{Accepted}
use Rattle.parity.proofs.Causes.Refused.{accepted_passes}
use Rattle.parity.specs.Soft.{message_at, result_after}
use Rattle.parity.specs.SoftCall.{soft_reply, min_sum_reply, min_sum_outcome}
use Rattle.parity.proofs.Soft.Cong.{result_same}
use Rattle.min_sum.specs.Answers.{Results}
use Rattle.min_sum.proofs.Told.{held_word, held_floats}

module _ (ws : List ℕ) (n m k rounds : ℕ) (word : List ℕ) (floats : List Float) (tags : List ℕ) (values : List Float) where
  pub reply_after : accepting ws n m k (soft_reply (n + k) rounds word floats tags values) ≡ min_sum_reply ws n m k rounds word floats tags values
  unfolding min_sum_reply
  reply_after = refl

  abbrev Leaves : Reply → List ℕ → List Float → List ℕ → List Float → Type 0
  Leaves r w f t v = (r ≡ (min_sum_outcome ws n m k rounds word floats tags values).reply) × ((w ≡ (min_sum_outcome ws n m k rounds word floats tags values).word)
      × ((f ≡ (min_sum_outcome ws n m k rounds word floats tags values).floats) × ((t ≡ (min_sum_outcome ws n m k rounds word floats tags values).bytes_of_messages)
      × (v ≡ (min_sum_outcome ws n m k rounds word floats tags values).floats_of_messages))))

  pub leaves : (r : Reply) → (r.number ≡ 0 → ⊥) → r ≡ min_sum_reply ws n m k rounds word floats tags values → Leaves r word floats tags values
  unfolding min_sum_outcome
  leaves r z e =
      let q : eqb (min_sum_reply ws n m k rounds word floats tags values).number 0 ≡ false = rw (← e) (ne_eqb r.number 0 z) in
      (e, (rw q, (rw q, (rw q, rw q))))

  pub answers : Accepted ws n m k → answer [] ≡ min_sum_reply ws n m k rounds word floats tags values → (w : List ℕ) (f : List Float) (t : List ℕ) (v : List Float)
      → Results (n + k) (result_after (lent 8 ws) 512 (m + k) (message_at word floats) rounds) w f t v → Leaves (answer []) w f t v
  unfolding min_sum_outcome
  answers A e w f t v M =
      let q : eqb (min_sum_reply ws n m k rounds word floats tags values).number 0 ≡ true = rw (← e) in
      let g = result_same (lent 8 ws) (n + k) (m + k) (omega (arith, A.sound.n120, A.sound.k392)) A.sound.clean.bits (message_at word floats) rounds in
      (e, (rw q (held_word (n + k) _ _ w f M.held g), (rw q (held_floats (n + k) _ _ w f M.held g), (rw q M.tags_zero, rw q M.values_zero))))

  pub after_reply : answer [] ≡ accept_reply ws n m k → (r : Reply) → r ≡ soft_reply (n + k) rounds word floats tags values → r ≡ min_sum_reply ws n m k rounds word floats tags values
  after_reply e r q = q ∙ sym (accepted_passes ws n m k e (soft_reply (n + k) rounds word floats tags values)) ∙ reply_after
