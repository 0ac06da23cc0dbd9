-- The outcome of peeling, from the sets at which steps end. Assumes nothing.
use mathlib.Core.Path.{◌≡◌, ◌∙◌}
use mathlib.Core.Bool.{Bool, true, false}
use mathlib.Core.List.{List, []}
use Prim.Native.Nat.{ℕ, ◌+◌, ◌*◌, ◌-◌, ◌≤◌, ◌<◌}
use native.Mathlib.Omega.{arith}
use lib.ListN.{length}
use Rattle.parity.specs.Finite.{list_from}
use Rattle.parity.specs.Matrix.{Matrix, lent}
use Rattle.parity.specs.Words.{erased, peels, peeled}
use Rattle.parity.specs.Causes.{answer, refusal}
use Rattle.parity.specs.Calls.{byte_of, wrong_byte}
use Rattle.parity.proofs.Words.Steps.{Ended}
use Rattle.sets.specs.Sets.{SetOf}
use Rattle.sets.specs.Losses.{set_losses}
use Rattle.word.proofs.Solved.{solved_refused, solved_made}
use Rattle.result.specs.Result.{held, agreeing, filled}
use Rattle.result.proofs.Word.{result_losses, result_bytes}
use Rattle.steps.specs.Steps.{Settled}
use Rattle.steps.proofs.Held.{Held, held_ended, held_agrees}
use Rattle.steps.proofs.Start.{settled_held, settled_within}
use Rattle.peel.specs.Answers.{word_outcome}

module _ (W : ℕ) (h : Matrix) (n k M : ℕ) (w es os : List ℕ) (size : length w ≡ n + k) (few : length w ≤ W * 64) (right : wrong_byte 2 w ≡ false) (E : SetOf W w 2 es) (O : SetOf W w 1 os)
    (e o : ℕ → Bool) (S : Settled h (W * 64) M (lent W es 0) (lent W os 0) e o) where
  H : Held h (length w) M (byte_of w) e o
  H = settled_held W h M w es os few right E O e o S

  D : Ended h (n + k) M (byte_of w) (held e o)
  D = rw size at (held_ended h (W * 64) (length w) M few (byte_of w) e o H S.over)

  decides : peels h (n + k) M (byte_of w) ≡ agreeing h (W * 64) M e o
  decides = D.answers ∙ rw size at (held_agrees h (W * 64) (length w) M few (byte_of w) e o H)

  pub word_refused : agreeing h (W * 64) M e o ≡ false → word_outcome h n k M w ≡ record { reply = refusal 12 []; after = w }
  word_refused f = solved_refused n k w _ _ (decides ∙ f)

  pub word_made : agreeing h (W * 64) M e o ≡ true
      → word_outcome h n k M w ≡ record { reply = answer (set_losses n (W * 64 - n) (lent W es 0) e); after = list_from 0 (length w) (filled (lent W es 0) e o (byte_of w)) }
  word_made f =
      let a : peels h (n + k) M (byte_of w) ≡ true = decides ∙ f in
      let p = settled_within W h M w es os few right E O e o S in
      let r : ℕ → ℕ = peeled h (n + k) M (byte_of w) in
      let known : (b : ℕ) → b < n + k → erased (byte_of w) b ≡ false → r b ≡ byte_of w b = λ b l q. D.word a b l ∙ H.stage.known b (omega arith) q in
      solved_made n k w _ r _ _ a (result_losses W n k w es size few E e o p r (D.word a) known) (result_bytes W n k w es size few E e o p r (D.word a) known)
