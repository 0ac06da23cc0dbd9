-- The outcome of determining, from the sets at which peeling and elimination end. Assumes nothing.
use mathlib.Core.Path.{◌≡◌, sym, ap, ◌∙◌}
use mathlib.Core.Bool.{Bool, true, false}
use mathlib.Core.List.{List, []}
use Prim.Native.Nat.{ℕ, ◌+◌, ◌*◌, ◌-◌, ◌≤◌, ◌<◌}
use native.Mathlib.Omega.{arith}
use lib.ListN.{length}
use borrow.Author.Tests.{eqb-false}
use Rattle.parity.specs.Finite.{list_from}
use Rattle.parity.specs.Matrix.{Matrix, lent}
use Rattle.parity.specs.Words.{erased, within}
use Rattle.parity.specs.Determining.{some_agrees, determined}
use Rattle.parity.specs.Causes.{answer, refusal}
use Rattle.parity.specs.Calls.{byte_of, wrong_byte}
use Rattle.parity.proofs.Finite.Sums.{byte_one}
use Rattle.parity.proofs.Words.Agreeing.{agree_stage, known_value, some_same, determined_same}
use Rattle.parity.proofs.Words.Bytes.{right_bytes}
use Rattle.parity.proofs.Words.Residue.{withins}
use Rattle.sets.specs.Sets.{SetOf}
use Rattle.sets.specs.Losses.{set_losses}
use Rattle.word.proofs.Solved.{solved_refused, solved_made}
use Rattle.result.specs.Result.{held, filled}
use Rattle.result.proofs.Word.{result_losses, result_bytes}
use Rattle.steps.specs.Steps.{Settled}
use Rattle.steps.proofs.Held.{Held}
use Rattle.steps.proofs.Start.{settled_held, settled_within}
use Rattle.residue.specs.Sets.{Apart, Determined}
use Rattle.determine.specs.Answers.{word_outcome}

module _ (W : ℕ) (h : Matrix) (n k M : ℕ) (w es os : List ℕ) (size : length w ≡ n + k) (few : length w ≤ W * 64) (right : wrong_byte 2 w ≡ false) (E : SetOf W w 2 es) (O : SetOf W w 1 os)
    (e o : ℕ → Bool) (S : Settled h (W * 64) M (lent W es 0) (lent W os 0) e o) where
  H : Held h (n + k) M (byte_of w) e o
  H = rw size at (settled_held W h M w es os few right E O e o S)

  -- what peeling leaves
  pub word_apart : Apart (n + k) e o
  word_apart = record { short_e = H.short_e; short_o = H.short_o; apart = H.apart }

  module _ (r : Bool) (e' o' : ℕ → Bool) (D : Determined h (n + k) M e o r e' o') where
    told : some_agrees h (n + k) M (byte_of w) ≡ r
    told = some_same h h (n + k) M M (byte_of w) (held e o) (agree_stage h (n + k) M (byte_of w) (held e o) H.stage) ∙ sym D.told

    pub word_within : within (W * 64) e' (lent W es 0) ≡ true
    word_within =
        (withins (W * 64) e' (lent W es 0)).1 (λ b l q. (withins (W * 64) e (lent W es 0)).0 (settled_within W h M w es os few right E O e o S) b l (D.fewer b q))

    pub word_refused : r ≡ false → word_outcome h n k M w ≡ record { reply = refusal 12 []; after = w }
    word_refused f = solved_refused n k w _ _ (told ∙ f)

    -- a bit that is not lost keeps its value
    keeps : r ≡ true → (b : ℕ) → b < n + k → erased (byte_of w) b ≡ false → determined h (n + k) M (byte_of w) b ≡ byte_of w b
    keeps t b l q = known_value h (n + k) M (byte_of w) (told ∙ t) b l q ∙ byte_one (byte_of w b) (below_two (byte_of w b) ((right_bytes 2 w).0 right b (omega arith)) (eqb-false (byte_of w b) 2 q))
      where
        below_two : (a : ℕ) → a ≤ 2 → (a ≡ 2 → ⊥) → a ≤ 1
        below_two a i j = omega arith

    pub word_made : r ≡ true
        → word_outcome h n k M w ≡ record { reply = answer (set_losses n (W * 64 - n) (lent W es 0) e'); after = list_from 0 (length w) (filled (lent W es 0) e' o' (byte_of w)) }
    word_made t =
        let d : ℕ → ℕ = determined h (n + k) M (byte_of w) in
        let held_at : (b : ℕ) → b < n + k → d b ≡ held e' o' b =
        λ b l. ap (λ (f : ℕ → ℕ). f b) (determined_same h h (n + k) M M (byte_of w) (held e o) (agree_stage h (n + k) M (byte_of w) (held e o) H.stage)) ∙ sym (D.word t b l) in
        solved_made n k w _ d _ _ (told ∙ t) (result_losses W n k w es size few E e' o' word_within d held_at (keeps t)) (result_bytes W n k w es size few E e' o' word_within d held_at (keeps t))
