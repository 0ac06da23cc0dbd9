-- The sets that the bytes of a word make hold it, and those that steps lead to hold a stage of peeling. Assumes nothing.
use mathlib.Core.Path.{◌≡◌, sym, ap, ◌∙◌, fun_ext}
use mathlib.Core.Bool.{Bool, true, false, false≢true}
use mathlib.Core.List.{List}
use Prim.Native.Nat.{ℕ, ◌*◌, ◌≤◌}
use native.Mathlib.Omega.{arith}
use native.Mathlib.Decide.{dec_lt}
use lib.ListN.{length, get_or-eq_default}
use borrow.Author.Tests.{lt-ltb, le-ltb, eqb-true}
use Rattle.parity.specs.Matrix.{Matrix, lent}
use Rattle.parity.specs.Words.{within}
use Rattle.parity.specs.Calls.{byte_of, wrong_byte}
use Rattle.parity.proofs.Words.Residue.{withins}
use Rattle.parity.proofs.Words.Steps.{stage_start}
use Rattle.parity.proofs.Words.Bytes.{right_bytes, erasable_of}
use Rattle.sets.specs.Sets.{SetOf, Short}
use Rattle.sets.proofs.Short.{set_short}
use Rattle.result.specs.Result.{held}
use Rattle.result.proofs.Word.{erased_held, lost_is}
use Rattle.steps.specs.Steps.{Settled}
use Rattle.steps.proofs.Held.{Held, held_reached}

module _ (W : ℕ) (h : Matrix) (M : ℕ) (w es os : List ℕ) (few : length w ≤ W * 64) (right : wrong_byte 2 w ≡ false) (E : SetOf W w 2 es) (O : SetOf W w 1 os) where
  -- the sets that the bytes make hold the word
  bytes_held : held (lent W es 0) (lent W os 0) ≡ byte_of w
  bytes_held = fun_ext (λ b. rw (E.at b, O.at b) (elim (dec_lt b (length w)) [
    | yes l ↦ rw (lt-ltb b (length w) l) (erasable_of (byte_of w b) ((right_bytes 2 w).0 right b l))
    | no l ↦ rw (le-ltb b (length w) (omega arith), get_or-eq_default w 0 {n = b} (omega arith))
  ]))

  held_start : Held h (length w) M (byte_of w) (lent W es 0) (lent W os 0)
  held_start = record {
    apart = λ a p. elim (dec_lt a (length w)) [
      | yes l ↦
          let q : byte_of w a ≡ 2 = eqb-true (byte_of w a) 2 (rw (lt-ltb a (length w) l) at (sym (E.at a) ∙ p)) in
          O.at a ∙ rw (lt-ltb a (length w) l, q)
      | no l ↦ O.at a ∙ rw (le-ltb a (length w) (omega arith))
    ];
    short_e = (set_short W w 2 es E).none;
    short_o = (set_short W w 1 os O).none;
    stage = rw bytes_held (stage_start h (length w) M (byte_of w) ((right_bytes 2 w).0 right));
  }

  module _ (e o : ℕ → Bool) (S : Settled h (W * 64) M (lent W es 0) (lent W os 0) e o) where
    -- they lead to sets that hold a stage of peeling
    pub settled_held : Held h (length w) M (byte_of w) e o
    settled_held = held_reached h (W * 64) (length w) M few (byte_of w) (lent W es 0) (lent W os 0) e o S.reached held_start

    -- which have no bit of their number or above
    pub settled_short : (N : ℕ) → length w ≤ N → Short N e × Short N o
    settled_short N l = (record { none = λ b k. settled_held.short_e b (omega arith) }, record { none = λ b k. settled_held.short_o b (omega arith) })

    -- and are erased bits of the word
    pub settled_within : within (W * 64) e (lent W es 0) ≡ true
    settled_within = (withins (W * 64) e (lent W es 0)).1 (λ b l q. elim (dec_lt b (length w)) [
      | yes m ↦ sym (lost_is W w es E b m) ∙ settled_held.stage.shrinks b m (ap (λ (f : ℕ → Bool). f b) (erased_held e o) ∙ q)
      | no m ↦ absurd (false≢true (sym (settled_held.short_e b (omega arith)) ∙ q))
    ])
