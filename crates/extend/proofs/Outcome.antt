-- What extending answers and leaves, by the cause that refuses. Assumes nothing.
use mathlib.Core.Path.{◌≡◌}
use mathlib.Core.Bool.{true}
use mathlib.Core.List.{List, [], ◌∷◌}
use Prim.Native.Nat.{ℕ, ◌+◌}
use lib.ListN.{length}
use borrow.Author.Tests.{eq-eqb, ne_eqb}
use Rattle.parity.specs.Causes.{refusal, refusal_of}
use Rattle.parity.specs.Calls.{wrong_byte, wrong_place, accept_reply, extend_reply, extend_outcome}
use Rattle.parity.proofs.Matrix.Accept.{Accepted, passes}
use Rattle.parity.proofs.Causes.Refused.{refused_number, refused_same}

module _ (ws : List ℕ) (n m k : ℕ) (sent w : List ℕ) where
  -- by causes 1 to 4
  pub extend_refused : (r : Rattle.parity.specs.declared.Refusal.Refusal) → refusal_of r ≡ accept_reply ws n m k
      → extend_outcome ws n m k sent w ≡ record { reply = refusal_of r; after = w }
  unfolding extend_outcome extend_reply
  extend_refused r e = rw (← refused_same ws n m k r _ e, ne_eqb (refusal_of r).number 0 (refused_number r))

  module _ (A : Accepted ws n m k) where
    pub word_length : (length w ≡ n + k → ⊥) → extend_outcome ws n m k sent w ≡ record { reply = refusal 10 []; after = w }
    unfolding extend_outcome extend_reply
    word_length d = rw (passes ws n m k A, ne_eqb (length w) (n + k) d)

    module _ (l : length w ≡ n + k) where
      pub sent_length : (length sent ≡ n → ⊥) → extend_outcome ws n m k sent w ≡ record { reply = refusal 10 []; after = w }
      unfolding extend_outcome extend_reply
      sent_length d = rw (passes ws n m k A, eq-eqb (length w) (n + k) l, ne_eqb (length sent) n d)

      pub sent_byte : length sent ≡ n → wrong_byte 1 sent ≡ true
          → extend_outcome ws n m k sent w ≡ record { reply = refusal 11 (wrong_place 1 sent ∷ []); after = w }
      unfolding extend_outcome extend_reply
      sent_byte e b = rw (passes ws n m k A, eq-eqb (length w) (n + k) l, eq-eqb (length sent) n e, b)
