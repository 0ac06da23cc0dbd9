-- What loading and writing answer and leave, by the cause that decides. Assumes nothing.
use mathlib.Core.Path.{◌≡◌, ap, ◌∙◌}
use mathlib.Core.Bool.{true, false}
use mathlib.Core.List.{List, [], ◌∷◌, ◌++◌}
use Prim.Native.Nat.{ℕ, ◌≤◌, ◌<◌}
use native.Mathlib.Omega.{arith}
use lib.ListN.{length, drop}
use borrow.Author.Tests.{eq-eqb, ne_eqb, lt-ltb, le-ltb}
use Rattle.parity.specs.Matrix.{Matrix, lent, pack, cause}
use Rattle.parity.specs.Splits.{not_built}
use Rattle.parity.specs.Record.{faulty, loaded, loading, written}
use Rattle.parity.specs.Causes.{Reply, answer, refusal, refusal_of}
use Rattle.parity.specs.Calls.{accept_reply, loaded_reply, loaded_words, load_outcome, write_outcome}
use Rattle.parity.specs.declared.Refusal.{Refusal}
use Rattle.parity.proofs.Causes.Refused.{refused_same}
use Rattle.parity.proofs.Matrix.Accept.{accepting_answers, accepting_refuses}

module _ (source ws : List ℕ) where
  pub load_length : (length ws ≡ 4096 → ⊥) → load_outcome source ws ≡ record { reply = refusal 1 []; after = ws }
  unfolding load_outcome
  load_length d = rw (ne_eqb (length ws) 4096 d)

  pub load_faulty : (place : ℕ) → length ws ≡ 4096 → loading source ≡ faulty place
      → load_outcome source ws ≡ record { reply = refusal 5 (place ∷ []); after = ws }
  unfolding load_outcome loaded_reply loaded_words
  load_faulty place e f = rw (eq-eqb (length ws) 4096 e, f)

  pub load_right : (n m k : ℕ) (h : Matrix) → length ws ≡ 4096 → loading source ≡ loaded n m k h
      → load_outcome source ws ≡ record { reply = answer (n ∷ m ∷ k ∷ []); after = pack 8 h }
  unfolding load_outcome loaded_reply loaded_words
  load_right n m k h e f = rw (eq-eqb (length ws) 4096 e, f)

module _ (ws : List ℕ) (n m k : ℕ) (target : List ℕ) where
  pub write_refused : (r : Refusal) → refusal_of r ≡ accept_reply ws n m k → write_outcome ws n m k target ≡ record { reply = refusal_of r; after = target }
  unfolding write_outcome
  write_refused r e =
      let d : cause ws n m k ≡ 0 → ⊥ =
      λ q.
      let a = refused_same ws n m k r (answer []) e ∙ accepting_answers ws n m k (answer []) q in
      let b = refused_same ws n m k r (refusal 1 []) e ∙ accepting_answers ws n m k (refusal 1 []) q in
      omega (arith, ap (λ (x : Reply). x.number) a, ap (λ (x : Reply). x.number) b) in
      let f : refusal_of r ≡ refusal (cause ws n m k) [] = refused_same ws n m k r (answer []) e ∙ accepting_refuses ws n m k (answer []) d in
      rw (accepting_refuses ws n m k _ d, ne_eqb (cause ws n m k) 0 d, f)

  module _ (a : cause ws n m k ≡ 0) where
    pub write_unbuilt : not_built (lent 8 ws) n m k ≡ true → write_outcome ws n m k target ≡ record { reply = refusal 16 []; after = target }
    unfolding write_outcome
    write_unbuilt e = rw (accepting_answers ws n m k _ a, e)

    module _ (b : not_built (lent 8 ws) n m k ≡ false) where
      pub write_short : length target < length (written (lent 8 ws) n m k)
          → write_outcome ws n m k target ≡ record { reply = refusal 6 (length (written (lent 8 ws) n m k) ∷ []); after = target }
      unfolding write_outcome
      write_short l = rw (accepting_answers ws n m k _ a, b, lt-ltb (length target) (length (written (lent 8 ws) n m k)) l)

      pub write_made : length (written (lent 8 ws) n m k) ≤ length target
          → write_outcome ws n m k target ≡ record {
            reply = answer (length (written (lent 8 ws) n m k) ∷ []);
            after = written (lent 8 ws) n m k ++ drop (length (written (lent 8 ws) n m k)) target;
          }
      unfolding write_outcome
      write_made l = rw (accepting_answers ws n m k _ a, b, le-ltb (length target) (length (written (lent 8 ws) n m k)) l)
