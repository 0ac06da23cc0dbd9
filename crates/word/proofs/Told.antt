-- What verifying and testing a set answer, from the set that the bytes make. Assumes nothing.
use mathlib.Core.Path.{◌≡◌, sym, ap, ◌∙◌}
use mathlib.Core.Bool.{Bool, true, false, not}
use mathlib.Core.List.{List, [], ◌∷◌}
use Prim.Native.Nat.{ℕ, ◌+◌, ◌%◌, ◌≤◌}
use lib.Dec.{eqb, ltb, leb}
use lib.ListN.{length}
use borrow.Author.Tests.{eq-eqb, ltb-true, lt-leb, le-leb}
use Rattle.parity.specs.Finite.{one}
use Rattle.parity.specs.Matrix.{Matrix, lent}
use Rattle.parity.specs.Words.{is_one, even_checks, codeword, stopping}
use Rattle.parity.specs.Causes.{Reply, answer, refusal_of, accepting}
use Rattle.parity.specs.Calls.{byte_of, wrong_byte, checking_bytes, verify_reply, is_stopping_reply}
use Rattle.parity.specs.declared.Refusal.{Refusal}
use Rattle.parity.proofs.Finite.Sums.{any_at, all_of, all_false}
use Rattle.parity.proofs.Matrix.Accept.{Accepted, accepts, accepting_answers}
use Rattle.parity.proofs.Words.Bytes.{right_bytes, Word, word_right}
use Rattle.parity.proofs.Finite.Firsts.{all_cong}
use Rattle.parity.proofs.Causes.Admit.{admitted, admit_first}
use Rattle.word.specs.Answers.{admit_reply}
use Rattle.sets.specs.Sets.{SetOf}
use Rattle.sets.proofs.Making.{set_inside}

module _ (h : Matrix) (M : ℕ) (w : List ℕ) where
  -- a byte above 1 is in no codeword
  pub codeword_not : wrong_byte 1 w ≡ true → codeword h (length w) M (byte_of w) ≡ false
  unfolding codeword wrong_byte
  codeword_not e =
      let (b, k, p) = any_at (length w) (λ b. ltb 1 (byte_of w b)) e in
      rw (all_false (length w) (λ b. leb (byte_of w b) 1) b k (lt-leb (byte_of w b) 1 (ltb-true 1 (byte_of w b) p)))

  -- among so many bits that all bytes are
  module _ (W : ℕ) (r : List ℕ) (S : SetOf W w 1 r) (N : ℕ) (l : length w ≤ N) where
    pub codeword_is : wrong_byte 1 w ≡ false → even_checks h N M (lent W r 0) ≡ codeword h (length w) M (byte_of w)
    unfolding codeword even_checks
    codeword_is e =
        rw (all_of (length w) (λ b. leb (byte_of w b) 1) (λ b k. le-leb (byte_of w b) 1 ((right_bytes 1 w).0 e b k)))
        (all_cong M (λ c k. ap (λ a. eqb (a % 2) 0) (set_inside W h N c w 1 r S l)))

    pub stopping_is : stopping h N M (lent W r 0) ≡ stopping h (length w) M (is_one (byte_of w))
    unfolding stopping
    stopping_is = all_cong M (λ c k. ap (λ a. not (eqb a 1)) (set_inside W h N c w 1 r S l))

module _ (ws : List ℕ) (n m k : ℕ) (w : List ℕ) (top : ℕ) where
  -- what causes 1 to 4, 10 and 11 leave
  pub taken : answer [] ≡ admit_reply ws n m k w top → Accepted ws n m k × Word (n + k) top w
  unfolding admit_reply
  taken e = admitted ws n m k (n + k) top w e

  -- what comes behind them
  behind : answer [] ≡ admit_reply ws n m k w top → (after : Reply) → accepting ws n m k (checking_bytes (n + k) top w after) ≡ after
  behind e after =
      let (A, W) = taken e in
      accepting_answers ws n m k (checking_bytes (n + k) top w after) ((accepts ws n m k).1 A)
      ∙ rw (eq-eqb (length w) (n + k) W.size, word_right (n + k) top w W)

  pub refused : (r : Refusal) → refusal_of r ≡ admit_reply ws n m k w top → (after : Reply) → refusal_of r ≡ accepting ws n m k (checking_bytes (n + k) top w after)
  unfolding admit_reply
  refused r e after = admit_first ws n m k (n + k) top w r e after

module _ (ws : List ℕ) (n m k : ℕ) (w : List ℕ) where
  pub verify_told : answer [] ≡ admit_reply ws n m k w 2 → (r : Bool) → r ≡ codeword (lent 8 ws) (length w) (m + k) (byte_of w)
      → answer (one r ∷ []) ≡ verify_reply ws n m k w
  unfolding verify_reply
  verify_told e r q =
      let (A, W) = taken ws n m k w 2 e in
      sym (behind ws n m k w 2 e (answer (one (codeword (lent 8 ws) (n + k) (m + k) (byte_of w)) ∷ [])) ∙ rw (q, W.size))

  pub stopping_told : answer [] ≡ admit_reply ws n m k w 1 → (r : Bool) → r ≡ stopping (lent 8 ws) (length w) (m + k) (is_one (byte_of w))
      → answer (one r ∷ []) ≡ is_stopping_reply ws n m k w
  unfolding is_stopping_reply
  stopping_told e r q =
      let (A, W) = taken ws n m k w 1 e in
      sym (behind ws n m k w 1 e (answer (one (stopping (lent 8 ws) (n + k) (m + k) (is_one (byte_of w))) ∷ [])) ∙ rw (q, W.size))
