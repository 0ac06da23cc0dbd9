-- What verifying, testing a set and extending answer and write where no cause refuses. Assumes nothing.
use mathlib.Core.Path.{◌≡◌, refl, sym, ap, ◌∙◌}
use mathlib.Core.Bool.{Bool, true, false, and-eq-true_iff}
use mathlib.Core.List.{List, [], ◌∷◌}
use Prim.Native.Nat.{ℕ, ◌+◌, ◌<◌}
use native.Mathlib.Nat.{zero-add}
use native.Mathlib.Omega.{arith}
use lib.Dec.{eqb, leb}
use lib.ListN.{get_or, length, take}
use lib.Seq.{ext_get_or, get_or-take}
use borrow.Author.Tests.{eq-eqb, leb-true, le-leb}
use Rattle.parity.specs.Finite.{one, all, list_from}
use Rattle.parity.specs.Matrix.{Matrix, lent}
use Rattle.parity.specs.Words.{is_one, even_checks, codeword, extended, stopping}
use Rattle.parity.specs.Causes.{answer}
use Rattle.parity.specs.Calls.{byte_of, checking_bytes, verify_reply, extend_reply, extend_outcome, is_stopping_reply}
use Rattle.parity.proofs.Finite.Sums.{all_at, all_of, byte_one}
use Rattle.parity.proofs.Finite.Lists.{length_list_from, at_list_from}
use Rattle.parity.proofs.Splits.Split.{Stops, stops, evens}
use Rattle.parity.proofs.Matrix.Accept.{Accepted, passes}
use Rattle.parity.proofs.Words.Extend.{extend_only}
use Rattle.parity.proofs.Words.Bytes.{Word, word_right, read_word, Codeword}

is_one_lem : (c : Bool) → one c ≡ 1 → c ≡ true
is_one_lem true q = refl
is_one_lem false q = absurd (omega arith)

module _ (ws : List ℕ) (n m k : ℕ) (A : Accepted ws n m k) where
  abbrev h : Matrix
  h = lent 8 ws

  abbrev N : ℕ
  N = n + k

  abbrev M : ℕ
  M = m + k

  -- Verifying is yes exactly for codewords.
  verify_word : (w : List ℕ) → Word N 2 w → verify_reply ws n m k w ≡ answer (one (codeword h N M (byte_of w)) ∷ [])
  unfolding verify_reply
  verify_word w W = rw (passes ws n m k A, eq-eqb (length w) N W.size, word_right N 2 w W)

  pub verified : (w : List ℕ) → Codeword h N M w → verify_reply ws n m k w ≡ answer (1 ∷ [])
  unfolding codeword
  verified w C =
      verify_word w record { size = C.word.size; bytes = λ b l. omega (arith, C.word.bytes b l) }
      ∙ rw (all_of N (λ b. leb (byte_of w b) 1) (λ b l. le-leb (byte_of w b) 1 (C.word.bytes b l)), (evens h N M (is_one (byte_of w))).1 C.even)

  pub verifies : (w : List ℕ) → verify_reply ws n m k w ≡ answer (1 ∷ []) → Codeword h N M w
  unfolding verify_reply codeword
  verifies w e =
      let c = codeword h N M (byte_of w) in
      let f : checking_bytes N 2 w (answer (one c ∷ [])) ≡ answer (1 ∷ []) = sym (passes ws n m k A _) ∙ e in
      let (W, g) = read_word N 2 w (answer (one c ∷ [])) (ap (λ r. r.number) f) in
      let (a, b) = (and-eq-true_iff (all N (λ b. leb (byte_of w b) 1)) (even_checks h N M (is_one (byte_of w)))).0
      (is_one_lem c (ap (λ r. get_or r.values 0 0) (sym g ∙ f))) in
      record {
        word = record { size = W.size; bytes = λ b l. leb-true (byte_of w b) 1 (all_at N (λ b. leb (byte_of w b) 1) a b l) };
        even = (evens h N M (is_one (byte_of w))).0 b;
      }

  -- Testing a set is yes exactly for stopping sets.
  pub list_stops : (t : List ℕ) → Word N 1 t → Stops h N M (is_one (byte_of t)) → is_stopping_reply ws n m k t ≡ answer (1 ∷ [])
  unfolding is_stopping_reply
  list_stops t W S = rw (passes ws n m k A, eq-eqb (length t) N W.size, word_right N 1 t W, (stops h N M (is_one (byte_of t))).1 S)

  pub stops_list : (t : List ℕ) → is_stopping_reply ws n m k t ≡ answer (1 ∷ []) → Word N 1 t × Stops h N M (is_one (byte_of t))
  unfolding is_stopping_reply
  stops_list t e =
      let c = stopping h N M (is_one (byte_of t)) in
      let f : checking_bytes N 1 t (answer (one c ∷ [])) ≡ answer (1 ∷ []) = sym (passes ws n m k A _) ∙ e in
      let (W, g) = read_word N 1 t (answer (one c ∷ [])) (ap (λ r. r.number) f) in
      (W, (stops h N M (is_one (byte_of t))).0 (is_one_lem c (ap (λ r. get_or r.values 0 0) (sym g ∙ f))))

  -- Extending writes the one extended codeword that the sent bytes begin.
  pub extends : (sent held : List ℕ) → Word n 1 sent → length held ≡ N
      → extend_outcome ws n m k sent held ≡ record { reply = answer []; after = list_from 0 N (λ b. one (extended h n m k (is_one (byte_of sent)) b)) }
  unfolding extend_outcome extend_reply
  extends sent held S l = rw (passes ws n m k A, eq-eqb (length held) N l, eq-eqb (length sent) n S.size, word_right n 1 sent S)

  -- It is the only completion: any codeword that begins so is what extending writes.
  pub completes : (sent y : List ℕ) → Word n 1 sent → Codeword h N M y → take n y ≡ sent
      → y ≡ list_from 0 N (λ b. one (extended h n m k (is_one (byte_of sent)) b))
  completes sent y S C e =
      let f : ℕ → ℕ = λ b. one (extended h n m k (is_one (byte_of sent)) b) in
      ext_get_or 0 y (list_from 0 N f) (C.word.size ∙ sym (length_list_from 0 N f)) (λ b l.
      let k : b < N = omega (arith, C.word.size) in
      sym (byte_one (byte_of y b) (C.word.bytes b k))
      ∙ ap one (extend_only h n m _ A.sound.rule (is_one (byte_of sent)) (is_one (byte_of y)) (λ j q. C.even (m + j) (omega arith))
      (λ b q. ap (λ a. eqb a 1) (sym (get_or-take n y b 0 q) ∙ ap (λ w. byte_of w b) e)) b k)
      ∙ ap f (sym (zero-add b)) ∙ sym (at_list_from 0 N f b k))
