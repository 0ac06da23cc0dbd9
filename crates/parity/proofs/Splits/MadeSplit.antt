-- What a made split does to counting, taking back, verifying and testing sets, as these calls answer. Assumes nothing.
use mathlib.Core.Path.{◌≡◌, ◌∙◌}
use mathlib.Core.Bool.{false, xor}
use mathlib.Core.List.{List, [], ◌∷◌, ◌++◌}
use Prim.Native.Nat.{ℕ, suc, ◌+◌, ◌-◌, ◌≤◌, ◌<◌}
use native.Mathlib.Nat.{add-suc}
use native.Mathlib.Omega.{arith}
use native.Mathlib.Decide.{ℕ_discrete}
use lib.ListN.{take, length-append, get_or-append}
use lib.Seq.{get_or_at}
use Rattle.parity.specs.Finite.{one}
use Rattle.parity.specs.Matrix.{Matrix, lent, pack}
use Rattle.parity.specs.Cycles.{share, pairs, cycles, split_of, taken_back}
use Rattle.parity.specs.Words.{is_one}
use Rattle.parity.specs.Causes.{answer}
use Rattle.parity.specs.Calls.{byte_of, not_pair, count_reply, take_back_outcome, verify_reply, is_stopping_reply}
use Rattle.parity.proofs.Finite.Sums.{one≤1, eqb_one}
use Rattle.parity.proofs.Splits.Split.{Stops, split_even, split_stops}
use Rattle.parity.proofs.Splits.Cycles.{split_cycles}
use Rattle.parity.proofs.Splits.Back.{split_back, split_others}
use Rattle.parity.proofs.Matrix.Accept.{Accepted, pack_words}
use Rattle.parity.proofs.Words.Extend.{inside_cong}
use Rattle.parity.proofs.Words.Bytes.{Word, Codeword, take_word, take_even, take_stops}
use Rattle.parity.proofs.Splits.Splitting.{is_pair, counts, split_accepted, split_lent, back_made}
use Rattle.parity.proofs.Words.Verifying.{verified, verifies, list_stops, stops_list}

module _ (ws : List ℕ) (n m k : ℕ) (A : Accepted ws n m k) (u v : ℕ) (p : not_pair (n + k) u v ≡ false) (s : 2 ≤ share (lent 8 ws) (m + k) u v) (l : k ≡ 392 → ⊥) where
  abbrev g : Matrix
  g = split_of (lent 8 ws) (n + k) (m + k) u v

  B : Accepted (pack 8 g) n m (suc k)
  B = split_accepted ws n m k A u v p s l

  g_lent : lent 8 (pack 8 g) ≡ g
  g_lent = split_lent ws n m k A u v p s l

  -- taking back gives the same words and k, and the same s
  pub made_taken_back : take_back_outcome (pack 8 g) n m (suc k) ≡ record { reply = answer (share (lent 8 ws) (m + k) u v ∷ k ∷ []); after = ws }
  made_taken_back =
      let (un, vn, uv) = is_pair (n + k) u v p in
      let e : suc k - 1 ≡ k = omega arith in
      let b : taken_back (lent 8 (pack 8 g)) (n + (suc k - 1)) (m + (suc k - 1)) ≡ lent 8 ws =
      rw (e, g_lent) (split_back (lent 8 ws) (n + k) (m + k) u v un vn A.sound.clean) in
      back_made (pack 8 g) n m (suc k) B (λ q. omega arith) (rw (b, e) A.sound.rule)
      ∙ rw (b, e, g_lent, split_others (lent 8 ws) (n + k) (m + k) u v un vn, pack_words ws n m k A)

  -- the cycle count after it plus s (s - 1) / 2 is at most that before
  pub split_counts : count_reply (pack 8 g) n m (suc k) ≡ answer (cycles g (suc (n + k)) (suc (m + k)) ∷ [])
  split_counts = counts (pack 8 g) n m (suc k) B ∙ rw (g_lent, add-suc n k, add-suc m k)

  pub split_falls : cycles g (suc (n + k)) (suc (m + k)) + pairs (share (lent 8 ws) (m + k) u v) ≤ cycles (lent 8 ws) (n + k) (m + k)
  split_falls = let (un, vn, uv) = is_pair (n + k) u v p in split_cycles (lent 8 ws) (n + k) (m + k) u v un vn uv

  -- a codeword of the split matrix begins with one of the matrix
  pub split_verifies : (y : List ℕ) → verify_reply (pack 8 g) n m (suc k) y ≡ answer (1 ∷ []) → verify_reply ws n m k (take (n + k) y) ≡ answer (1 ∷ [])
  split_verifies y e =
      let (un, vn, uv) = is_pair (n + k) u v p in
      let C : Codeword g (suc (n + k)) (suc (m + k)) y = rw (g_lent, add-suc n k, add-suc m k) at (verifies (pack 8 g) n m (suc k) B y e) in
      verified ws n m k A (take (n + k) y) record {
        word = take_word (n + k) (suc (n + k)) 1 y C.word (omega arith);
        even = take_even (n + k) (suc (n + k)) 1 y C.word (omega arith) (lent 8 ws) (m + k)
            ((split_even (lent 8 ws) (n + k) (m + k) u v un vn uv (is_one (byte_of y))).0 C.even).0;
      }

  -- and a codeword of the matrix begins one of the split matrix, whose new bit is the sum of the two
  pub verifies_split : (x : List ℕ) → verify_reply ws n m k x ≡ answer (1 ∷ [])
      → verify_reply (pack 8 g) n m (suc k) (x ++ (one (xor (is_one (byte_of x) u) (is_one (byte_of x) v)) ∷ [])) ≡ answer (1 ∷ [])
  verifies_split x e =
      let (un, vn, uv) = is_pair (n + k) u v p in
      let C = verifies ws n m k A x e in
      let z = one (xor (is_one (byte_of x) u) (is_one (byte_of x) v)) in
      let old : (b : ℕ) → b < n + k → byte_of (x ++ (z ∷ [])) b ≡ byte_of x b = λ b q. get_or-append x (z ∷ []) 0 b (omega (arith, C.word.size)) in
      let last : byte_of (x ++ (z ∷ [])) (n + k) ≡ z = get_or_at x z [] 0 (n + k) C.word.size in
      verified (pack 8 g) n m (suc k) B (x ++ (z ∷ [])) (rw (g_lent, add-suc n k, add-suc m k) record {
        word = record {
          size = length-append x (z ∷ []) ∙ rw C.word.size (omega arith);
          bytes = λ b q. elim (ℕ_discrete b (n + k)) [
            | yes r ↦ rw (r, last) (one≤1 (xor (is_one (byte_of x) u) (is_one (byte_of x) v)))
            | no r ↦ rw (old b (omega arith)) (C.word.bytes b (omega arith))
          ];
        };
        even = (split_even (lent 8 ws) (n + k) (m + k) u v un vn uv (is_one (byte_of (x ++ (z ∷ []))))).1 (
          λ c q. rw (inside_cong (lent 8 ws) (n + k) c {w = is_one (byte_of (x ++ (z ∷ [])))} {x = is_one (byte_of x)} (λ b t. rw (old b t))) (C.even c q),
          rw (last, old u un, old v vn) (eqb_one (xor (is_one (byte_of x) u) (is_one (byte_of x) v))),
        );
      })

  -- a stopping set of the split matrix is one of the matrix, without the new bit
  pub split_stopping : (t : List ℕ) → is_stopping_reply (pack 8 g) n m (suc k) t ≡ answer (1 ∷ [])
      → is_stopping_reply ws n m k (take (n + k) t) ≡ answer (1 ∷ [])
  split_stopping t e =
      let (un, vn, uv) = is_pair (n + k) u v p in
      let (T, S) = stops_list (pack 8 g) n m (suc k) B t e in
      let W : Word (suc (n + k)) 1 t = rw (add-suc n k) at T in
      let S' : Stops g (suc (n + k)) (suc (m + k)) (is_one (byte_of t)) = rw (g_lent, add-suc n k, add-suc m k) at S in
      list_stops ws n m k A (take (n + k) t) (take_word (n + k) (suc (n + k)) 1 t W (omega arith))
      (take_stops (n + k) (suc (n + k)) 1 t W (omega arith) (lent 8 ws) (m + k) (split_stops (lent 8 ws) (n + k) (m + k) u v un vn uv (is_one (byte_of t)) S'))
