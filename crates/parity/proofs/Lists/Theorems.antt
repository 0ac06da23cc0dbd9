-- What document 000 proves of its algorithm, as the calls answer: Theorem 1 and Lemma 3 by counting, Theorem 5, Theorem 6 over every list of calls, and the
-- bound on the auxiliary variables with Theorem 4. Assumes nothing.
use mathlib.Core.Path.{◌≡◌, refl, sym, ap, ◌∙◌}
use mathlib.Core.Bool.{Bool, true, false}
use mathlib.Core.List.{List, [], ◌∷◌}
use Prim.Native.Nat.{ℕ, zero, suc, ◌+◌, ◌≤◌, ◌<◌}
use native.Mathlib.Nat.{add-suc, add-zero}
use native.Mathlib.Omega.{arith}
use native.Mathlib.Decide.{ℕ_discrete}
use lib.ListN.{get_or, take}
use borrow.Author.Tests.{eqb-false, ne_eqb}
use Rattle.parity.specs.Matrix.{Matrix, lent, pack, rule_a, cause}
use Rattle.parity.specs.Cycles.{share, cycles, split_of, largest_share, lower_bit, higher_bit, Orthogonalised}
use Rattle.parity.specs.Words.{is_one, inside}
use Rattle.parity.specs.Causes.{Reply, answer, Outcome}
use Rattle.parity.specs.Calls.{byte_of, count_reply, orthogonalising, orthogonalised_reply, orthogonalise_outcome, is_stopping_reply}
use Rattle.parity.specs.Demand3.{Call, runs, start}
use Rattle.parity.specs.ArticlePromises.{CountsFourCycles, CountsFewer, OrthogonalisingFinishes, AddedBitsDoNotStop, SentBitsStop}
use Rattle.parity.proofs.Finite.Sums.{is_true, is_false, is}
use Rattle.parity.proofs.Splits.Pairs.{pairs_two}
use Rattle.parity.proofs.Splits.Split.{Stops}
use Rattle.parity.proofs.Splits.Cycles.{split_cycles}
use Rattle.parity.proofs.Matrix.Accept.{Accepted, accepts}
use Rattle.parity.proofs.Splits.Pick.{picked, no_cycles, some_cycles}
use Rattle.parity.proofs.Splits.Orthogonal.{At, keeps}
use Rattle.parity.proofs.Words.Extend.{own_check}
use Rattle.parity.proofs.Encoding.Dependent.{inside_zero}
use Rattle.parity.proofs.Words.Bytes.{take_word, take_stops}
use Rattle.parity.proofs.Splits.Splitting.{counts, split_made, orthogonalises, orthogonal_accepted, orthogonal_lent, orthogonal_ends}
use Rattle.parity.proofs.Splits.MadeSplit.{split_counts, split_falls}
use Rattle.parity.proofs.Causes.Admit.{accepted_number}
use Rattle.parity.proofs.Words.Verifying.{list_stops, stops_list}
use Rattle.parity.proofs.Lists.Built.{good}
use Rattle.parity.proofs.Lists.Chain.{refused, made, split_case, answered, stands_start, stands_runs}
use Rattle.parity.proofs.Lists.Article.{theorem_1}

-- Theorem 5: of the sets of added bits only the empty one is a stopping set, for every accepted matrix.
module _ (h : Matrix) (n m k : ℕ) (A : rule_a h n m k ≡ true) (s : ℕ → Bool) (t : Stops h (n + k) (m + k) s)
    (f : (b : ℕ) → b < n → s b ≡ false) where
  up_to : (i : ℕ) → i ≤ k → (b : ℕ) → b < n + i → s b ≡ false
  up_to zero l b q = f b (omega arith)
  up_to (suc i) l b q =
      elim (ℕ_discrete b (n + i)) [
        | no d ↦ up_to i (omega arith) b (omega arith)
        | yes e ↦ elim (is (s (n + i))) [
          | is_false r ↦ rw e r
          | is_true r ↦
              let z : inside h (n + i) (m + i) s ≡ 0 = inside_zero h (n + i) (m + i) s (λ a j p. up_to i (omega arith) a j) in
              absurd (t (m + i) (omega arith) (own_check h n m k A i l s ∙ rw (z, r)))
        ]
      ]

  pub added_stop : (b : ℕ) → b < n + k → s b ≡ false
  added_stop = up_to k (omega arith)

-- As testing a set answers: one without a sent bit has no bit.
pub added_bits_do_not_stop : AddedBitsDoNotStop
added_bits_do_not_stop ws n m k a t e f b l =
    let A = (accepts ws n m k).0 a in
    let (W, S) = stops_list ws n m k A t e in
    let none = added_stop (lent 8 ws) n m k A.sound.rule (is_one (byte_of t)) S (λ b l. ne_eqb (byte_of t b) 1 (λ q. omega (arith, f b l))) b l in
    omega (arith, W.bytes b l, eqb-false (byte_of t b) 1 none)

pub theorem_5 : (ws : List ℕ) (n m k : ℕ) → cause ws n m k ≡ 0 → (t : List ℕ) → is_stopping_reply ws n m k t ≡ answer (1 ∷ [])
    → ((b : ℕ) → b < n → byte_of t b ≡ 0) → (b : ℕ) → b < n + k → byte_of t b ≡ 0
theorem_5 = added_bits_do_not_stop

-- Theorem 6, after every list of calls: the sent bits of a stopping set of the extended matrix are one of the given matrix.
pub sent_bits_stop : SentBitsStop
sent_bits_stop given n m a cs t e =
    let s = runs n m (start given) cs in
    let A = (accepts given n m 0).0 a in
    let S = stands_runs given n m A cs (start given) (stands_start given n m A) in
    let (W, T) = stops_list s.words n m s.k S.accepted t e in
    list_stops given n m 0 A (take n t)
    (rw (add-zero n) (take_word n (n + s.k) 1 t W (omega arith)))
    (rw (add-zero n, add-zero m) (take_stops n (n + s.k) 1 t W (omega arith) (lent 8 given) m ((good (lent 8 given) n m A.sound S.built).stops (is_one (byte_of t)) T)))

pub theorem_6 : (given : List ℕ) (n m : ℕ) → cause given n m 0 ≡ 0 → (cs : List Call)
    → let s = runs n m (start given) cs in
    (t : List ℕ) → is_stopping_reply s.words n m s.k t ≡ answer (1 ∷ []) → is_stopping_reply given n m 0 (take n t) ≡ answer (1 ∷ [])
theorem_6 = sent_bits_stop

-- After some splits with some sum: each took a four-cycle at least, and what is left was there.
pub record Counted (n m k₀ total₀ : ℕ) (h : Matrix) (k splits total : ℕ) : Type 0 where
  pub added : k ≡ k₀ + splits
  pub each : splits ≤ total
  pub falls : total + cycles h (n + k) (m + k) ≤ total₀

module _ (ws : List ℕ) (n m k : ℕ) (A : Accepted ws n m k) where
  abbrev h : Matrix
  h = lent 8 ws

  abbrev o : Orthogonalised
  o = orthogonalising ws n m k

  counted : At (λ h' k' splits total held. Counted n m k (cycles h (n + k) (m + k)) h' k' splits total) o
  counted =
      keeps n m (λ h' k' splits total held. Counted n m k (cycles h (n + k) (m + k)) h' k' splits total)
      (λ h' k' splits total held C two q.
      let (l, r, s) = picked h' (n + k') (m + k') (omega arith) in
      let F = split_cycles h' (n + k') (m + k') (lower_bit h' (n + k') (m + k')) (higher_bit h' (n + k') (m + k')) (omega arith) r (λ e. omega arith) in
      record {
        added = omega (arith, C.added);
        each = omega (arith, C.each, pairs_two (largest_share h' (n + k') (m + k')) two);
        falls = rw (add-suc n k', add-suc m k') (omega (arith, C.falls, rw s at F));
      })
      _ h k 0 0 []
      record { added = omega arith; each = omega arith; falls = omega arith }

  -- The bound of section II: orthogonalising makes at most as many splits as there are four-cycles.
  pub splits_bound : o.splits ≤ cycles h (n + k) (m + k)
  splits_bound = omega (arith, counted.each, counted.falls)

  -- Where there is room for as many added bits, it finishes.
  pub room_finishes : k + cycles h (n + k) (m + k) ≤ 392 → o.finished ≡ true
  room_finishes l =
      elim (is o.finished) [
        | is_true e ↦ e
        | is_false e ↦
            let E = orthogonal_ends ws n m k A in
            absurd (omega (arith, counted.added, counted.each, counted.falls, E.full e, some_cycles o.matrix (n + o.k) (m + o.k) (E.pair_left e)))
      ]

  -- Theorem 4: where there is room for as many added bits, it finishes.
  pub theorem_4 : k + cycles h (n + k) (m + k) ≤ 392 → (orthogonalise_outcome ws n m k).reply.number ≡ 0
  unfolding orthogonalised_reply
  theorem_4 l = ap (λ (x : Outcome). x.reply.number) (orthogonalises ws n m k A) ∙ rw (room_finishes l)

-- counting answers
counted_accepted : (ws : List ℕ) (n m k c : ℕ) → count_reply ws n m k ≡ answer (c ∷ []) → Accepted ws n m k
unfolding count_reply
counted_accepted ws n m k c e = accepted_number ws n m k _ (ap (λ (r : Reply). r.number) e)

answered_count : (ws : List ℕ) (n m k c : ℕ) → Accepted ws n m k → count_reply ws n m k ≡ answer (c ∷ []) → cycles (lent 8 ws) (n + k) (m + k) ≡ c
answered_count ws n m k c A e = ap (λ (r : Reply). get_or r.values 0 0) (sym (counts ws n m k A) ∙ e)

-- Theorem 1
pub counts_four_cycles : CountsFourCycles
counts_four_cycles ws n m k e = counts ws n m k ((accepts ws n m k).0 e) ∙ rw (theorem_1 (lent 8 ws) (n + k) (m + k))

-- Lemma 3
pub counts_fewer : CountsFewer
counts_fewer ws n m k u v s k' held e =
    let A = (accepts ws n m k).0 (answered ws n m k u v s k' held e) in
    elim (split_case ws n m k u v A) [
      | refused i vs q ↦ absurd (omega (arith, ap (λ (r : Reply). r.number) (sym (ap (λ (o : Outcome). o.reply) q) ∙ e)))
      | made p t l ↦
          let q = split_made ws n m k A u v p t l in
          let r = sym (ap (λ (o : Outcome). o.reply) q) ∙ e in
          let x : share (lent 8 ws) (m + k) u v ≡ s = ap (λ (r : Reply). get_or r.values 0 0) r in
          let y : suc k ≡ k' = ap (λ (r : Reply). get_or r.values 1 0) r in
          let f = split_falls ws n m k A u v p t l in (
            cycles (lent 8 ws) (n + k) (m + k),
            cycles (split_of (lent 8 ws) (n + k) (m + k) u v) (suc (n + k)) (suc (m + k)),
            counts ws n m k A,
            rw (q, ← y) (split_counts ws n m k A u v p t l),
            rw (← x) f,
            omega (arith, pairs_two (share (lent 8 ws) (m + k) u v) t),
          )
    ]

-- Theorem 4
pub orthogonalising_finishes : OrthogonalisingFinishes
unfolding orthogonalised_reply
orthogonalising_finishes ws n m k before e l =
    let A = counted_accepted ws n m k before e in
    let c = answered_count ws n m k before A e in
    let o = orthogonalising ws n m k in
    let f : o.finished ≡ true = room_finishes ws n m k A (omega arith) in
    rw (orthogonalises ws n m k A, f) (
      refl,
      omega (arith, splits_bound ws n m k A),
      counts (pack 8 o.matrix) n m o.k (orthogonal_accepted ws n m k A)
          ∙ rw (orthogonal_lent ws n m k A, no_cycles o.matrix (n + o.k) (m + o.k) ((orthogonal_ends ws n m k A).none_left f)),
    )
