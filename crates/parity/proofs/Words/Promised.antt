-- What document 01 promises of verifying, extending, testing a set and peeling, on the lists that are lent and left. Assumes nothing.
use mathlib.Core.Path.{◌≡◌, refl, sym, ap, ◌∙◌}
use mathlib.Core.Logic.{◌↔◌}
use mathlib.Core.Bool.{Bool, true, cond, ◌&&◌, ◌||◌, or-true, true≢false}
use mathlib.Core.List.{List, [], ◌∷◌}
use Prim.Native.Nat.{ℕ, ◌+◌, ◌%◌, ◌<◌}
use native.Mathlib.Nat.{zero-add}
use native.Mathlib.Omega.{arith}
use lib.Dec.{eqb}
use lib.ListN.{length, take, replicate, length-replicate, get_or-replicate}
use lib.Seq.{ext_get_or, get_or-take, length-take-le}
use borrow.Author.Tests.{eq-eqb, ne_eqb, eqb-true, eqb-false}
use Rattle.parity.specs.Finite.{one, sum, count, list_from}
use Rattle.parity.specs.Matrix.{Matrix, lent, rule_a}
use Rattle.parity.specs.Words.{erased, is_one, inside, codeword, extended, residue, peels, peeled}
use Rattle.parity.specs.Causes.{Reply, answer, Outcome}
use Rattle.parity.specs.Calls.{byte_of, verify_reply, peel_reply, peel_outcome}
use Rattle.parity.specs.Demand3.{erasing}
use Rattle.parity.specs.WordsPromises.{IsCodeword, VerifiesCodewords, VerifiesNoOther, Extends, ExtendsSent, IsStopping, TestsStoppingSets, EmptySetStops, PeelLeavesLargest, InResidue, NoResidueBit, Solution, PeelWritesSolution, PeelAnswersIfSome, PeelRefusedIfNone, PeelCounts, PeelsCodeword}
use Rattle.parity.proofs.Finite.Sums.{is_true, is_false, is, one≤1, all_at, sum_ge, sum_two, sum_zero, byte_one, eqb_one, byte_known}
use Rattle.parity.proofs.Finite.Lists.{length_list_from, at_list_from}
use Rattle.parity.proofs.Splits.Split.{Stops}
use Rattle.parity.proofs.Matrix.Rule.{rule}
use Rattle.parity.proofs.Matrix.Accept.{Accepted, accepts, passes}
use Rattle.parity.proofs.Causes.Admit.{accepted_number}
use Rattle.parity.proofs.Encoding.Dependent.{inside_zero}
use Rattle.parity.proofs.Words.Extend.{inside_cong, own_check, extend_base, extend_added}
use Rattle.parity.proofs.Words.Residue.{outside, any_set_at, residue_at, residue_of, Solves, solve}
use Rattle.parity.proofs.Words.Peel.{peels_solved, peeled_value}
use Rattle.parity.proofs.Words.Bytes.{Word, word_right, Codeword, erased_got, erased_size}
use Rattle.parity.proofs.Words.Verifying.{verified, verifies, list_stops, stops_list, extends, completes}
use Rattle.parity.proofs.Words.Determine.{verify_taken}
use Rattle.parity.proofs.Words.Peeling.{losses_same, Answered, peel_answered, left_is, left_stops, left_erased, left_largest, left_set, kept, after_size, never_refused, recovers}

-- Verifying.
is_codeword : (ws : List ℕ) (n m k : ℕ) (w : List ℕ) → IsCodeword ws n m k w ↔ Codeword (lent 8 ws) (n + k) (m + k) w
is_codeword ws n m k w = (
  λ C. record { word = record { size = C.size; bytes = C.bits }; even = C.even },
  λ C. record { size = C.word.size; bits = C.word.bytes; even = C.even },
)

pub verifies_codewords : VerifiesCodewords
verifies_codewords ws n m k w e =
    let A = (accepts ws n m k).0 e in
    (λ v. (is_codeword ws n m k w).1 (verifies ws n m k A w v), λ C. verified ws n m k A w ((is_codeword ws n m k w).0 C))

pub verifies_no_other : VerifiesNoOther
unfolding verify_reply
verifies_no_other ws n m k w e size bytes d =
    let A = (accepts ws n m k).0 e in
    let W : Word (n + k) 2 w = record { size = size; bytes = bytes } in
    let s : verify_reply ws n m k w ≡ answer (one (codeword (lent 8 ws) (n + k) (m + k) (byte_of w)) ∷ []) =
    rw (passes ws n m k A, eq-eqb (length w) (n + k) size, word_right (n + k) 2 w W) in
    elim (is (codeword (lent 8 ws) (n + k) (m + k) (byte_of w))) [
      | is_false q ↦ s ∙ rw q
      | is_true q ↦ absurd (d ((is_codeword ws n m k w).1 (verifies ws n m k A w (s ∙ rw q))))
    ]

-- Extending.
-- of two bits that pass, where two pass in all, those of a set
two_of : (N a b : ℕ) (p y : ℕ → Bool) → a < b → b < N → p a ≡ true → p b ≡ true → count N p ≡ 2 → count N (λ i. p i && y i) ≡ one (y a) + one (y b)
unfolding count
two_of N a b p y ab bN pa pb two =
    let ab' : a ≡ b → ⊥ = λ q. omega arith in
    let rest : ℕ → ℕ = λ i. cond (eqb i a || eqb i b) 0 (one (p i)) in
    let r = sum_two N a b {f = λ i. one (p i)} {g = rest} (omega arith) bN ab' (λ i l d f. rw (ne_eqb i a d, ne_eqb i b f)) in
    let z : sum N rest ≡ 0 = omega (arith, rw (pa, pb, eq-eqb a a refl, eq-eqb b b refl, or-true) at r) in
    let s = sum_two N a b {f = λ i. one (p i && y i)} {g = λ i. 0} (omega arith) bN ab'
    (λ i l d f. elim (is (p i)) [
      | is_false q ↦ rw q
      | is_true q ↦ absurd (omega (arith, rw (ne_eqb i a d, ne_eqb i b f, q) at (sum_ge N rest i l)))
    ]) in
    omega (arith, rw (pa, pb) at s, sum_zero N {f = λ i. 0} (λ i l. refl))

-- a bit that makes the sum even
sum_of : (a b z : Bool) → (one a + one b + one z) % 2 ≡ 0 → one z ≡ (one a + one b) % 2
sum_of a b z e = omega (arith, one≤1 z, one≤1 a, one≤1 b)

module _ (ws : List ℕ) (n m k : ℕ) (A : Accepted ws n m k) (sent held : List ℕ) (S : Word n 1 sent) (l : length held ≡ n + k) where
  abbrev h : Matrix
  h = lent 8 ws

  abbrev Y : ℕ → Bool
  Y = extended h n m k (is_one (byte_of sent))

  abbrev y : List ℕ
  y = list_from 0 (n + k) (λ b. one (Y b))

  at_y : (b : ℕ) → b < n + k → byte_of y b ≡ one (Y b)
  at_y b q = at_list_from 0 (n + k) (λ b. one (Y b)) b q ∙ rw (zero-add b)

  begins : take n y ≡ sent
  begins =
      let t : length (take n y) ≡ n = length-take-le n y (omega (arith, length_list_from 0 (n + k) (λ b. one (Y b)))) in
      ext_get_or 0 (take n y) sent (t ∙ sym S.size) (λ b q.
      get_or-take n y b 0 (omega arith) ∙ at_y b (omega arith) ∙ rw (extend_base h n m (is_one (byte_of sent)) k b (omega arith)) (byte_one (byte_of sent b) (S.bytes b (omega arith))))

  added_sum : (j a b : ℕ) → j < k → a < b → b < n + j → h (m + j) a ≡ true → h (m + j) b ≡ true → byte_of y (n + j) ≡ (byte_of y a + byte_of y b) % 2
  unfolding inside rule_a
  added_sum j a b jk ab bn p q =
      let r = (rule h n m k j jk).0 (all_at k _ A.sound.rule j jk) in
      let two = two_of (n + j) a b (h (m + j)) Y ab bn p q r.two in
      let even = extend_added h n m k A.sound.rule (is_one (byte_of sent)) j jk in
      rw (at_y (n + j) (omega arith), at_y a (omega arith), at_y b (omega arith))
      (sum_of (Y a) (Y b) (Y (n + j)) (rw (own_check h n m k A.sound.rule j jk Y, two) at even))

  writes : Extends ws n m k sent record { reply = answer []; after = y }
  writes = record {
    answers = refl;
    size = length_list_from 0 (n + k) (λ b. one (Y b));
    same = begins;
    added = added_sum;
    only = λ z v e. completes ws n m k A sent z S (verifies ws n m k A z v) e;
  }

pub extends_sent : ExtendsSent
extends_sent ws n m k sent held e size bytes l =
    let A = (accepts ws n m k).0 e in
    let S : Word n 1 sent = record { size = size; bytes = bytes } in
    rw (extends ws n m k A sent held S l) (writes ws n m k A sent held S l)

-- Testing a set.
is_stopping : (ws : List ℕ) (n m k : ℕ) (t : List ℕ) → IsStopping ws n m k t ↔ (Word (n + k) 1 t × Stops (lent 8 ws) (n + k) (m + k) (is_one (byte_of t)))
is_stopping ws n m k t = (
  λ S. (record { size = S.size; bytes = S.bits }, S.none_once),
  λ S. record { size = S.0.size; bits = S.0.bytes; none_once = S.1 },
)

pub tests_stopping_sets : TestsStoppingSets
tests_stopping_sets ws n m k t e =
    let A = (accepts ws n m k).0 e in (
      λ v. (is_stopping ws n m k t).1 (stops_list ws n m k A t v),
      λ S. let (W, T) = (is_stopping ws n m k t).0 S in list_stops ws n m k A t W T,
    )

pub empty_set_stops : EmptySetStops
empty_set_stops ws n m k e =
    let zero_at : (b : ℕ) → b < n + k → byte_of (replicate (n + k) 0) b ≡ 0 = λ b l. get_or-replicate (n + k) b 0 0 l in
    list_stops ws n m k ((accepts ws n m k).0 e) (replicate (n + k) 0)
    record { size = length-replicate {A = ℕ} (n + k) 0; bytes = λ b l. rw (zero_at b l) (omega arith) }
    (λ c l q. omega (arith, inside_zero (lent 8 ws) (n + k) c (is_one (byte_of (replicate (n + k) 0))) (λ b j p. rw (zero_at b j))))

-- Peeling.
pub peel_leaves_largest : PeelLeavesLargest
peel_leaves_largest ws n m k w e =
    let A = peel_answered ws n m k w e in
    record {
      size = after_size ws n m k w A;
      stops = unfold left_set in left_stops ws n m k w A;
      within = left_erased ws n m k w A;
      largest = left_largest ws n m k w A;
      kept = kept ws n m k w A;
    }

-- a word and its residue, as a set and as the union of sets that are lists
module _ (ws : List ℕ) (n m k : ℕ) (w : List ℕ) where
  abbrev g : Matrix
  g = lent 8 ws

  abbrev r : ℕ → Bool
  r = residue g (n + k) (m + k) (erased (byte_of w))

  abbrev listed : (ℕ → Bool) → List ℕ
  listed s = list_from 0 (n + k) (λ b. one (s b))

  listed_at : (s : ℕ → Bool) (b : ℕ) → b < n + k → byte_of (listed s) b ≡ one (s b)
  listed_at s b l = at_list_from 0 (n + k) (λ b. one (s b)) b l ∙ rw (zero-add b)

  listed_one : (s : ℕ → Bool) (b : ℕ) → b < n + k → is_one (byte_of (listed s)) b ≡ s b
  listed_one s b l = rw (listed_at s b l) (eqb_one (s b))

  listed_word : (s : ℕ → Bool) → Word (n + k) 1 (listed s)
  listed_word s = record { size = length_list_from 0 (n + k) (λ b. one (s b)); bytes = λ b l. rw (listed_at s b l) (one≤1 (s b)) }

  in_residue : (b : ℕ) → b < n + k → (r b ≡ true) ↔ InResidue ws n m k w b
  in_residue b l = (
    λ q.
        let (s, t, i, p) = residue_at g (n + k) (m + k) (erased (byte_of w)) b q in (
          listed s,
          (is_stopping ws n m k (listed s)).1 (listed_word s, λ c j z. t c j (sym (inside_cong g (n + k) c (listed_one s)) ∙ z)),
          λ a j z. eqb-true (byte_of w a) 2 (i a j (sym (listed_one s a j) ∙ eq-eqb (byte_of (listed s) a) 1 z)),
          listed_at s b l ∙ rw p,
        ),
    λ R.
        let (t, S, i, p) = R in
        residue_of g (n + k) (m + k) (erased (byte_of w)) (is_one (byte_of t)) ((is_stopping ws n m k t).0 S).1
        (λ a j z. eq-eqb (byte_of w a) 2 (i a j (eqb-true (byte_of t a) 1 z))) b l (eq-eqb (byte_of t b) 1 p),
  )

  no_residue_bit : (c : ℕ) → NoResidueBit ws n m k w c → inside g (n + k) c r ≡ 0
  no_residue_bit c f = inside_zero g (n + k) c r (λ b l p. elim (is (r b)) [ is_false q ↦ q | is_true q ↦ absurd (f b l p ((in_residue b l).0 q)) ])

  solves_list : (y : List ℕ) → Solution ws n m k w y → Solves g (n + k) (m + k) (erased (byte_of w)) r (is_one (byte_of w)) (is_one (byte_of y))
  solves_list y s = record {
    known = λ b l q. ap (λ (v : ℕ). eqb v 1) (s.known b l (eqb-false (byte_of w b) 2 q));
    even = λ c l z. s.even c l (λ b j p R. absurd (true≢false (sym ((in_residue b j).1 R) ∙ outside g (n + k) c r z b j p)));
  }

  list_solves : Word (n + k) 2 w → (y : ℕ → Bool) → Solves g (n + k) (m + k) (erased (byte_of w)) r (is_one (byte_of w)) y → Solution ws n m k w (listed y)
  list_solves W y s = record {
    size = (listed_word y).size;
    bits = (listed_word y).bytes;
    known = λ b l d. listed_at y b l ∙ ap one (s.known b l (ne_eqb (byte_of w b) 2 d)) ∙ byte_known (byte_of w b) (W.bytes b l) d;
    even = λ c l f. ap (◌% 2) (inside_cong g (n + k) c (listed_one y)) ∙ s.even c l (no_residue_bit c f);
  }

pub peel_writes_solution : PeelWritesSolution
unfolding peels
peel_writes_solution ws n m k w e =
    let A = peel_answered ws n m k w e in
    let h = lent 8 ws in
    let (y, t) = any_set_at (n + k) _ A.solvable in
    let s = (solve h (n + k) (m + k) (erased (byte_of w)) (r ws n m k w) (is_one (byte_of w)) y).0 t in
    record {
      some = (listed ws n m k w y, list_solves ws n m k w A.word y s);
      written = λ z S b l d.
          after_at A b l
          ∙ peeled_value h (n + k) (m + k) (byte_of w) (is_one (byte_of z)) (solves_list ws n m k w z S) b l
          (elim (is (r ws n m k w b)) [ is_false q ↦ q | is_true q ↦ absurd (d ((in_residue ws n m k w b l).0 q)) ])
          ∙ byte_one (byte_of z b) (S.bits b l);
      keeps_two = λ b l. (
        λ q. (in_residue ws n m k w b l).0 (sym (left_is ws n m k w A b l) ∙ eq-eqb (byte_of (peel_outcome ws n m k w).after b) 2 q),
        λ R. eqb-true (byte_of (peel_outcome ws n m k w).after b) 2 (left_is ws n m k w A b l ∙ (in_residue ws n m k w b l).1 R),
      );
    }
  where
    after_at : Answered ws n m k w → (b : ℕ) → b < n + k → byte_of (peel_outcome ws n m k w).after b ≡ peeled (lent 8 ws) (n + k) (m + k) (byte_of w) b
    after_at A b l =
        ap (λ (o : Outcome). byte_of o.after b) A.outcome ∙ at_list_from 0 (n + k) (peeled (lent 8 ws) (n + k) (m + k) (byte_of w)) b l
        ∙ ap (peeled (lent 8 ws) (n + k) (m + k) (byte_of w)) (zero-add b)

pub peel_answers_if_some : PeelAnswersIfSome
unfolding peel_outcome peel_reply
peel_answers_if_some ws n m k w y e S =
    let T = verify_taken ws n m k w e in
    rw (
      passes ws n m k T.accepted,
      eq-eqb (length w) (n + k) T.word.size,
      word_right (n + k) 2 w T.word,
      peels_solved (lent 8 ws) (n + k) (m + k) (byte_of w) (is_one (byte_of y)) (solves_list ws n m k w y S),
    )

pub peel_refused_if_none : PeelRefusedIfNone
unfolding peel_outcome peel_reply peels
peel_refused_if_none ws n m k w e =
    let T = verify_taken ws n m k w e in
    let h = lent 8 ws in (
      λ q y S. absurd (omega (arith, ap (λ (o : Outcome). o.reply.number) q, peel_answers_if_some ws n m k w y e S)),
      λ f. elim (is (peels h (n + k) (m + k) (byte_of w))) [
        | is_false p ↦ rw (passes ws n m k T.accepted, eq-eqb (length w) (n + k) T.word.size, word_right (n + k) 2 w T.word, p)
        | is_true p ↦
            let (y, t) = any_set_at (n + k) _ p in
            absurd (f (listed ws n m k w y) (list_solves ws n m k w T.word y ((solve h (n + k) (m + k) (erased (byte_of w)) (r ws n m k w) (is_one (byte_of w)) y).0 t)))
      ],
    )

pub peel_counts : PeelCounts
peel_counts ws n m k w e =
    let A = peel_answered ws n m k w e in
    let h = lent 8 ws in
    ap (λ (o : Outcome). o.reply) A.outcome
    ∙ ap answer (losses_same n k (byte_of w) (peeled h (n + k) (m + k) (byte_of w)) (byte_of (peel_outcome ws n m k w).after)
    (λ b l. sym (ap (λ (o : Outcome). byte_of o.after b) A.outcome ∙ at_list_from 0 (n + k) (peeled h (n + k) (m + k) (byte_of w)) b l
    ∙ ap (peeled h (n + k) (m + k) (byte_of w)) (zero-add b))))

pub peels_codeword : PeelsCodeword
unfolding verify_reply
peels_codeword ws n m k x v e =
    let A = accepted_number ws n m k _ (ap (λ (r : Reply). r.number) v) in
    let C = verifies ws n m k A x v in
    let size = erased_size (n + k) x C.word e in
    let got = erased_got (n + k) x C.word e in
    (never_refused ws n m k x v (erasing e x) size got, recovers ws n m k x v (erasing e x) size got)
