-- What the call on soft bits promises of outcomes on lists: results are finite, a check's soft answer is one input or its negation, rounds after one that
-- changes nothing change nothing, and words of sure and erased bits got from a codeword end as peeling ends. Assumes nothing.
use mathlib.Core.Path.{◌≡◌, refl, sym, ap, fun_ext, ◌∙◌}
use mathlib.Core.Bool.{Bool, true, false, not, cond, ◌&&◌, ◌||◌, and-eq-true_iff, true≢false}
use mathlib.Core.List.{List, [], ◌∷◌}
use Prim.Native.Nat.{ℕ, zero, suc, ◌+◌, ◌<◌, ◌≤◌}
use native.Mathlib.Omega.{arith}
use lib.Dec.{eqb, leb}
use lib.ListN.{get_or, length, replicate, length-replicate, get_or-replicate}
use lib.Seq.{ext_get_or}
use borrow.Author.Tests.{eq-eqb, ne_eqb, eqb-true, le-leb, leb-true, not-false}
use lib.Ieee.{Float, nan, binary32, fits, le}
use Rattle.parity.specs.Finite.{any, least, list_from}
use Rattle.parity.specs.Matrix.{lent}
use Rattle.parity.specs.Words.{erased, is_one, peeled}
use Rattle.parity.specs.Causes.{Reply, answer, refusal, Outcome}
use Rattle.parity.specs.Calls.{byte_of, wrong_byte, wrong_place, verify_reply, peel_outcome}
use Rattle.parity.specs.Demand3.{erasing}
use Rattle.parity.specs.Floats.{positive_zero, finite, magnitude, limit, too_large}
use Rattle.parity.specs.Soft.{channel_of, byte_for, float_for, message_at, sent_after, but, to_bits, result_after, sound}
use Rattle.parity.specs.SoftCall.{wrong_rounds, wrong_lengths, wrong_float, soft_reply, min_sum_reply, floats_from, SoftOutcome, min_sum_outcome}
use Rattle.parity.specs.SoftPromises.{AnswerIsInput, EndsAsPeeling, WritesFinite, RoundsEnd}
use Rattle.parity.specs.declared.Channel.{Channel}
use Rattle.parity.specs.declared.Channel.TheVariants.{Sure, Soft, Erased}
use Rattle.parity.proofs.Finite.Bools.{or_false_both}
use Rattle.parity.proofs.Finite.Sums.{is_true, is_false, is}
use Rattle.parity.proofs.Finite.Firsts.{any_none, none_at}
use Rattle.parity.proofs.Matrix.Accept.{Accepted, passes}
use Rattle.parity.proofs.Finite.Lists.{list_from_cong}
use Rattle.parity.proofs.Causes.Admit.{accepted_number}
use Rattle.parity.proofs.Words.Bytes.{Codeword, word_right, erased_at, erased_got, erased_size}
use Rattle.parity.proofs.Words.Verifying.{verifies}
use Rattle.parity.proofs.Words.Peeling.{erased_answered}
use Rattle.parity.proofs.Soft.Numbers.{zero_is}
use Rattle.parity.proofs.Soft.Counts.{but_at}
use Rattle.parity.proofs.Soft.Exact.{one_input}
use Rattle.parity.proofs.Soft.Sound.{check_sound, bit_sound}
use Rattle.parity.proofs.Soft.Rounds.{sent_every, result_every}
use Rattle.parity.proofs.Soft.Fits.{fit, regular, regular_of, regular_soft, check_regular, bit_regular}
use Rattle.parity.proofs.Soft.Standing.{result_ends}
use Rattle.parity.proofs.Soft.AsPeeling.{ends_as_peeling, ends_without_float}

-- ---- lists of floats
pub length_floats : (i n : ℕ) (f : ℕ → Float) → length (floats_from i n f) ≡ n
unfolding floats_from
length_floats i zero f = refl
length_floats i (suc n) f = ap suc (length_floats (suc i) n f)

pub at_floats : (i n : ℕ) (f : ℕ → Float) (j : ℕ) → j < n → get_or (floats_from i n f) j nan ≡ f (i + j)
unfolding floats_from
at_floats i zero f j k = absurd (omega arith)
at_floats i (suc n) f zero k = let e : i + 0 ≡ i = omega arith in rw e
at_floats i (suc n) f (suc j) k = let e : suc i + j ≡ i + suc j = omega arith in at_floats (suc i) n f j (omega arith) ∙ ap f e

-- ---- what an answer says of the rounds and the lists
no_answer : (c : ℕ) (vs : List ℕ) → (c ≡ 0 → ⊥) → answer [] ≡ refusal c vs → ⊥
no_answer c vs n e = n (sym (ap (λ (x : Reply). x.number) e))

-- what an answer leaves, over any lists, so that 65,536 places are not counted out
answered : (r : Reply) (w w' word bytes bytes' : List ℕ) (f f' floats values values' : List Float) → r ≡ answer [] → w ≡ w' → f ≡ f'
    → let made = eqb r.number 0 in
    let before : SoftOutcome = record { reply = r; word = cond made w word; floats = cond made f floats; bytes_of_messages = cond made bytes' bytes; floats_of_messages = cond made values' values } in
    before ≡ record { reply = answer []; word = w'; floats = f'; bytes_of_messages = bytes'; floats_of_messages = values' }
answered r w w' word bytes bytes' f f' floats values values' e a b = rw (e, a, b)

-- a soft float that is not too large is finite
small_sound : (t : ℕ) (x : Float) → eqb t 3 && too_large x ≡ false → sound (channel_of t x) ≡ true
small_sound t x e = elim (is (eqb t 3)) [
  | is_true q ↦ rw q ((and-eq-true_iff (finite x) (le (magnitude x) limit)).0 (not-false _ (rw q at e))).0
  | is_false q ↦ elim (is (eqb t 2)) [ is_true p ↦ rw (q, p) | is_false p ↦ rw (q, p) ]
]

pub record Facts (N rounds : ℕ) (word : List ℕ) (floats : List Float) (bytes : List ℕ) (values : List Float) : Type 0 where
  pub one : 1 ≤ rounds
  pub l_word : length word ≡ N
  pub l_floats : length floats ≡ N
  pub l_bytes : length bytes ≡ 65536
  pub l_values : length values ≡ 65536
  pub sounds : (b : ℕ) → b < N → sound (message_at word floats b) ≡ true

pub fine : (N rounds : ℕ) (word : List ℕ) (floats : List Float) (bytes : List ℕ) (values : List Float)
    → answer [] ≡ soft_reply N rounds word floats bytes values → Facts N rounds word floats bytes values
unfolding soft_reply
fine N rounds word floats bytes values e =
    elim (is (wrong_rounds rounds)) [
      | is_true a ↦ absurd (no_answer 22 [] (λ z. omega arith) (rw a at e))
      | is_false a ↦ elim (is (wrong_lengths N word floats bytes values)) [
        | is_true b ↦ absurd (no_answer 10 [] (λ z. omega arith) (rw (a, b) at e))
        | is_false b ↦ elim (is (wrong_byte 3 word)) [
          | is_true d ↦ absurd (no_answer 11 (wrong_place 3 word ∷ []) (λ z. omega arith) (rw (a, b, d) at e))
          | is_false d ↦ elim (is (any N (wrong_float word floats))) [
            | is_true f ↦ absurd (no_answer 23 (least N (wrong_float word floats) ∷ []) (λ z. omega arith) (rw (a, b, d, f) at e))
            | is_false f ↦ facts a b f
          ]
        ]
      ]
    ]
  where
    facts : wrong_rounds rounds ≡ false → wrong_lengths N word floats bytes values ≡ false → any N (wrong_float word floats) ≡ false → Facts N rounds word floats bytes values
    facts a b f =
        let r = (and-eq-true_iff (leb 1 rounds) (leb rounds 512)).0 (not-false _ a) in
        let (b₁, v) = or_false_both (not (eqb (length word) N) || not (eqb (length floats) N) || not (eqb (length bytes) 65536)) _ b in
        let (b₂, t) = or_false_both (not (eqb (length word) N) || not (eqb (length floats) N)) _ b₁ in
        let (w, x) = or_false_both (not (eqb (length word) N)) _ b₂ in
        record {
          one = leb-true 1 rounds r.0;
          l_word = eqb-true _ _ (not-false _ w);
          l_floats = eqb-true _ _ (not-false _ x);
          l_bytes = eqb-true _ _ (not-false _ t);
          l_values = eqb-true _ _ (not-false _ v);
          sounds = λ i k. at i k;
        }
      where
        at : (i : ℕ) → i < N → sound (message_at word floats i) ≡ true
        at i k = unfold message_at wrong_float in small_sound (get_or word i 0) (get_or floats i nan) (none_at N (wrong_float word floats) f i k)

-- ---- an answer
module _ (ws : List ℕ) (n m k rounds : ℕ) (word : List ℕ) (floats : List Float) (bytes : List ℕ) (values : List Float)
    (e : (min_sum_outcome ws n m k rounds word floats bytes values).reply ≡ answer []) where
  reply_is : min_sum_reply ws n m k rounds word floats bytes values ≡ answer []
  unfolding min_sum_outcome
  reply_is = e

  accepted_is : Accepted ws n m k
  unfolding min_sum_reply
  accepted_is = accepted_number ws n m k _ (ap (λ (r : Reply). r.number) reply_is)

  facts_are : Facts (n + k) rounds word floats bytes values
  unfolding min_sum_reply
  facts_are = fine (n + k) rounds word floats bytes values (sym (sym (passes ws n m k accepted_is _) ∙ reply_is))

  result_sound : (b : ℕ) → b < n + k → sound (result_after (lent 8 ws) (n + k) (m + k) (message_at word floats) rounds b) ≡ true
  result_sound b l = result_every sound check_sound bit_sound (lent 8 ws) (n + k) (m + k) (message_at word floats) facts_are.sounds rounds b l

  outcome_is : min_sum_outcome ws n m k rounds word floats bytes values ≡ record {
    reply = answer [];
    word = list_from 0 (n + k) (λ b. byte_for (result_after (lent 8 ws) (n + k) (m + k) (message_at word floats) rounds b));
    floats = floats_from 0 (n + k) (λ b. float_for (result_after (lent 8 ws) (n + k) (m + k) (message_at word floats) rounds b));
    bytes_of_messages = replicate 65536 0;
    floats_of_messages = replicate 65536 positive_zero;
  }
  unfolding min_sum_outcome
  outcome_is =
      let result = result_after (lent 8 ws) (n + k) (m + k) (message_at word floats) rounds in
      answered (min_sum_reply ws n m k rounds word floats bytes values) (list_from 0 (n + k) (λ b. byte_for (result b))) (list_from 0 (n + k) (λ b. byte_for (result b))) word bytes
      (replicate 65536 0) (floats_from 0 (n + k) (λ b. float_for (result b))) (floats_from 0 (n + k) (λ b. float_for (result b))) floats values (replicate 65536 positive_zero) reply_is refl refl

  floats_are : (min_sum_outcome ws n m k rounds word floats bytes values).floats
      ≡ floats_from 0 (n + k) (λ b. float_for (result_after (lent 8 ws) (n + k) (m + k) (message_at word floats) rounds b))
  floats_are = ap (λ (o : SoftOutcome). o.floats) outcome_is

  messages_are : (min_sum_outcome ws n m k rounds word floats bytes values).floats_of_messages ≡ replicate 65536 positive_zero
  messages_are = ap (λ (o : SoftOutcome). o.floats_of_messages) outcome_is

finite_float : (v : Channel) → sound v ≡ true → finite (float_for v) ≡ true
finite_float (Sure b) e = rw zero_is
finite_float (Soft x) e = e
finite_float Erased e = rw zero_is

pub finite_zero : finite positive_zero ≡ true
finite_zero = rw zero_is

pub writes_finite : WritesFinite
writes_finite ws n m k rounds word floats bytes values e = (
  λ b l.
      let f : ℕ → Float = λ b. float_for (result_after (lent 8 ws) (n + k) (m + k) (message_at word floats) rounds b) in
      rw (floats_are ws n m k rounds word floats bytes values e, at_floats 0 (n + k) f b l)
      (finite_float (result_after (lent 8 ws) (n + k) (m + k) (message_at word floats) rounds (0 + b)) (result_sound ws n m k rounds word floats bytes values e (0 + b) (omega arith))),
  λ i l.
      ap (λ (xs : List Float). finite (get_or xs i nan)) (messages_are ws n m k rounds word floats bytes values e)
      ∙ ap finite (get_or-replicate 65536 i positive_zero nan l)
      ∙ finite_zero,
)

-- ---- rounds that change nothing
-- only cause 22 asks for the rounds
rounds_alike : (N rounds others : ℕ) (word : List ℕ) (floats : List Float) (bytes : List ℕ) (values : List Float)
    → answer [] ≡ soft_reply N rounds word floats bytes values → 1 ≤ others → others ≤ 512
    → soft_reply N others word floats bytes values ≡ soft_reply N rounds word floats bytes values
unfolding soft_reply
rounds_alike N rounds others word floats bytes values e k l =
    elim (is (wrong_rounds rounds)) [
      | is_true a ↦ absurd (no_answer 22 [] (λ z. omega arith) (rw a at e))
      | is_false a ↦ rw (a, le-leb 1 others k, le-leb others 512 l)
    ]

pub rounds_end : RoundsEnd
unfolding min_sum_outcome min_sum_reply
rounds_end ws n m k rounds word floats bytes values e r l A others l' i =
    let h = lent 8 ws in
    let channel = message_at word floats in
    let soft = sym (sym (passes ws n m k (accepted_is ws n m k rounds word floats bytes values e) _) ∙ e) in
    let results : result_after h (n + k) (m + k) channel others ≡ result_after h (n + k) (m + k) channel rounds = fun_ext (λ b.
    result_ends h (n + k) (m + k) channel r A others l' b ∙ sym (result_ends h (n + k) (m + k) channel r A rounds l b)) in
    rw (rounds_alike (n + k) rounds others word floats bytes values soft (omega arith) i, results)

-- ---- a check's soft answer
channel_fit : (t : ℕ) (x : Float) → fits binary32 x ≡ true → fit (channel_of t x) ≡ true
channel_fit t x e = elim (is (eqb t 3)) [
  | is_true q ↦ rw q e
  | is_false q ↦ elim (is (eqb t 2)) [ is_true p ↦ rw (q, p) | is_false p ↦ rw (q, p) ]
]

pub answer_is_input : AnswerIsInput
unfolding to_bits message_at
answer_is_input ws n m k rounds word floats bytes values e F r c b i j y q =
    let h = lent 8 ws in
    let channel = message_at word floats in
    let S = (facts_are ws n m k rounds word floats bytes values e).sounds in
    let sent = sent_after h (n + k) (m + k) channel r in
    let R = sent_every regular check_regular bit_regular h (n + k) (m + k) channel
    (λ a l. regular_of (channel a) (S a l) (channel_fit (get_or word a 0) (get_or floats a nan) (F a))) r in
    let G = one_input (n + k) (λ a. h c a && but b a) (sent c) y
    (λ a l t x z. regular_soft (sent c a) x (R c a j l ((and-eq-true_iff (h c a) (but b a)).0 t).0) z) q in
    let (p₁, p₂) = (and-eq-true_iff (h c G.place) (but b G.place)).0 G.passes in
    record {
      bit = G.place;
      below = G.below;
      contained = p₁;
      other = λ z. true≢false (sym p₂ ∙ rw z (but_at b));
      input = G.input;
      is_input = G.is_input;
      either = G.either;
    }

-- ---- words of sure and erased bits, got from a codeword
module _ (ws : List ℕ) (n m k : ℕ) (x : List ℕ) (v : verify_reply ws n m k x ≡ answer (1 ∷ [])) (e : ℕ → Bool) where
  abbrev w : List ℕ
  w = erasing e x

  A : Accepted ws n m k
  unfolding verify_reply
  A = accepted_number ws n m k _ (ap (λ (r : Reply). r.number) v)

  C : Codeword (lent 8 ws) (n + k) (m + k) x
  C = verifies ws n m k A x v

  w_size : length w ≡ n + k
  w_size = erased_size (n + k) x C.word e

  w_at : (b : ℕ) → b < n + k → byte_of w b ≡ cond (e b) 2 (byte_of x b)
  w_at b l = erased_at (n + k) x C.word e b l

  w_small : (b : ℕ) → b < n + k → byte_of w b ≤ 2
  w_small b l = rw (w_at b l) (elim (is (e b)) [ is_true q ↦ rw q (omega arith) | is_false q ↦ rw q (omega (arith, C.word.bytes b l)) ])

  module _ (floats : List Float) (bytes : List ℕ) (values : List Float) (lf : length floats ≡ n + k) (lb : length bytes ≡ 65536) (lv : length values ≡ 65536) where
    no_float : any (n + k) (wrong_float w floats) ≡ false
    unfolding wrong_float
    no_float = any_none (n + k) (wrong_float w floats) (λ b l. rw (ne_eqb (byte_of w b) 3 (λ z. omega (arith, w_small b l, z))))

    reply_answers : min_sum_reply ws n m k 512 w floats bytes values ≡ answer []
    unfolding min_sum_reply soft_reply
    reply_answers =
        rw (
          passes ws n m k A,
          eq-eqb (length w) (n + k) w_size,
          eq-eqb (length floats) (n + k) lf,
          eq-eqb (length bytes) 65536 lb,
          eq-eqb (length values) 65536 lv,
          word_right (n + k) 3 w record { size = w_size; bytes = λ b l. omega (arith, w_small b l) },
          no_float,
        )

    abbrev channel : ℕ → Channel
    channel = message_at w floats

    gone : (b : ℕ) → b < n + k → erased (byte_of w) b ≡ true → channel b ≡ Erased
    unfolding message_at
    gone b l q = rw (eqb-true (byte_of w b) 2 q)

    given : (b : ℕ) → b < n + k → erased (byte_of w) b ≡ false → channel b ≡ Sure (is_one (byte_of x) b)
    unfolding message_at
    given b l q = elim (is (e b)) [
      | is_true t ↦ absurd (true≢false (sym (eq-eqb (byte_of w b) 2 (w_at b l ∙ rw t)) ∙ q))
      | is_false t ↦
          let z : byte_of w b ≡ byte_of x b = w_at b l ∙ rw t in
          rw (z, ne_eqb (byte_of x b) 3 (λ y. omega (arith, C.word.bytes b l, y)), ne_eqb (byte_of x b) 2 (λ y. omega (arith, C.word.bytes b l, y)))
    ]

    agree : (b : ℕ) → b < n + k → erased (byte_of w) b ≡ false → is_one (byte_of x) b ≡ is_one (byte_of w) b
    agree b l q = elim (is (e b)) [
      | is_true t ↦ absurd (true≢false (sym (eq-eqb (byte_of w b) 2 (w_at b l ∙ rw t)) ∙ q))
      | is_false t ↦ let z : byte_of w b ≡ byte_of x b = w_at b l ∙ rw t in ap (λ (a : ℕ). eqb a 1) (sym z)
    ]

    few : n + k ≤ 512
    few = omega (arith, A.sound.n120, A.sound.k392)

    word_ends : list_from 0 (n + k) (λ b. byte_for (result_after (lent 8 ws) (n + k) (m + k) channel 512 b)) ≡ (peel_outcome ws n m k w).after
    word_ends =
        list_from_cong 0 (n + k) (λ b. byte_for (result_after (lent 8 ws) (n + k) (m + k) channel 512 b)) (peeled (lent 8 ws) (n + k) (m + k) (byte_of w))
        (λ j l. ends_as_peeling (lent 8 ws) (n + k) (m + k) (byte_of w) (is_one (byte_of x)) channel gone given agree C.even 512 (omega arith) few (0 + j) (omega arith))
        ∙ sym (ap (λ (o : Outcome). o.after) (erased_answered ws n m k x v w w_size (erased_got (n + k) x C.word e)).outcome)

    floats_end : floats_from 0 (n + k) (λ b. float_for (result_after (lent 8 ws) (n + k) (m + k) channel 512 b)) ≡ replicate (n + k) positive_zero
    floats_end =
        let f : ℕ → Float = λ b. float_for (result_after (lent 8 ws) (n + k) (m + k) channel 512 b) in
        let s = length_floats 0 (n + k) f in
        ext_get_or nan (floats_from 0 (n + k) f) (replicate (n + k) positive_zero) (s ∙ sym (length-replicate (n + k) positive_zero)) (λ j l.
        at_floats 0 (n + k) f j (omega (arith, s))
        ∙ ends_without_float (lent 8 ws) (n + k) (m + k) (byte_of w) (is_one (byte_of x)) channel gone given C.even 512 (omega arith) few (0 + j) (omega (arith, s))
        ∙ sym (get_or-replicate (n + k) j positive_zero nan (omega (arith, s))))

pub ends_as_peeling_does : EndsAsPeeling
unfolding min_sum_outcome
ends_as_peeling_does ws n m k x v e floats bytes values lf lb lv =
    let result = result_after (lent 8 ws) (n + k) (m + k) (message_at (erasing e x) floats) 512 in
    answered (min_sum_reply ws n m k 512 (erasing e x) floats bytes values) (list_from 0 (n + k) (λ b. byte_for (result b))) (peel_outcome ws n m k (erasing e x)).after (erasing e x) bytes (replicate 65536 0)
    (floats_from 0 (n + k) (λ b. float_for (result b))) (replicate (n + k) positive_zero) floats values (replicate 65536 positive_zero)
    (reply_answers ws n m k x v e floats bytes values lf lb lv) (word_ends ws n m k x v e floats bytes values lf lb lv) (floats_end ws n m k x v e floats bytes values lf lb lv)
