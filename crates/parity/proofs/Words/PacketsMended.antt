-- What the answer of mending packets tells, what it leaves of codewords, and that mending again changes nothing. Assumes nothing.
use mathlib.Core.Path.{◌≡◌, refl, sym, ap, ◌∙◌}
use mathlib.Core.Bool.{Bool, false, not, cond, ◌&&◌}
use mathlib.Core.List.{List, [], ◌∷◌, ◌++◌}
use Prim.Native.Nat.{ℕ, ◌+◌, ◌*◌, ◌<◌}
use native.Mathlib.Nat.{one-mul}
use native.Mathlib.Omega.{arith}
use native.Mathlib.Decide.{ℕ_discrete}
use lib.Dec.{eqb}
use lib.ListN.{length, get_or, take, replicate, length-replicate, get_or-replicate}
use lib.Pow.{pow_pos}
use lib.Seq.{ext_get_or}
use borrow.Author.Tests.{eq-eqb, ne_eqb}
use Rattle.parity.specs.Finite.{one, count, list_from}
use Rattle.parity.specs.Matrix.{Matrix, lent}
use Rattle.parity.specs.Words.{erased, is_one, recovered, losses}
use Rattle.parity.specs.Determining.{some_agrees, determined}
use Rattle.parity.specs.Causes.{Reply, Outcome, answer}
use Rattle.parity.specs.Calls.{byte_of, wrong_length, wrong_byte, determine_outcome}
use Rattle.parity.specs.Packets.{is_lost, lane_word, lost_word, lane_outcome, odd_lane, mended_bit, still_lost, words_of, wrong_lengths, packets_reply, PacketsOutcome, packets_outcome}
use Rattle.parity.specs.PacketsPromises.{LossesDecide, PacketsTold, Codewords, CodewordsMended, MendedTwice}
use Rattle.parity.specs.DeterminingPromises.{Agreeing}
use Rattle.parity.proofs.Finite.Bools.{or_false_both}
use Rattle.parity.proofs.Finite.Sums.{is_true, is_false, is, one≤1, eqb_one, eqb_two, count_cong, count_never}
use Rattle.parity.proofs.Matrix.Lent.{lent_empty}
use Rattle.parity.proofs.Finite.Lists.{length_list_from, list_from_cong}
use Rattle.parity.proofs.Matrix.Accept.{Accepted, passes}
use Rattle.parity.proofs.Words.Agreeing.{Agree, some_of, none_of, known_value}
use Rattle.parity.proofs.Words.Bytes.{Word, word_right}
use Rattle.parity.proofs.Words.Determine.{Taken, determine_made, determine_refused, answered, after_size, after_at, agreeing_at, again}
use Rattle.parity.proofs.Words.Determining.{writes_one_value}
use Rattle.parity.proofs.Words.Lanes.{words_length, words_made, words_cong, zero_or_open, lane_at, lane_bit, lane_word_lem, lane_erased, lost_at, lost_size, lost_erased, lost_zero}
use Rattle.parity.proofs.Words.Packets.{mending_accepted, lost_is, packets_is, odd_is, zeros_taken, zeros_agreed, still, lane_taken, bit_is, flag_is, packets_as_lanes}

module _ (ws : List ℕ) (n m k : ℕ) (lost packets odd : List ℕ) where
  abbrev N : ℕ
  N = n + k

  abbrev L : ℕ
  L = length odd

  abbrev h : Matrix
  h = lent 8 ws

  abbrev o : PacketsOutcome
  o = packets_outcome ws n m k lost packets odd

  -- where no cause refuses, the call answers
  answers : Accepted ws n m k → wrong_lengths N L lost packets ≡ false → wrong_byte 1 lost ≡ false → o.reply.number ≡ 0
  unfolding packets_outcome packets_reply
  answers a p q = rw (passes ws n m k a, p, q)

  module _ (e : o.reply.number ≡ 0) where
    -- and only there
    right : (wrong_lengths N L lost packets ≡ false) × (wrong_byte 1 lost ≡ false)
    unfolding packets_outcome packets_reply
    right =
        let f = rw (passes ws n m k (mending_accepted ws n m k lost packets odd e)) at e in
        elim (is (wrong_lengths N L lost packets)) [
          | is_true p ↦ absurd (omega (arith, rw p at f))
          | is_false p ↦ elim (is (wrong_byte 1 lost)) [ is_true q ↦ absurd (omega (arith, rw (p, q) at f)) | is_false q ↦ (p, q) ]
        ]

    -- what determining leaves of the word of zeros
    abbrev d : ℕ → ℕ
    d = determined h N (m + k) (byte_of (lost_word N lost))

    -- the answer: what is lost in the word of zeros, and the odd lanes
    reply_is : o.reply ≡ answer (losses n k (byte_of (lost_word N lost)) d ++ (count (L * 64) (odd_lane ws n m k lost packets L) ∷ []))
    unfolding packets_outcome packets_reply
    reply_is =
        let (p, q) = right in
        rw (passes ws n m k (mending_accepted ws n m k lost packets odd e), p, q)
        (ap (λ (u : Outcome). answer (u.reply.values ++ (count (L * 64) (odd_lane ws n m k lost packets L) ∷ [])))
        (determine_made ws n m k (lost_word N lost) (zeros_taken ws n m k lost packets odd e) (zeros_agreed ws n m k lost packets odd e)))

    lost_after : (b : ℕ) → b < N → is_lost o.lost b ≡ erased d b
    lost_after b l = rw (still ws n m k lost packets odd e b l) (eqb_one (erased d b))

    got : ℕ → Bool
    got b = is_lost lost b && not (is_lost o.lost b)

    got_is : (b : ℕ) → b < N → recovered (byte_of (lost_word N lost)) d b ≡ got b
    unfolding recovered got
    got_is b l = rw (lost_erased N lost b l, lost_after b l)

    -- The lanes that were sent are codewords, and what arrived is theirs.
    module _ (sent : List ℕ) (C : Codewords ws n m k L sent) (same : (b i : ℕ) → b < N → i < L * 64 → is_lost lost b ≡ false → lent L packets b i ≡ lent L sent b i)
        (i : ℕ) (u : i < L * 64) where
      sent_agrees : Agreeing ws n m k (lane_word N L lost packets i) (lane_word N L [] sent i)
      sent_agrees = record {
        codeword = C i u;
        known = λ b l d. elim (is (is_lost lost b)) [
          | is_true q ↦ absurd (d (lane_at N L lost packets i b l ∙ rw q))
          | is_false q ↦ lane_at N L [] sent i b l ∙ sym (lane_at N L lost packets i b l ∙ rw (q, same b i l u q))
        ];
      }

      sent_answers : (lane_outcome ws n m k lost packets L i).reply.number ≡ 0
      sent_answers =
          ap (λ (o : Outcome). o.reply.number) (determine_made ws n m k (lane_word N L lost packets i) (lane_taken ws n m k lost packets odd e i u)
          (some_of h N (m + k) (byte_of (lane_word N L lost packets i)) _ (agreeing_at ws n m k _ (mending_accepted ws n m k lost packets odd e) _ sent_agrees)))

      sent_even : odd_lane ws n m k lost packets L i ≡ false
      unfolding odd_lane
      sent_even = rw sent_answers

      sent_back : (b : ℕ) → b < N → is_lost o.lost b ≡ false → lent L o.packets b i ≡ lent L sent b i
      sent_back b l q =
          let p : one (lent L o.packets b i) ≡ byte_of (lane_outcome ws n m k lost packets L i).after b = sym (lane_at N L o.lost o.packets i b l ∙ rw q)
          ∙ ap (λ (w : List ℕ). byte_of w b) ((packets_as_lanes ws n m k lost packets odd e i u).mended sent_answers) in
          let v = (writes_one_value ws n m k _ sent_answers).value b l (λ z. omega (arith, p, one≤1 (lent L o.packets b i))) _ sent_agrees in
          sym (eqb_one (lent L o.packets b i)) ∙ ap (λ (a : ℕ). eqb a 1) (p ∙ v ∙ lane_at N L [] sent i b l) ∙ eqb_one (lent L sent b i)

    -- Mending again: determining left the word of zeros as it is with the packets that are lost now,
    lost_left : lost_word N o.lost ≡ (determine_outcome ws n m k (lost_word N lost)).after
    lost_left =
        let t = zeros_taken ws n m k lost packets odd e in
        let s = zeros_agreed ws n m k lost packets odd e in
        ext_get_or 0 (lost_word N o.lost) _ (lost_size N o.lost ∙ sym (after_size ws n m k (lost_word N lost) t s)) (λ b j.
        let l : b < N = rw (lost_size N o.lost) at j in
        lost_at N o.lost b l ∙ rw (lost_after b l) (go (d b)
        (zero_or_open h N (m + k) (byte_of (lost_word N lost)) (byte_of (lost_word N lost)) (λ b l. refl) (λ b l q. lost_zero N lost b l) b l))
        ∙ sym (after_at ws n m k (lost_word N lost) t s b l))
      where
        go : (x : ℕ) → ((x ≡ 2 → ⊥) → x ≡ 0) → cond (eqb x 2) 2 0 ≡ x
        go x f = elim (ℕ_discrete x 2) [ yes q ↦ rw q | no d ↦ rw (ne_eqb x 2 d) (sym (f d)) ]

    -- which are among those that were lost,
    arrived : (b : ℕ) → b < N → is_lost lost b ≡ false → is_lost o.lost b ≡ false
    arrived b l q =
        lost_after b l ∙ rw (known_value h N (m + k) (byte_of (lost_word N lost)) (zeros_agreed ws n m k lost packets odd e) b l (lost_erased N lost b l ∙ q))
        (eqb_two (is_one (byte_of (lost_word N lost)) b))

    module _ (i : ℕ) (u : i < L * 64) where
      abbrev w : List ℕ
      w = lane_word N L lost packets i

      abbrev w' : List ℕ
      w' = lane_word N L o.lost o.packets i

      -- so that a codeword that agrees with an odd lane now agreed with it before,
      agreed : ((lane_outcome ws n m k lost packets L i).reply.number ≡ 0 → ⊥) → (y : ℕ → Bool) → Agree h N (m + k) (byte_of w') y → Agree h N (m + k) (byte_of w) y
      agreed d y a = record {
        even = a.even;
        known = λ b l q.
            let r = sym (lane_erased N L lost packets i b l) ∙ q in
            let r' = arrived b l r in
            a.known b l (lane_erased N L o.lost o.packets i b l ∙ r')
            ∙ rw (lane_at N L lost packets i b l, lane_at N L o.lost o.packets i b l, r, r', (packets_as_lanes ws n m k lost packets odd e i u).kept d b l);
      }

      -- and it stays odd; one that answered answers again; and determining leaves each as it is.
      lane_again : (odd_lane ws n m k o.lost o.packets L i ≡ odd_lane ws n m k lost packets L i) × ((lane_outcome ws n m k o.lost o.packets L i).after ≡ w')
      unfolding odd_lane
      lane_again = elim (ℕ_discrete (lane_outcome ws n m k lost packets L i).reply.number 0) [
        | yes q ↦
            let x = (packets_as_lanes ws n m k lost packets odd e i u).mended q in
            let (t, s) = answered ws n m k w q in
            let r = again ws n m k w t s in
            (rw (x, r, q), rw (x, r))
        | no d ↦
            let t : Taken ws n m k w' = record { accepted = mending_accepted ws n m k lost packets odd e; word = lane_word_lem N L o.lost o.packets i } in
            let z : some_agrees h N (m + k) (byte_of w') ≡ false = none_of h N (m + k) (byte_of w') (λ y a. d (ap (λ (o : Outcome). o.reply.number)
            (determine_made ws n m k w (lane_taken ws n m k lost packets odd e i u) (some_of h N (m + k) (byte_of w) y (agreed d y a))))) in
            let r = determine_refused ws n m k w' t z in
            (rw (r, ne_eqb (lane_outcome ws n m k lost packets L i).reply.number 0 d), rw r)
      ]

      bit_again : (b : ℕ) → b < N → mended_bit ws n m k o.lost o.packets L b i ≡ lent L o.packets b i
      unfolding mended_bit
      bit_again b l = rw lane_again.1 (lane_bit N L o.lost o.packets i b l)

    -- So the three lists come back,
    lost_again : list_from 0 N (still_lost ws n m k o.lost) ≡ o.lost
    unfolding still_lost
    lost_again =
        let r = again ws n m k (lost_word N lost) (zeros_taken ws n m k lost packets odd e) (zeros_agreed ws n m k lost packets odd e) in
        list_from_cong 0 N (still_lost ws n m k o.lost) (still_lost ws n m k lost) (λ b l. rw (lost_left, r)) ∙ sym (lost_is ws n m k lost packets odd e)

    odd_size : length o.odd ≡ L
    odd_size = rw (odd_is ws n m k lost packets odd e) (words_length L 1 (λ c. odd_lane ws n m k lost packets L) ∙ one-mul L)

    packets_again : words_of (length o.odd) N (mended_bit ws n m k o.lost o.packets (length o.odd)) ≡ o.packets
    packets_again = rw odd_size (words_cong L N _ _ (λ b i l u. bit_again i u b l ∙ bit_is ws n m k lost packets odd e i u b l) ∙ sym (packets_is ws n m k lost packets odd e))

    odd_again : words_of (length o.odd) 1 (λ c. odd_lane ws n m k o.lost o.packets (length o.odd)) ≡ o.odd
    odd_again = rw odd_size (words_cong L 1 _ _ (λ c i l u. (lane_again i u).0) ∙ sym (odd_is ws n m k lost packets odd e))

    -- and no cause refuses them.
    lost_bytes : Word N 1 o.lost
    lost_bytes = record {
      size = rw (lost_is ws n m k lost packets odd e) (length_list_from 0 N (still_lost ws n m k lost));
      bytes = λ b l. rw (still ws n m k lost packets odd e b l) (one≤1 (erased d b));
    }

    right_again : wrong_lengths N (length o.odd) o.lost o.packets ≡ false
    unfolding wrong_lengths
    right_again =
        let p : length o.packets ≡ N * L = rw (packets_is ws n m k lost packets odd e) (words_length L N (mended_bit ws n m k lost packets L)) in
        rw (odd_size, eq-eqb (length o.lost) N lost_bytes.size, eq-eqb (length o.packets) (N * L) p)
        (or_false_both (wrong_length (N * L) packets) _ (or_false_both (wrong_length N lost) _ right.0).1).1

pub losses_decide : LossesDecide
unfolding losses
losses_decide ws n m k lost packets odd packets' odd' e e' = (
  lost_is ws n m k lost packets odd e ∙ sym (lost_is ws n m k lost packets' odd' e'),
  ap (λ (r : Reply). take 4 r.values) (reply_is ws n m k lost packets odd e) ∙ sym (ap (λ (r : Reply). take 4 r.values) (reply_is ws n m k lost packets' odd' e')),
)

pub packets_told : PacketsTold
unfolding losses got
packets_told ws n m k lost packets odd e =
    let o = packets_outcome ws n m k lost packets odd in
    let w = byte_of (lost_word (n + k) lost) in
    let d = determined (lent 8 ws) (n + k) (m + k) w in
    reply_is ws n m k lost packets odd e ∙ rw (
      count_cong n {p = recovered w d} {q = got ws n m k lost packets odd e} (λ b l. got_is ws n m k lost packets odd e b (omega arith)),
      count_cong k {p = λ j. recovered w d (n + j)} {q = λ j. got ws n m k lost packets odd e (n + j)} (λ j l. got_is ws n m k lost packets odd e (n + j) (omega arith)),
      count_cong n {p = is_lost o.lost} {q = erased d} (λ b l. lost_after ws n m k lost packets odd e b (omega arith)),
      count_cong k {p = λ j. is_lost o.lost (n + j)} {q = λ j. erased d (n + j)} (λ j l. lost_after ws n m k lost packets odd e (n + j) (omega arith)),
      count_cong (length odd * 64) {p = lent (length odd) o.odd 0} {q = odd_lane ws n m k lost packets (length odd)} (flag_is ws n m k lost packets odd e),
    )

pub codewords_mended : CodewordsMended
codewords_mended ws n m k lost packets odd sent e C same =
    let L = length odd in (
      odd_is ws n m k lost packets odd e ∙ sym (words_made L 1 (λ c. odd_lane ws n m k lost packets L) (replicate L 0)
          (length-replicate {A = ℕ} L 0 ∙ sym (one-mul L)) (λ i l. rw (get_or-replicate {A = ℕ} L i 0 0 (omega (arith, one-mul L))) (pow_pos 64))
          (λ c i l u. lent_empty L L (replicate L 0) refl c i ∙ sym (sent_even ws n m k lost packets odd e sent C same i u))),
      λ b i l u q. sent_back ws n m k lost packets odd e sent C same i u b l q,
    )

outcome_is : (x : PacketsOutcome) (r : Reply) (lost packets odd : List ℕ) → x.reply ≡ r → x.lost ≡ lost → x.packets ≡ packets → x.odd ≡ odd
    → x ≡ record { reply = r; lost = lost; packets = packets; odd = odd }
outcome_is x r lost packets odd e f g h = rw (← e, ← f, ← g, ← h)

pub mended_twice : MendedTwice
mended_twice ws n m k lost packets odd rs ra ls la lanes f =
    let e = ap (λ (r : Reply). r.number) f in
    let o = packets_outcome ws n m k lost packets odd in
    let v = sym (packets_told ws n m k lost packets odd e) ∙ f in
    let p : count n (is_lost o.lost) ≡ ls = ap (λ (r : Reply). get_or r.values 2 0) v in
    let q : count k (λ j. is_lost o.lost (n + j)) ≡ la = ap (λ (r : Reply). get_or r.values 3 0) v in
    let c : count (length odd * 64) (lent (length odd) o.odd 0) ≡ lanes = ap (λ (r : Reply). get_or r.values 4 0) v in
    let s = odd_size ws n m k lost packets odd e in
    let e' = answers ws n m k o.lost o.packets o.odd (mending_accepted ws n m k lost packets odd e) (right_again ws n m k lost packets odd e)
    (word_right (n + k) 1 o.lost (lost_bytes ws n m k lost packets odd e)) in
    let x = lost_is ws n m k o.lost o.packets o.odd e' ∙ lost_again ws n m k lost packets odd e in
    let y = packets_is ws n m k o.lost o.packets o.odd e' ∙ packets_again ws n m k lost packets odd e in
    let z = odd_is ws n m k o.lost o.packets o.odd e' ∙ odd_again ws n m k lost packets odd e in
    outcome_is _ _ _ _ _ (packets_told ws n m k o.lost o.packets o.odd e'
    ∙ rw (x, z, s, count_never n (is_lost o.lost), count_never k (λ j. is_lost o.lost (n + j)), p, q, c)) x y z
