-- Mending packets determines every lane. Assumes nothing.
use mathlib.Core.Path.{◌≡◌, refl, sym, ap, ◌∙◌}
use mathlib.Core.Logic.{◌↔◌}
use mathlib.Core.Bool.{Bool, true, false, cond}
use mathlib.Core.List.{List}
use Prim.Native.Nat.{ℕ, ◌+◌, ◌*◌, ◌≤◌, ◌<◌}
use native.Mathlib.Nat.{zero-add}
use native.Mathlib.Omega.{arith}
use native.Mathlib.Decide.{ℕ_discrete}
use lib.Dec.{eqb}
use lib.ListN.{length}
use lib.Seq.{ext_get_or}
use borrow.Author.Tests.{eq-eqb, ne_eqb, eqb-true, not-false}
use Rattle.parity.specs.Finite.{one, list_from}
use Rattle.parity.specs.Matrix.{Matrix, lent}
use Rattle.parity.specs.Words.{erased, is_one}
use Rattle.parity.specs.Determining.{some_agrees, determined}
use Rattle.parity.specs.Causes.{Outcome}
use Rattle.parity.specs.Calls.{byte_of}
use Rattle.parity.specs.Packets.{lane_word, lost_word, lane_outcome, odd_lane, mended_bit, still_lost, words_of, packets_reply, packets_outcome}
use Rattle.parity.specs.PacketsPromises.{PacketsAsLanes, StillLost}
use Rattle.parity.specs.DeterminingPromises.{Agreeing}
use Rattle.parity.proofs.Finite.Bools.{same_test}
use Rattle.parity.proofs.Finite.Sums.{is_true, is_false, is, byte_one}
use Rattle.parity.proofs.Finite.Lists.{at_list_from}
use Rattle.parity.proofs.Matrix.Accept.{Accepted}
use Rattle.parity.proofs.Causes.Admit.{accepted_number}
use Rattle.parity.proofs.Words.Agreeing.{open_at, determined_byte}
use Rattle.parity.proofs.Words.Determine.{Taken, determine_made, determine_refused, answered, after_size, after_at, agreeing_at, agreeing_of, listed, listed_at}
use Rattle.parity.proofs.Words.Lanes.{lent_words, zeros_agree, open_of, open_less, open_more, lane_at, lane_bit, lane_size, lane_word_lem, lost_word_lem, lost_erased, lost_zero, lane_erased}

one_true : (x : Bool) → ◌≡◌ {A = ℕ} (one x) 1 → x ≡ true
one_true true e = refl
one_true false e = absurd (omega arith)

-- a call that answers
module _ (ws : List ℕ) (n m k : ℕ) (lost packets odd : List ℕ) (e : (packets_outcome ws n m k lost packets odd).reply.number ≡ 0) where
  abbrev N : ℕ
  N = n + k

  abbrev L : ℕ
  L = length odd

  abbrev h : Matrix
  h = lent 8 ws

  number : (packets_reply ws n m k lost packets L).number ≡ 0
  unfolding packets_outcome
  number = e

  pub mending_accepted : Accepted ws n m k
  unfolding packets_reply
  mending_accepted = accepted_number ws n m k _ number

  pub lost_is : (packets_outcome ws n m k lost packets odd).lost ≡ list_from 0 N (still_lost ws n m k lost)
  unfolding packets_outcome
  lost_is = rw (eq-eqb (packets_reply ws n m k lost packets L).number 0 number)

  pub packets_is : (packets_outcome ws n m k lost packets odd).packets ≡ words_of L N (mended_bit ws n m k lost packets L)
  unfolding packets_outcome
  packets_is = rw (eq-eqb (packets_reply ws n m k lost packets L).number 0 number)

  pub odd_is : (packets_outcome ws n m k lost packets odd).odd ≡ words_of L 1 (λ c. odd_lane ws n m k lost packets L)
  unfolding packets_outcome
  odd_is = rw (eq-eqb (packets_reply ws n m k lost packets L).number 0 number)

  still_at : (b : ℕ) → b < N → byte_of (packets_outcome ws n m k lost packets odd).lost b ≡ still_lost ws n m k lost b
  still_at b l = rw lost_is (at_list_from 0 N (still_lost ws n m k lost) b l ∙ ap (still_lost ws n m k lost) (zero-add b))

  -- the word of zeros
  pub zeros_taken : Taken ws n m k (lost_word N lost)
  zeros_taken = record { accepted = mending_accepted; word = lost_word_lem N lost }

  pub zeros_agreed : some_agrees h N (m + k) (byte_of (lost_word N lost)) ≡ true
  zeros_agreed = zeros_agree h N (m + k) (byte_of (lost_word N lost)) (byte_of (lost_word N lost)) (λ b l. refl) (λ b l q. lost_zero N lost b l)

  -- a packet is still lost where a codeword of the losses has a one
  pub still : (b : ℕ) → b < N → byte_of (packets_outcome ws n m k lost packets odd).lost b ≡ one (eqb (determined h N (m + k) (byte_of (lost_word N lost)) b) 2)
  unfolding still_lost
  still b l = still_at b l ∙ rw (after_at ws n m k (lost_word N lost) zeros_taken zeros_agreed b l)

  lost_of : (b : ℕ) → b < N → (byte_of (packets_outcome ws n m k lost packets odd).lost b ≡ 1) ↔ ((x : List ℕ) × Agreeing ws n m k (lost_word N lost) x × (byte_of x b ≡ 1))
  lost_of b l = (
    λ q.
        let d = eqb-true (determined h N (m + k) (byte_of (lost_word N lost)) b) 2 (one_true _ (sym (still b l) ∙ q)) in
        let (y, z, u, v, p, r) = open_at h N (m + k) (byte_of (lost_word N lost)) b d in
        (listed ws n m k (lost_word N lost) y, agreeing_of ws n m k (lost_word N lost) zeros_taken y u, listed_at ws n m k (lost_word N lost) y b l ∙ rw p),
    λ c.
        let (x, a, p) = c in
        still b l ∙ rw (open_of h N (m + k) (byte_of (lost_word N lost)) (byte_of (lost_word N lost)) (λ b l. refl) (λ b l q. lost_zero N lost b l) b l (is_one (byte_of x))
        (agreeing_at ws n m k (lost_word N lost) mending_accepted x a) (eq-eqb (byte_of x b) 1 p)),
  )

  module _ (i : ℕ) (u : i < L * 64) where
    abbrev w : List ℕ
    w = lane_word N L lost packets i

    abbrev o : Outcome
    o = lane_outcome ws n m k lost packets L i

    pub lane_taken : Taken ws n m k w
    lane_taken = record { accepted = mending_accepted; word = lane_word_lem N L lost packets i }

    pub bit_is : (b : ℕ) → b < N → lent L (packets_outcome ws n m k lost packets odd).packets b i ≡ mended_bit ws n m k lost packets L b i
    bit_is b l = rw packets_is (lent_words L N (mended_bit ws n m k lost packets L) b i l u)

    pub flag_is : lent L (packets_outcome ws n m k lost packets odd).odd 0 i ≡ odd_lane ws n m k lost packets L i
    flag_is = rw odd_is (lent_words L 1 (λ c. odd_lane ws n m k lost packets L) 0 i (omega arith) u)

    flag : (lent L (packets_outcome ws n m k lost packets odd).odd 0 i ≡ false) ↔ (o.reply.number ≡ 0)
    unfolding odd_lane
    flag = (
      λ q. eqb-true o.reply.number 0 (not-false (eqb o.reply.number 0) (sym flag_is ∙ q)),
      λ q. flag_is ∙ rw (eq-eqb o.reply.number 0 q),
    )

    same : (b : ℕ) → b < N → erased (byte_of (lost_word N lost)) b ≡ erased (byte_of w) b
    same b l = lost_erased N lost b l ∙ sym (lane_erased N L lost packets i b l)

    -- a packet is still lost exactly where the lane's bit stays open
    still_open : some_agrees h N (m + k) (byte_of w) ≡ true → (b : ℕ) → b < N → still_lost ws n m k lost b ≡ one (eqb (byte_of o.after b) 2)
    unfolding still_lost
    still_open t b l =
        rw (after_at ws n m k (lost_word N lost) zeros_taken zeros_agreed b l, after_at ws n m k w lane_taken t b l) (ap one (same_test _ _
        (λ q. eq-eqb _ 2 (open_more h N (m + k) (byte_of w) (byte_of (lost_word N lost)) same (λ b l q. lost_zero N lost b l) t b l (eqb-true _ 2 q)))
        (λ q. eq-eqb _ 2 (open_less h N (m + k) (byte_of w) (byte_of (lost_word N lost)) same (λ b l q. lost_zero N lost b l) b l (eqb-true _ 2 q)))))

    mended : o.reply.number ≡ 0 → lane_word N L (packets_outcome ws n m k lost packets odd).lost (packets_outcome ws n m k lost packets odd).packets i ≡ o.after
    unfolding mended_bit
    mended q =
        let (T', t) = answered ws n m k w q in
        ext_get_or 0 _ o.after (lane_size N L _ _ i ∙ sym (after_size ws n m k w lane_taken t)) (λ b l.
        let l' : b < N = rw (lane_size N L (packets_outcome ws n m k lost packets odd).lost (packets_outcome ws n m k lost packets odd).packets i) at l in
        lane_at N L _ _ i b l' ∙ rw (still_at b l', bit_is b l', still_open t b l')
        (go (byte_of o.after b) (lent L packets b i) (rw (after_at ws n m k w lane_taken t b l') (determined_byte h N (m + k) (byte_of w) b))))
      where
        go : (x : ℕ) (v : Bool) → x ≤ 2 → cond (eqb (one (eqb x 2)) 1) 2 (one (cond (eqb x 2) v (eqb x 1))) ≡ x
        go x v l = elim (ℕ_discrete x 2) [
          | yes r ↦ rw r
          | no d ↦ rw (ne_eqb x 2 d) (byte_one x (omega arith))
        ]

    kept : (o.reply.number ≡ 0 → ⊥) → (b : ℕ) → b < N → lent L (packets_outcome ws n m k lost packets odd).packets b i ≡ lent L packets b i
    unfolding mended_bit
    kept d b l = elim (is (some_agrees h N (m + k) (byte_of w))) [
      | is_true t ↦ absurd (d (ap (λ (o : Outcome). o.reply.number) (determine_made ws n m k w lane_taken t)))
      | is_false t ↦ bit_is b l ∙ rw (determine_refused ws n m k w lane_taken t) (lane_bit N L lost packets i b l)
    ]

    left : (b : ℕ) → b < N → byte_of (packets_outcome ws n m k lost packets odd).lost b ≡ 1 → lent L (packets_outcome ws n m k lost packets odd).packets b i ≡ lent L packets b i
    unfolding mended_bit
    left b l q = elim (ℕ_discrete o.reply.number 0) [
      | no d ↦ kept d b l
      | yes r ↦
          let (T', t) = answered ws n m k w r in
          let z : eqb (byte_of o.after b) 2 ≡ true = one_true (eqb (byte_of o.after b) 2) (sym (still_at b l ∙ still_open t b l) ∙ q) in
          bit_is b l ∙ rw z
    ]

pub packets_as_lanes : PacketsAsLanes
packets_as_lanes ws n m k lost packets odd e i u = record {
  flag = flag ws n m k lost packets odd e i u;
  mended = mended ws n m k lost packets odd e i u;
  kept = kept ws n m k lost packets odd e i u;
  left = left ws n m k lost packets odd e i u;
}

pub still_lost_lem : StillLost
still_lost_lem ws n m k lost packets odd e = lost_of ws n m k lost packets odd e
