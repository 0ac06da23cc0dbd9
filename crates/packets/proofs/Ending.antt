-- The outcome of mending packets, from the packets that are mended. Assumes nothing.
use mathlib.Core.Path.{◌≡◌, refl, sym, ap, ◌∙◌, fun_ext}
use mathlib.Core.Bool.{Bool, true, false, not, cond, ◌&&◌, and-false}
use mathlib.Core.List.{List, [], ◌∷◌, ◌++◌}
use Prim.Native.Nat.{ℕ, ◌+◌, ◌*◌, ◌-◌, ◌^◌, ◌≤◌, ◌<◌}
use native.Mathlib.Nat.{one-mul}
use native.Mathlib.Omega.{arith}
use native.Mathlib.Decide.{dec_lt}
use lib.Dec.{eqb}
use lib.ListN.{get_or, length, get_or-eq_default}
use borrow.Author.Tests.{eq-eqb, eqb-true, eqb-false, lt-ltb, le-ltb, not-true, not-false}
use Rattle.parity.specs.Finite.{one, count, list_from}
use Rattle.parity.specs.Matrix.{Matrix, lent}
use Rattle.parity.specs.Words.{within, losses}
use Rattle.parity.specs.Determining.{some_agrees, determined}
use Rattle.parity.specs.Causes.{answer}
use Rattle.parity.specs.Calls.{byte_of, wrong_byte}
use Rattle.parity.specs.Packets.{lane_word, lost_word, odd_lane, mended_bit, still_lost, words_of, wrong_lengths, packets_reply, packets_outcome}
use Rattle.parity.proofs.Finite.Sums.{is_true, is_false, is, eqb_one, eqb_two, count_cong}
use Rattle.parity.proofs.Matrix.Accept.{Accepted, passes}
use Rattle.parity.proofs.Finite.Lists.{list_from_cong}
use Rattle.parity.proofs.Words.Bytes.{right_bytes, erasable_bit}
use Rattle.parity.proofs.Words.Determine.{Taken, determine_made, determine_refused, after_at}
use Rattle.parity.proofs.Words.Lanes.{words_made, zeros_agree, lane_at, lane_size, lane_word_lem, lost_at, lost_size, lost_word_lem}
use Rattle.parity.proofs.Words.Residue.{withins}
use Rattle.sets.specs.Sets.{SetOf}
use Rattle.result.specs.Result.{held, filled}
use Rattle.result.proofs.Word.{erased_held, ones_held}
use Rattle.sets.specs.Losses.{set_losses}
use Rattle.sets.proofs.Sizes.{losses_sets}
use Rattle.lanes.specs.Tiles.{arrived}
use Rattle.lanes.proofs.Mending.{no_packet}
use Rattle.packets.specs.Sets.{SetMended}

module _ (ws : List ℕ) (n m k : ℕ) (lost packets odd packets' odd' gone left : List ℕ) (A : Accepted ws n m k) (size : length lost ≡ n + k) (room : length packets ≡ (n + k) * length odd)
    (right : wrong_byte 1 lost ≡ false) (few : length odd ≤ 2 ^ 57) (E : SetOf 8 lost 1 gone)
    (D : SetMended (lent 8 ws) (n + k) (m + k) (length odd * 64) (lent 8 gone 0) (lent 8 left 0) (lent (length odd) packets) (lent (length odd) packets') (lent (length odd) odd' 0)) where
  abbrev N : ℕ
  N = n + k

  abbrev M : ℕ
  M = m + k

  abbrev L : ℕ
  L = length odd

  abbrev h : Matrix
  h = lent 8 ws

  abbrev e : ℕ → Bool
  e = lent 8 gone 0

  abbrev none : ℕ → Bool
  none a = false

  e_at : (b : ℕ) → b < N → e b ≡ eqb (byte_of lost b) 1
  e_at b l = E.at b ∙ rw (lt-ltb b (length lost) (omega arith))

  e_out : (b : ℕ) → N ≤ b → e b ≡ false
  e_out b l = E.at b ∙ rw (le-ltb b (length lost) (omega arith))

  -- the word of zeros, and those of the lanes, by the set of lost packets
  zero_is : byte_of (lost_word N lost) ≡ held e none
  zero_is = fun_ext (λ b. elim (dec_lt b N) [
    | yes l ↦ lost_at N lost b l ∙ rw (e_at b l)
    | no l ↦ get_or-eq_default (lost_word N lost) 0 {n = b} (omega (arith, lost_size N lost)) ∙ rw (e_out b (omega arith))
  ])

  lane_is : (i : ℕ) → byte_of (lane_word N L lost packets i) ≡ held e (arrived (lent L packets) e i)
  unfolding arrived
  lane_is i = fun_ext (λ b. elim (dec_lt b N) [
    | yes l ↦ lane_at N L lost packets i b l ∙ rw (e_at b l) (go (eqb (byte_of lost b) 1) (lent L packets b i))
    | no l ↦ get_or-eq_default (lane_word N L lost packets i) 0 {n = b} (omega (arith, lane_size N L lost packets i)) ∙ rw (e_out b (omega arith), no_packet L N packets room b i (omega arith))
  ])
    where
      go : (p q : Bool) → cond p 2 (one q) ≡ cond p 2 (one (not p && q))
      go true q = refl
      go false q = refl

  T₀ : Taken ws n m k (lost_word N lost)
  T₀ = record { accepted = A; word = lost_word_lem N lost }

  T : (i : ℕ) → Taken ws n m k (lane_word N L lost packets i)
  T i = record { accepted = A; word = lane_word_lem N L lost packets i }

  s₀ : some_agrees h N M (byte_of (lost_word N lost)) ≡ true
  s₀ = rw zero_is (zeros_agree h N M (held e none) (held e none) (λ b l. refl) (λ b l q. ap (λ (s : ℕ → Bool). s b) (ones_held e none (λ a q. refl))))

  still_is : (b : ℕ) → b < N → still_lost ws n m k lost b ≡ one (lent 8 left 0 b)
  unfolding still_lost
  still_is b l = rw (after_at ws n m k (lost_word N lost) T₀ s₀ b l, zero_is, ← D.leaves b l)

  pub fewer_packets : within 512 (lent 8 left 0) e ≡ true
  fewer_packets = (withins 512 (lent 8 left 0) e).1 (λ b l. D.fewer b)

  -- the lanes
  module _ (i : ℕ) (u : i < L * 64) where
    told : not (lent L odd' 0 i) ≡ some_agrees h N M (byte_of (lane_word N L lost packets i))
    told = rw (lane_is i) (D.told i u)

    flag_is : lent L odd' 0 i ≡ odd_lane ws n m k lost packets L i
    unfolding odd_lane
    flag_is = elim (is (some_agrees h N M (byte_of (lane_word N L lost packets i)))) [
      | is_true t ↦ rw (determine_made ws n m k (lane_word N L lost packets i) (T i) t) (not-true (lent L odd' 0 i) (told ∙ t))
      | is_false t ↦ rw (determine_refused ws n m k (lane_word N L lost packets i) (T i) t) (not-false (lent L odd' 0 i) (told ∙ t))
    ]

    bit_is : (b : ℕ) → b < N → lent L packets' b i ≡ mended_bit ws n m k lost packets L b i
    unfolding mended_bit
    bit_is b l = elim (is (some_agrees h N M (byte_of (lane_word N L lost packets i)))) [
      | is_true t ↦
          let f = not-true (lent L odd' 0 i) (told ∙ t) in
          rw (after_at ws n m k (lane_word N L lost packets i) (T i) t b l, lane_is i, ← D.bits b i l u f) (made b l)
      | is_false t ↦ rw (determine_refused ws n m k (lane_word N L lost packets i) (T i) t, lane_at N L lost packets i b l)
          (D.kept b i l u (not-false (lent L odd' 0 i) (told ∙ t)) ∙ sym (erasable_bit (eqb (byte_of lost b) 1) (lent L packets b i)))
    ]
      where
        made : (b : ℕ) → b < N → lent L packets' b i ≡ cond (eqb (cond (lent 8 left 0 b) 2 (one (lent L packets' b i))) 2) (lent L packets b i) (eqb (cond (lent 8 left 0 b) 2 (one (lent L packets' b i))) 1)
        made b l = elim (is (lent 8 left 0 b)) [
          | is_true q ↦ rw q (D.stays b i l u q)
          | is_false q ↦ rw (q, eqb_two (lent L packets' b i)) (sym (eqb_one (lent L packets' b i)))
        ]

  -- the reply
  reply_is : packets_reply ws n m k lost packets L ≡ answer (losses n k (held e none) (determined h N M (held e none)) ++ (count (L * 64) (lent L odd' 0) ∷ []))
  unfolding packets_reply wrong_lengths
  reply_is =
      rw (
        passes ws n m k A,
        eq-eqb (length lost) N size,
        eq-eqb (length packets) (N * L) room,
        le-ltb (2 ^ 57) L few,
        right,
        determine_made ws n m k (lost_word N lost) T₀ s₀,
        zero_is,
        count_cong (L * 64) {p = lent L odd' 0} {q = odd_lane ws n m k lost packets L} flag_is,
      )

  -- the packets that are lost afterwards
  lost_is : list_from 0 (length lost) (filled e (lent 8 left 0) none (byte_of lost)) ≡ list_from 0 N (still_lost ws n m k lost)
  lost_is = rw size (list_from_cong 0 N (filled e (lent 8 left 0) none (byte_of lost)) (still_lost ws n m k lost) (λ b l. at (0 + b) (omega arith)))
    where
      at : (b : ℕ) → b < N → filled e (lent 8 left 0) none (byte_of lost) b ≡ still_lost ws n m k lost b
      at b l = rw (still_is b l) (elim (is (lent 8 left 0 b)) [
        | is_true q ↦ rw (q, and-false) (eqb-true (byte_of lost b) 1 (sym (e_at b l) ∙ D.fewer b q))
        | is_false q ↦ elim (is (e b)) [
          | is_true r ↦ rw (q, r)
          | is_false r ↦ rw (q, r) (below (byte_of lost b) ((right_bytes 1 lost).0 right b (omega arith)) (eqb-false (byte_of lost b) 1 (sym (e_at b l) ∙ r)))
        ]
      ])
        where
          below : (a : ℕ) → a ≤ 1 → (a ≡ 1 → ⊥) → a ≡ 0
          below a p q = omega arith

  module _ (long : length packets' ≡ length packets) (wide : length odd' ≡ length odd) (fit : (i : ℕ) → get_or packets' i 0 < 2 ^ 64) (fits : (i : ℕ) → get_or odd' i 0 < 2 ^ 64)
      (most : n + k ≤ 512) where
    packets_are : packets' ≡ words_of L N (mended_bit ws n m k lost packets L)
    packets_are = words_made L N (mended_bit ws n m k lost packets L) packets' (long ∙ room) (λ i l. fit i) (λ b i l u. bit_is i u b l)

    odd_are : odd' ≡ words_of L 1 (λ c. odd_lane ws n m k lost packets L)
    odd_are = words_made L 1 (λ c. odd_lane ws n m k lost packets L) odd' (wide ∙ sym (one-mul L)) (λ i l. fits i) (λ c i l u. let z : c ≡ 0 = omega arith in rw z (flag_is i u))

    -- the four numbers
    four : losses n k (held e none) (determined h N M (held e none)) ≡ set_losses n (512 - n) e (lent 8 left 0)
    four =
        losses_sets 512 n k (held e none) (determined h N M (held e none)) e (lent 8 left 0) most fewer_packets e_out (λ b l. ap (λ (s : ℕ → Bool). s b) (erased_held e none))
        (λ b l. sym (D.leaves b l))

    pub outcome_is : packets_outcome ws n m k lost packets odd ≡ record {
      reply = answer (set_losses n (512 - n) e (lent 8 left 0) ++ (count (L * 64) (lent L odd' 0) ∷ []));
      lost = list_from 0 (length lost) (filled e (lent 8 left 0) none (byte_of lost));
      packets = packets';
      odd = odd';
    }
    unfolding packets_outcome
    outcome_is = rw (reply_is, four, lost_is, ← packets_are, ← odd_are)
