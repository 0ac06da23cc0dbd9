-- The bits that are marked: as many as the rank are not, and those that are hold the message. Assumes nothing.
use mathlib.Core.Path.{◌≡◌, refl, sym, ap, ◌∙◌}
use mathlib.Core.Bool.{Bool, true, false, not}
use mathlib.Core.List.{List, [], ◌∷◌}
use Prim.Native.Nat.{ℕ, zero, suc, ◌+◌, ◌-◌, ◌<◌}
use native.Mathlib.Nat.{add-zero, zero-add}
use native.Mathlib.Omega.{arith}
use lib.Dec.{eqb}
use borrow.Author.Tests.{lt-ltb}
use Rattle.parity.specs.Finite.{one, sum, count, list_from}
use Rattle.parity.specs.Matrix.{lent}
use Rattle.parity.specs.Encoding.{dependent, rank_of}
use Rattle.parity.specs.Causes.{Reply, answer}
use Rattle.parity.specs.Calls.{byte_of, encode_reply, encode_outcome}
use Rattle.parity.specs.MessageBits.{message_bits_reply, message_bits_outcome}
use Rattle.parity.specs.MessageBitsPromises.{RankOfMarks, at_marks, MessageMarked}
use Rattle.parity.proofs.Finite.Sums.{is_true, is_false, is, byte_one, count_cong, count_suc, count_mono}
use Rattle.parity.proofs.Finite.Lists.{at_list_from}
use Rattle.parity.proofs.Matrix.Accept.{Accepted, passes}
use Rattle.parity.proofs.Causes.Admit.{accepted_number}
use Rattle.parity.proofs.Words.Bytes.{list_bytes}
use Rattle.parity.proofs.Encoding.Messages.{ranks, others, encode_taken, codeword_written, message_held}
use Rattle.parity.proofs.Finite.Firsts.{nth_below}

-- a call that answers has an accepted matrix with k = 0
marks_accepted : (ws : List ℕ) (n m k : ℕ) (set : List ℕ) → (message_bits_outcome ws n m k set).reply ≡ answer [] → Accepted ws n m k
unfolding message_bits_outcome message_bits_reply
marks_accepted ws n m k set e = accepted_number ws n m k _ (ap (λ (r : Reply). r.number) e)

no_added : (ws : List ℕ) (n m k : ℕ) (set : List ℕ) → (message_bits_outcome ws n m (suc k) set).reply ≡ answer [] → ⊥
unfolding message_bits_outcome message_bits_reply
no_added ws n m k set e = omega (arith, ap (λ (r : Reply). r.number) (rw (passes ws n m (suc k) (marks_accepted ws n m (suc k) set e), lt-ltb 0 (suc k) (omega arith)) at e))

pub rank_of_marks : RankOfMarks
unfolding message_bits_outcome rank_of
rank_of_marks ws n m zero set e =
    let D = dependent (lent 8 ws) m in
    ranks ws n m (marks_accepted ws n m 0 set e) ∙ ap (λ (c : ℕ). answer (c ∷ [])) (count_cong n (λ b l. rw (e, at_list_from 0 n _ b l, zero-add b) (go (D b))))
  where
    go : (d : Bool) → not d ≡ eqb (one d) 0
    go true = refl
    go false = refl
rank_of_marks ws n m (suc k) set e = absurd (no_added ws n m k set e)

-- of the bytes f b, those where p b passes: each is g of how many passed before it
marked : (p : ℕ → Bool) (f g : ℕ → ℕ) (i n c r : ℕ) → count i p ≡ c → count (i + n) p ≡ c + r → ((b : ℕ) → b < i + n → p b ≡ true → f b ≡ g (count b p))
    → at_marks (list_from i n (λ b. one (p b))) (list_from i n f) ≡ list_from c r g
unfolding at_marks list_from
marked p f g i zero c r q s h = let z : r ≡ 0 = omega (arith, rw (add-zero i) at s) in rw z
marked p f g i (suc n) c r q s h =
    let u : suc i + n ≡ i + suc n = omega arith in
    let t : count (suc i + n) p ≡ c + r = rw u s in
    elim (is (p i)) [
      | is_false d ↦ rw d (marked p f g (suc i) n c r (omega (arith, rw d at (count_suc i p))) t (λ b l. h b (omega arith)))
      | is_true d ↦
          let v : r ≡ suc (r - 1) = omega (arith, rw d at (count_suc i p), count_mono (suc i) (suc i + n) p (omega arith)) in
          rw (d, h i (omega arith) d, q, v) (ap (g c ∷◌) (marked p f g (suc i) n (suc c) (r - 1) (omega (arith, rw d at (count_suc i p))) (omega arith) (λ b l. h b (omega arith))))
    ]

-- of a codeword that encoding writes, the bits that are no parity bits, rising, are the message
pub other_bits_hold : (ws : List ℕ) (n m : ℕ) → Accepted ws n m 0 → (message held : List ℕ) → (encode_reply ws n m 0 message held).number ≡ 0
    → at_marks (list_from 0 n (λ b. one (dependent (lent 8 ws) m b))) (encode_outcome ws n m 0 message held).after ≡ message
other_bits_hold ws n m A message held e =
    let h = lent 8 ws in
    let D = dependent h m in
    let (W, l) = encode_taken ws n m A message held e in
    let C = codeword_written ws n m A message W held l in
    let after = (encode_outcome ws n m 0 message held).after in
    let s : count n D ≡ n - rank_of h n m = others ws n m A in
    rw (← list_bytes n after C.word.size)
    (marked D (byte_of after) (byte_of message) 0 n 0 (count n D) (unfold count sum in refl) (rw (zero-add n, zero-add (count n D))) (λ b k d.
    sym (byte_one (byte_of after b) (C.word.bytes b (omega arith))) ∙ ap one (message_held ws n m A message W held l b (omega arith) d)
    ∙ byte_one (byte_of message (count b D)) (W.bytes (count b D) (omega (arith, nth_below D b n (omega arith) d))))
    ∙ rw s (list_bytes (n - rank_of h n m) message W.size))

pub message_marked : MessageMarked
unfolding message_bits_outcome
message_marked ws n m zero set message w e f =
    rw e (other_bits_hold ws n m (marks_accepted ws n m 0 set e) message w (unfold encode_outcome in ap (λ (r : Reply). r.number) f))
message_marked ws n m (suc k) set message w e f = absurd (no_added ws n m k set e)
