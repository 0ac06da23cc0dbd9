-- A bit sends, and then all of them. Assumes nothing.
use mathlib.Core.Path.{◌≡◌, refl, sym, ap, fun_ext, ◌∙◌}
use mathlib.Core.Bool.{true, ◌&&◌, and-eq-true_iff}
use mathlib.Core.List.{List}
use Prim.Native.Nat.{ℕ, ◌+◌, ◌<◌, ◌≤◌}
use native.Mathlib.Decide.{ℕ_discrete, dec_lt}
use borrow.Author.Tests.{lt-ltb, le-ltb}
use native.Mathlib.Omega.{arith}
use lib.ListN.{length}
use lib.Ieee.{Float}
use Rattle.parity.specs.Finite.{count}
use Rattle.parity.specs.Matrix.{Matrix}
use Rattle.parity.specs.Soft.{Messages, settled, bit_sends, to_checks, but}
use Rattle.bit_node.specs.Sums.{every, bit_answer}
use Rattle.columns.specs.Columns.{Columns}
use Rattle.messages.specs.Memory.{start, held, across, column, held_at, Holds, Within}
use Rattle.bit_row.specs.Row.{Low, Collected, Spread}
use Rattle.phases.specs.Phases.{Part, from, BitSent, Sending, result_of}
use Rattle.phases.specs.Loops.{SentAll}
use Rattle.parity.specs.declared.Channel.{Channel}
use Rattle.parity.proofs.Soft.Cong.{gathered_at}
use Rattle.phases.proofs.Compact.{gathered_row, all_row}
use Rattle.parity.proofs.Finite.Firsts.{nth_below}
use Rattle.bit_row.proofs.Row.{low_more, low_held}

pub part_low : (w : ℕ) (g : ℕ → Channel) (ts : List ℕ) (xs : List Float) (us : List ℕ) (ys : List Float) → Part 65024 w g ts xs us ys → Low ts xs us ys
part_low w g ts xs us ys P = record { tags = P.tags; values = P.values; at = P.before }

module _ (h : Matrix) (N M b : ℕ) (v : Channel) (ts : List ℕ) (xs : List Float) (rt : List ℕ) (rx : List Float)
    (C : Collected (column h b) M (held_at h N ts xs b) rt rx) where
  -- the result from the row
  pub row_result : bit_sends v (count M (column h b)) every (from 65024 rt rx) ≡ bit_sends v M (column h b) (held_at h N ts xs b)
  unfolding bit_sends
  row_result = ap settled (all_row (column h b) (held_at h N ts xs b) (from 65024 rt rx) v M C.at)

  module _ (rt' : List ℕ) (rx' : List Float) (P : Part 65024 (count M (column h b)) (bit_answer v (count M (column h b)) (from 65024 rt rx)) rt rx rt' rx')
      (ts' : List ℕ) (xs' : List Float) (S : Spread h N b 0 M rt' rx' ts' xs') where
    sent_at : (d : ℕ) → d < M → h d b ≡ true → held h N ts' xs' d b ≡ bit_sends v M (λ e. h e b && but d e) (held_at h N ts xs b)
    unfolding bit_sends bit_answer
    sent_at d k e =
        S.done d (omega arith) k e ∙ P.new (count d (column h b)) (nth_below (column h b) d M k e)
        ∙ ap settled (gathered_row (column h b) (held_at h N ts xs b) (from 65024 rt rx) v M d e C.at)

    pub bit_sent : Low ts xs rt rx → start h N 512 ≤ 65024 → M ≤ 512 → BitSent h N M b v ts xs ts' xs'
    bit_sent L m w =
        let K = low_more ts xs rt rx L rt' rx' (part_low _ _ rt rx rt' rx' P) in
        record {
          tags = S.tags ∙ K.tags;
          values = S.values ∙ K.values;
          done = sent_at;
          rest = λ d a k l e n. S.rest d a l e (λ z. absurd (n z)) ∙ low_held ts xs rt' rx' K h N d a m (omega arith) l e;
          above = record { at = λ i k l. S.above.at i k l ∙ K.at i l };
        }

-- ---- all bits
module _ (h : Matrix) (N M : ℕ) (channel : ℕ → Channel) (old : Messages) where
  pub sending_start : (ts : List ℕ) (xs : List Float) → Holds h N M old ts xs → Sending h N M 0 channel old ts xs
  sending_start ts xs H = record { done = λ d a k l m. absurd (omega arith); left = λ d a k l m e. H.at d a k l e }

  module _ (b : ℕ) (kb : b < N) (ts : List ℕ) (xs : List Float) (A : Sending h N M b channel old ts xs) (ts' : List ℕ) (xs' : List Float) (B : BitSent h N M b (channel b) ts xs ts' xs') where
    here : (d : ℕ) → d < M → h d b ≡ true → held h N ts' xs' d b ≡ to_checks h M channel old d b
    unfolding to_checks bit_sends
    here d k e = B.done d k e ∙ ap settled (gathered_at (channel b) M (λ f. h f b && but d f) (held_at h N ts xs b) (λ f. old f b)
        (λ i l q. A.left i b l kb (omega arith) ((and-eq-true_iff (h i b) (but d i)).0 q).0))

    pub sending_more : Sending h N M (b + 1) channel old ts' xs'
    sending_more = record {
      done = λ d a k l m e. elim (ℕ_discrete a b) [
        | yes z ↦ rw z (here d k (rw z at e))
        | no z ↦ B.rest d a k l e z ∙ A.done d a k l (omega arith) e
      ];
      left = λ d a k l m e. B.rest d a k l e (λ z. omega arith) ∙ A.left d a k l (omega arith) e;
    }

-- the results, from messages that the lists hold
pub result_is : (h : Matrix) (N M b : ℕ) (channel : ℕ → Channel) (m : Messages) (ts : List ℕ) (xs : List Float) → b < N → Holds h N M m ts xs
    → result_of h N M channel ts xs b ≡ bit_sends (channel b) M (λ d. h d b) (λ d. m d b)
unfolding result_of bit_sends
result_is h N M b channel m ts xs k H = ap settled (gathered_at (channel b) M (column h b) (held_at h N ts xs b) (λ d. m d b) (λ i l e. H.at i b l k e))

pub sent_none : (h : Matrix) (M : ℕ) (channel : ℕ → Channel) (ts : List ℕ) (xs : List Float) → length ts ≡ 65536 → length xs ≡ 65536 → SentAll h M 0 channel (held h 512 ts xs) ts xs
sent_none h M channel ts xs k l = record { tags = k; values = l; sending = sending_start h 512 M channel (held h 512 ts xs) ts xs (record { tags = k; values = l; at = λ d a i j e. refl }) }

pub sent_more : (h : Matrix) (M b : ℕ) (channel : ℕ → Channel) (old : Messages) (ts : List ℕ) (xs : List Float) → b < 512 → SentAll h M b channel old ts xs
    → (ts' : List ℕ) (xs' : List Float) → BitSent h 512 M b (channel b) ts xs ts' xs' → SentAll h M (b + 1) channel old ts' xs'
sent_more h M b channel old ts xs k A ts' xs' B = record {
  tags = B.tags ∙ A.tags;
  values = B.values ∙ A.values;
  sending = sending_more h 512 M channel old b k ts xs A.sending ts' xs' B;
}

-- the result, from lists that are the same before the row
pub result_at : (h : Matrix) (N M b : ℕ) (channel : ℕ → Channel) (ts : List ℕ) (xs : List Float) (us : List ℕ) (ys : List Float) → Low ts xs us ys → start h N 512 ≤ 65024 → M ≤ 512
    → b < N → (r v : Channel) → r ≡ bit_sends v M (column h b) (held_at h N us ys b) → v ≡ channel b → r ≡ result_of h N M channel ts xs b
unfolding result_of bit_sends
result_at h N M b channel ts xs us ys L m w k r v e q =
    (rw q at e) ∙ ap settled (gathered_at (channel b) M (column h b) (held_at h N us ys b) (held_at h N ts xs b) (λ i l t. low_held ts xs us ys L h N i b m (omega arith) k t))

-- ---- the columns
-- the columns of M checks say the matrix, which has no others
pub across_is : (h g : Matrix) (M : ℕ) → Within h M → Columns M h g → across g ≡ h
across_is h g M W C = fun_ext (λ d. fun_ext (λ a. C.at a d ∙ elim (dec_lt d M) [
  | yes k ↦ rw (lt-ltb d M k)
  | no k ↦ rw (le-ltb d M (omega arith)) (sym (W.after d a (omega arith)))
]))
