-- Sums of soft values alone, over their floats. Assumes nothing.
use mathlib.Core.Path.{◌≡◌, refl, sym, ap, ◌∙◌}
use mathlib.Core.Bool.{true}
use mathlib.Core.List.{List}
use Prim.Native.Nat.{ℕ, ◌+◌, ◌<◌}
use native.Mathlib.Decide.{ℕ_discrete}
use native.Mathlib.Omega.{arith}
use lib.ListN.{get_or, length, set, length-set}
use lib.Seq.{get_or-set_same, get_or-set_other}
use lib.Ieee.{Float, nan, binary32, add}
use lib.Dec.{eqb}
use borrow.Author.Tests.{eqb-true}
use Rattle.std.specs.List.{list_all}
use Rattle.soft.proofs.Zipped.{all_at}
use Rattle.parity.specs.Soft.{byte_for, float_for, message_at, with_next}
use Rattle.parity.specs.declared.Channel.TheVariants.{Soft}
use Rattle.parity.proofs.Soft.Cong.{gathered_cong}
use Rattle.soft.specs.Store.{Holding}
use Rattle.bit_node.specs.Sums.{part_sum, AddedTo, soft_at, SoftSums}
use Rattle.bit_node.proofs.Adding.{sum_none, sum_other, sum_at, sum_next}

-- ---- adding
module _ (xs : List Float) (x : Float) where
  pub added_none : AddedTo xs x 0 xs
  added_none = record { size = refl; new = λ t k. absurd (omega arith); old = λ t k. refl }

  pub added_more : (t : ℕ) (ys : List Float) → AddedTo xs x t ys → t < length ys → AddedTo xs x (t + 1) (set ys t (add binary32 (get_or ys t nan) x))
  added_more t ys A k = record {
    size = length-set ys t _ ∙ A.size;
    new = λ i l. elim (ℕ_discrete i t) [
      | yes q ↦ rw q (get_or-set_same ys t _ nan k ∙ ap (λ a. add binary32 a x) (A.old t (omega arith)))
      | no q ↦ get_or-set_other ys t i _ nan q ∙ A.new i (omega arith)
    ];
    old = λ i l. get_or-set_other ys t i _ nan (λ q. omega arith) ∙ A.old i (omega arith);
  }

-- ---- the sums
module _ (c : Float) (xs : List Float) where
  pub alone_none : SoftSums c xs 0 xs c
  alone_none = record { size = refl; sum = sym (sum_none (Soft c) (soft_at xs) 0); new = λ t k. absurd (omega arith); old = λ t k. refl }

  pub alone_more : (j : ℕ) (ys : List Float) (all : Float) → SoftSums c xs j ys all → j < length xs → (zs : List Float) → AddedTo ys (get_or ys j nan) j zs
      → SoftSums c xs (j + 1) (set zs j all) (add binary32 all (get_or ys j nan))
  alone_more j ys all S k zs A =
      let e : get_or ys j nan ≡ get_or xs j nan = S.old j (omega arith) in
      let kz : j < length zs = omega (arith, A.size, S.size) in
      record {
        size = length-set zs j all ∙ A.size ∙ S.size;
        sum = sum_next (Soft c) (soft_at xs) (Soft all) (Soft (get_or ys j nan)) j S.sum (ap Soft e);
        new = λ t l. elim (ℕ_discrete t j) [
          | yes q ↦ rw q (ap Soft (get_or-set_same zs j all nan kz) ∙ S.sum ∙ sym (sum_at (Soft c) (soft_at xs) j))
          | no q ↦
              ap Soft (get_or-set_other zs j t all nan q ∙ A.new t (omega arith))
              ∙ ap (λ v. with_next v (Soft (get_or ys j nan))) (S.new t (omega arith))
              ∙ ap (λ a. with_next (part_sum (Soft c) (soft_at xs) j t) (Soft a)) e
              ∙ sym (sum_other (Soft c) (soft_at xs) j t (λ z. omega arith))
        ];
        old = λ t l. get_or-set_other zs j t all nan (λ q. omega arith) ∙ A.old t (omega arith) ∙ S.old t (omega arith);
      }

-- ---- as values in bytes and floats
pub each_soft : (ts : List ℕ) → list_all (λ t. eqb t 3) ts ≡ true → (t : ℕ) → t < length ts → get_or ts t 0 ≡ 3
each_soft ts e t k = eqb-true _ 3 (all_at (λ t. eqb t 3) ts e t 0 k)

module _ (ts : List ℕ) (xs : List Float) (c : Float) (soft : (t : ℕ) → t < length ts → get_or ts t 0 ≡ 3) (same : length ts ≡ length xs) where
  same_sum : (t : ℕ) → part_sum (Soft c) (soft_at xs) (length ts) t ≡ part_sum (Soft c) (message_at ts xs) (length ts) t
  unfolding part_sum message_at
  same_sum t = gathered_cong (Soft c) (length ts) _ _ (soft_at xs) (message_at ts xs) (λ i k. refl) (λ i k. rw (soft i k))

  pub alone_all : (ys : List Float) (all : Float) → SoftSums c xs (length xs) ys all → Soft all ≡ part_sum (Soft c) (message_at ts xs) (length ts) (length ts)
  alone_all ys all S = (rw (← same) at S.sum) ∙ same_sum (length ts)

  pub alone_holding : (ys : List Float) (all : Float) → SoftSums c xs (length xs) ys all → Holding (length ts) (part_sum (Soft c) (message_at ts xs) (length ts)) ts ys
  alone_holding ys all S =
      let at : (t : ℕ) → t < length ts → Soft (get_or ys t nan) ≡ part_sum (Soft c) (message_at ts xs) (length ts) t = λ t k. (rw (← same) at (S.new t (omega arith))) ∙ same_sum t in
      record {
        tags = refl;
        values = S.size ∙ sym same;
        tag = λ t k. soft t k ∙ ap byte_for (at t k);
        value = λ t k. ap float_for (at t k);
      }
