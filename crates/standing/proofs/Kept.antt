-- Messages that are the same, and those kept of the round before. Assumes nothing.
use mathlib.Core.Path.{◌≡◌, refl, sym, ap, ◌∙◌}
use mathlib.Core.Bool.{true, not, false≢true, and-eq-true_iff}
use mathlib.Core.List.{List}
use Prim.Native.Nat.{ℕ, ◌+◌, ◌<◌, ◌≤◌}
use native.Mathlib.Decide.{ℕ_discrete}
use native.Mathlib.Omega.{arith}
use lib.Dec.{T, eqb}
use borrow.Author.Tests.{eqb-true}
use lib.ListN.{get_or}
use lib.Ieee.{Float, nan, inf, fin, binary32, fits, is_nan, eq, of_bits, to_bits}
use lib.Ieee.Bits.{of_bits-to_bits}
use Rattle.parity.specs.Finite.{all}
use Rattle.parity.specs.Soft.{message_at}
use Rattle.parity.proofs.Finite.Sums.{all_at}
use Rattle.standing.specs.Standing.{same_number, same_message, Twice, Kept}
use Rattle.messages.specs.Memory.{Written}

-- ---- floats
-- those that equal one are numbers
pub equal_left : (x y : Float) → eq x y ≡ true → T (not (is_nan x))
unfolding eq is_nan
equal_left nan y e = absurd (false≢true e)
equal_left (inf s) y e = tt
equal_left (fin s m d) y e = tt

pub equal_right : (x y : Float) → eq x y ≡ true → T (not (is_nan y))
unfolding eq is_nan
equal_right nan y e = absurd (false≢true e)
equal_right (inf s) nan e = absurd (false≢true e)
equal_right (inf s) (inf t) e = tt
equal_right (inf s) (fin t n k) e = tt
equal_right (fin s m d) nan e = absurd (false≢true e)
equal_right (fin s m d) (inf t) e = tt
equal_right (fin s m d) (fin t n k) e = tt

pub same_bits : (x y : Float) → T (fits binary32 x) → T (fits binary32 y) → to_bits binary32 x ≡ to_bits binary32 y → x ≡ y
same_bits x y p q e = sym (of_bits-to_bits binary32 x p) ∙ ap (of_bits binary32) e ∙ of_bits-to_bits binary32 y q

-- ---- messages
-- what the comparison finds
module _ (w : ℕ) (ts : List ℕ) (xs : List Float) where
  pub twice_same : ((j : ℕ) → j < w → get_or ts j 0 ≡ get_or ts (w + j) 0) → ((j : ℕ) → j < w → get_or xs j nan ≡ get_or xs (w + j) nan) → Twice w w ts xs
  unfolding message_at
  twice_same e f = record { at = λ q j k. rw (e j k, f j k) }

  pub twice_all : ((i : ℕ) → T (fits binary32 (get_or xs i nan))) → all w (λ i. same_message ts xs i (w + i)) ≡ true → Twice w w ts xs
  twice_all f e =
      let both : (j : ℕ) → j < w → (eqb (get_or ts j 0) (get_or ts (w + j) 0) ≡ true) × (same_number (get_or xs j nan) (get_or xs (w + j) nan) ≡ true) = λ j k. (and-eq-true_iff (eqb (get_or ts j 0) (get_or ts (w + j) 0)) _).0 (all_at w (λ i. same_message ts xs i (w + i)) e j k) in
      twice_same (λ j k. eqb-true _ _ (both j k).0) (λ j k. same_bits _ _ (f j) (f (w + j)) (eqb-true _ _ ((and-eq-true_iff (eq (get_or xs j nan) (get_or xs (w + j) nan)) _).0 (both j k).1).1))

module _ (w : ℕ) (ts : List ℕ) (xs : List Float) where
  pub kept_none : Kept w 0 ts xs ts xs
  kept_none = record { tags = refl; values = refl; same = λ j k. refl; copy = λ q j k. absurd (omega arith) }

  -- without room
  pub kept_not : (w + w ≤ 65024 → ⊥) → Kept w w ts xs ts xs
  kept_not n = record { tags = refl; values = refl; same = λ j k. refl; copy = λ q. absurd (n q) }

  -- what stands need not be kept anew
  pub kept_twice : Twice w w ts xs → Kept w w ts xs ts xs
  kept_twice A = record { tags = refl; values = refl; same = λ j k. refl; copy = λ q j k. sym (A.at q j k) }

  module _ (i : ℕ) (us : List ℕ) (ys : List Float) (K : Kept w i ts xs us ys) where
    pub kept_more : i < w → (vs : List ℕ) (zs : List Float) → Written (w + i) (message_at us ys i) us ys vs zs → Kept w (i + 1) ts xs vs zs
    kept_more k vs zs W = record {
      tags = W.tags ∙ K.tags;
      values = W.values ∙ K.values;
      same = λ j n. W.other j (λ z. omega arith) ∙ K.same j n;
      copy = λ q j n. elim (ℕ_discrete j i) [
        | yes z ↦ rw z (W.here ∙ K.same i k)
        | no z ↦ W.other (w + j) (λ e. omega arith) ∙ K.copy q j (omega arith)
      ];
    }

    pub kept_all : i ≡ w → Kept w w ts xs us ys
    kept_all e = rw e at K

  -- what is kept stands twice
  pub twice_kept : (us : List ℕ) (ys : List Float) → Kept w w ts xs us ys → Twice w w us ys
  twice_kept us ys K = record { at = λ q j k. K.same j k ∙ sym (K.copy q j k) }
