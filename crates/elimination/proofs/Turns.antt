-- The turn of the elimination at bit b: what it makes of the reduced matrix. Assumes nothing.
use mathlib.Core.Path.{◌≡◌, refl, sym, ◌∙◌}
use mathlib.Core.Bool.{Bool, true, false, true≢false}
use mathlib.Core.List.{List}
use Prim.Native.Nat.{ℕ, ◌+◌, ◌≤◌, ◌<◌}
use native.Mathlib.Omega.{arith}
use native.Mathlib.Decide.{ℕ_discrete, dec_lt}
use lib.ListN.{get_or, length, set}
use lib.Seq.{get_or-set_same, get_or-set_other}
use Rattle.parity.specs.Matrix.{Matrix}
use Rattle.elimination.specs.Reduction.{Reduced, Reduction}
use Rattle.elimination.proofs.Clearing.{same_trans, same_below, Pivoted}

-- The turn at bit b. `to` has the pivots with b put at r.
module _ (g : Matrix) (m : ℕ) (e : ℕ → Bool) (b r : ℕ) (at : ℕ → ℕ) (R : Reduced g m e b r at) where
  -- it is not to be reduced, or no check from r on contains it
  pub turn_none : ((c : ℕ) → r ≤ c → c < m → e b ≡ true → g c b ≡ false) → Reduced g m e (b + 1) r at
  turn_none f = record {
    few = R.few;
    low = λ c k. omega (arith, R.low c k);
    among = R.among;
    rise = R.rise;
    own = R.own;
    alone = R.alone;
    first = R.first;
    rest = λ c j k l i t. elim (ℕ_discrete j b) [ yes q ↦ rw q (f c k l (rw q at t)) | no d ↦ R.rest c j k l (omega arith) t ];
  }

  -- it is the pivot of check r now
  pub turn_pivot : (k : Matrix) (p : ℕ) (to : ℕ → ℕ) → e b ≡ true → r ≤ p → p < m → Pivoted g k m p r b
      → to r ≡ b → ((c : ℕ) → (c ≡ r → ⊥) → to c ≡ at c) → Reduced k m e (b + 1) (r + 1) to
  turn_pivot k p to t rp pm P here else = record {
    few = omega arith;
    low = λ c l. elim (ℕ_discrete c r) [ yes q ↦ rw (q, here) (omega arith) | no d ↦ rw (else c d) (omega (arith, R.low c (omega arith))) ];
    among = λ c l. elim (ℕ_discrete c r) [ yes q ↦ rw (q, here) t | no d ↦ rw (else c d) (R.among c (omega arith)) ];
    rise = λ c d l i. elim (ℕ_discrete d r) [
      | yes q ↦ rw (q, here, else c (λ z. omega arith)) (R.low c (omega arith))
      | no z ↦ rw (else c (λ z. omega arith), else d z) (R.rise c d l (omega arith))
    ];
    own = λ c l. elim (ℕ_discrete c r) [ yes q ↦ rw (q, here) P.own | no d ↦ rw (else c d) (old c (at c) (R.low c (omega arith)) (R.among c (omega arith)) ∙ R.own c (omega arith)) ];
    alone = λ c d l i z. elim (ℕ_discrete c r) [
      | yes q ↦ rw (q, here) (P.alone d i (λ w. z (w ∙ sym q)))
      | no w ↦ rw (else c w) (old d (at c) (R.low c (omega arith)) (R.among c (omega arith)) ∙ R.alone c d (omega arith) i z)
    ];
    first = λ c j l i y. elim (ℕ_discrete c r) [
      | yes q ↦ let i' : j < b = rw (q, here) at i in rw q (old r j i' y ∙ R.rest r j (omega arith) (omega arith) i' y)
      | no d ↦ let i' : j < at c = rw (else c d) at i in
          old c j (omega (arith, R.low c (omega arith))) y ∙ R.first c j (omega arith) i' y
    ];
    rest = λ c j l i u y. elim (ℕ_discrete j b) [
      | yes q ↦ rw q (P.alone c i (λ z. omega arith))
      | no d ↦ old c j (omega arith) y ∙ R.rest c j (omega arith) i (omega arith) y
    ];
  }
    where
      -- the columns that are reduced already stay as they are
      old : (c j : ℕ) → j < b → e j ≡ true → k c j ≡ g c j
      old c j l y = P.keep c j (R.rest p j rp pm l y) (R.rest r j (omega arith) (omega arith) l y)

pub turn_start : (g : Matrix) (m : ℕ) (e : ℕ → Bool) (at : ℕ → ℕ) → Reduced g m e 0 0 at
turn_start g m e at = record {
  few = omega arith;
  low = λ c k. absurd (omega arith);
  among = λ c k. absurd (omega arith);
  rise = λ c d l k. absurd (omega arith);
  own = λ c k. absurd (omega arith);
  alone = λ c d k. absurd (omega arith);
  first = λ c j k. absurd (omega arith);
  rest = λ c j k l i. absurd (omega arith);
}

module _ (g : Matrix) (m b r : ℕ) (at : List ℕ) (h : Matrix) (n : ℕ) (e : ℕ → Bool) (t : e b ≡ true) (R : Reduction h g n m e b r at) where
  -- no check from r on contains bit b
  pub reduction_none : ((c : ℕ) → r ≤ c → c < m → g c b ≡ false) → Reduction h g n m e (b + 1) r at
  reduction_none f = record { same = R.same; form = turn_none g m e b r _ R.form (λ c k l q. f c k l) }

  -- bit b is the pivot of check r now
  pub reduction_pivot : (k : Matrix) (p : ℕ) → r ≤ p → p < m → r < length at → Pivoted g k m p r b → Reduction h k n m e (b + 1) (r + 1) (set at r b)
  reduction_pivot k p rp pm fit P = record {
    same = same_trans h g k n m R.same (P.same n);
    form = turn_pivot g m e b r _ R.form k p _ t rp pm P (get_or-set_same at r b 0 fit) (λ c d. get_or-set_other at r c b 0 d);
  }

-- the bits from b up to d are not to be reduced
pub reduction_over : (h g : Matrix) (n m : ℕ) (e : ℕ → Bool) (b d r : ℕ) (at : List ℕ) → b ≤ d → ((j : ℕ) → b ≤ j → j < d → e j ≡ false)
    → Reduction h g n m e b r at → Reduction h g n m e d r at
reduction_over h g n m e b d r at l f R = record {
  same = R.same;
  form = record {
    few = R.form.few;
    low = λ c k. omega (arith, R.form.low c k);
    among = R.form.among;
    rise = R.form.rise;
    own = R.form.own;
    alone = R.form.alone;
    first = R.form.first;
    rest = λ c j k i q t. elim (dec_lt j b) [ yes s ↦ R.form.rest c j k i s t | no s ↦ absurd (true≢false (sym t ∙ f j (omega arith) q)) ];
  };
}

pub reduction_start : (h : Matrix) (n m : ℕ) (e : ℕ → Bool) (at : List ℕ) → Reduction h h n m e 0 0 at
reduction_start h n m e at = record { same = λ x. refl; form = turn_start h m e _ }

-- the set to reduce in counts by its bits below b
pub reduced_in : (g : Matrix) (m : ℕ) (e f : ℕ → Bool) (b r : ℕ) (at : ℕ → ℕ) → ((j : ℕ) → j < b → e j ≡ f j) → Reduced g m e b r at → Reduced g m f b r at
reduced_in g m e f b r at s R = record {
  few = R.few;
  low = R.low;
  among = λ c k. sym (s (at c) (R.low c k)) ∙ R.among c k;
  rise = R.rise;
  own = R.own;
  alone = R.alone;
  first = λ c j k l q. R.first c j k l (s j (omega (arith, R.low c k)) ∙ q);
  rest = λ c j k l i q. R.rest c j k l i (s j i ∙ q);
}

-- where it has no bit from b on, the rows are reduced in b bits, and have the same codewords in them
pub reduction_below : (h g : Matrix) (n m : ℕ) (e : ℕ → Bool) (b r : ℕ) (at : List ℕ) → b ≤ n → ((j : ℕ) → b ≤ j → e j ≡ false)
    → Reduction h g n m e n r at → Reduction h g b m e b r at
reduction_below h g n m e b r at l f R = record {
  same = same_below h g n b m l R.same;
  form = record {
    few = R.form.few;
    low = λ c k. elim (dec_lt (get_or at c 0) b) [ yes q ↦ q | no q ↦ absurd (true≢false (sym (R.form.among c k) ∙ f (get_or at c 0) (omega arith))) ];
    among = R.form.among;
    rise = R.form.rise;
    own = R.form.own;
    alone = R.form.alone;
    first = R.form.first;
    rest = λ c j k i q t. R.form.rest c j k i (omega arith) t;
  };
}
