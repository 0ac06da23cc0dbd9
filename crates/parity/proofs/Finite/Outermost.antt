-- The smallest and the largest number that pass a test. Assumes nothing.
use mathlib.Core.Path.{◌≡◌, refl, sym, ◌∙◌}
use mathlib.Core.Bool.{Bool, true, false, true≢false, false≢true}
use mathlib.Core.List.{List, [], ◌∷◌}
use Prim.Native.Nat.{ℕ, zero, suc, ◌<◌, ◌≤◌}
use native.Mathlib.Nat.{not-suc-le-zero}
use native.Mathlib.Omega.{arith}
use native.Mathlib.Decide.{ℕ_discrete}
use Rattle.parity.specs.Finite.{any, least, greatest, outermost}
use Rattle.parity.specs.CyclesPromises.{Names}
use Rattle.parity.proofs.Finite.Sums.{is_true, is_false, is, any_of, any_at}
use Rattle.parity.proofs.Finite.Firsts.{least_at, least_min, any_none, least_is}

-- the largest
pub greatest_at : (n : ℕ) (p : ℕ → Bool) → any n p ≡ true → (greatest n p < n) × (p (greatest n p) ≡ true)
unfolding any greatest
greatest_at zero p e = absurd (false≢true e)
greatest_at (suc n) p e =
    elim (is (p n)) [
      | is_true q ↦ rw q (omega arith, q)
      | is_false q ↦ let (i, k, r) = any_at (suc n) p e in
          let d : i ≡ n → ⊥ = λ t. true≢false (sym r ∙ rw t q) in
          let (l, s) = greatest_at n p (any_of n p i (omega arith) r) in rw q (omega arith, s)
    ]

pub greatest_max : (n : ℕ) (p : ℕ → Bool) (i : ℕ) → i < n → p i ≡ true → i ≤ greatest n p
unfolding greatest
greatest_max zero p i k e = absurd (not-suc-le-zero k)
greatest_max (suc n) p i k e =
    elim (is (p n)) [
      | is_true q ↦ rw q (omega arith)
      | is_false q ↦ let d : i ≡ n → ⊥ = λ t. true≢false (sym e ∙ rw t q) in rw q (greatest_max n p i (omega arith) e)
    ]

pub greatest_is : (n : ℕ) (p : ℕ → Bool) (i : ℕ) → i < n → p i ≡ true → ((j : ℕ) → i < j → j < n → p j ≡ false) → greatest n p ≡ i
greatest_is n p i k e h =
    let (l, r) = greatest_at n p (any_of n p i k e) in
    let m = greatest_max n p i k e in
    elim (ℕ_discrete (greatest n p) i) [
      | yes q ↦ q
      | no d ↦ absurd (true≢false (sym r ∙ h (greatest n p) (omega arith) l))
    ]

pub greatest_none : (n : ℕ) (p : ℕ → Bool) → any n p ≡ false → greatest n p ≡ 0
unfolding any greatest
greatest_none zero p e = refl
greatest_none (suc n) p e =
    elim (is (p n)) [
      | is_true q ↦ absurd (true≢false (sym (any_of (suc n) p n (omega arith) q) ∙ e))
      | is_false q ↦ rw q (greatest_none n p (elim (is (any n p)) [ is_false r ↦ r | is_true r ↦ absurd (true≢false (rw r at e)) ]))
    ]

-- none passes
pub outermost_none : (n : ℕ) (p : ℕ → Bool) → any n p ≡ false → outermost n p ≡ []
unfolding outermost
outermost_none n p e = rw e

-- one passes: both are carried,
pub outermost_both : (n : ℕ) (p : ℕ → Bool) → any n p ≡ true → outermost n p ≡ least n p ∷ greatest n p ∷ []
unfolding outermost
outermost_both n p e = rw e

-- pass, and none below or above does,
pub outermost_names : (n : ℕ) (p : ℕ → Bool) → any n p ≡ true → Names n p (outermost n p)
outermost_names n p e =
    let a = least_at n p e in
    record {
      lowest = least n p;
      highest = greatest n p;
      both = outermost_both n p e;
      lowest_in = a;
      highest_in = greatest_at n p e;
      none_below = λ c l. elim (is (p c)) [ is_false q ↦ q | is_true q ↦ absurd (omega (arith, a.0, least_min n p c (omega (arith, a.0)) q)) ];
      none_above = λ c l k. elim (is (p c)) [ is_false q ↦ q | is_true q ↦ absurd (omega (arith, greatest_max n p c k q)) ];
    }

-- and no others do so.
pub names_only : (n : ℕ) (p : ℕ → Bool) (held : List ℕ) → Names n p held → outermost n p ≡ held
names_only n p held N =
    outermost_both n p (any_of n p N.lowest N.lowest_in.0 N.lowest_in.1)
    ∙ rw (
      least_is n p N.lowest N.lowest_in.0 N.lowest_in.1 N.none_below,
      greatest_is n p N.highest N.highest_in.0 N.highest_in.1 N.none_above,
    ) (sym N.both)

-- Two tests that the same numbers pass.
module _ (n : ℕ) (p : ℕ → Bool) (m : ℕ) (q : ℕ → Bool) (there : (c : ℕ) → c < n → p c ≡ true → (c < m) × (q c ≡ true))
    (back : (c : ℕ) → c < m → q c ≡ true → (c < n) × (p c ≡ true)) where
  pub names_same : (held : List ℕ) → Names n p held → Names m q held
  names_same held N =
      let a = there N.lowest N.lowest_in.0 N.lowest_in.1 in record {
        lowest = N.lowest;
        highest = N.highest;
        both = N.both;
        lowest_in = a;
        highest_in = there N.highest N.highest_in.0 N.highest_in.1;
        none_below = λ c l. elim (is (q c)) [ is_false r ↦ r | is_true r ↦ absurd (true≢false (sym (back c (omega (arith, a.0)) r).1 ∙ N.none_below c l)) ];
        none_above = λ c l k. elim (is (q c)) [ is_false r ↦ r | is_true r ↦ let (x, y) = back c k r in absurd (true≢false (sym y ∙ N.none_above c l x)) ];
      }

  pub outermost_same : outermost n p ≡ outermost m q
  outermost_same =
      elim (is (any n p)) [
        | is_true e ↦ sym (names_only m q (outermost n p) (names_same (outermost n p) (outermost_names n p e)))
        | is_false e ↦ outermost_none n p e ∙ sym (outermost_none m q (any_none m q (λ c l. elim (is (q c)) [
          | is_false r ↦ r
          | is_true r ↦ let (x, y) = back c l r in absurd (true≢false (sym (any_of n p c x y) ∙ e))
        ])))
      ]
