-- The ends that the call gives are the range of the min-sum answer, and the only ones. Assumes nothing.
use mathlib.Core.Path.{◌≡◌, refl, sym, ap, ◌∙◌}
use mathlib.Core.Bool.{true, false, not, cond, and-eq-true_iff, false≢true}
use mathlib.Core.List.{List, [], ◌∷◌}
use Prim.Native.Nat.{ℕ, ◌-◌, ◌<◌, ◌≤◌}
use native.Mathlib.Omega.{arith}
use lib.Dec.{eqb, leb}
use lib.ListN.{get_or, length}
use borrow.Author.Tests.{eqb-true, eqb-false, not-false}
use lib.Ieee.{Float, nan, inf, fin, binary32, fits, le, eq}
use Rattle.parity.specs.Finite.{any}
use Rattle.parity.specs.Causes.{Reply, answer}
use Rattle.parity.specs.Floats.{finite, magnitude, limit, plus_zero}
use Rattle.parity.specs.SoftRange.{range_to, wrong_sizes, unfit, crossed, min_sum_range_reply, RangeOutcome, min_sum_range_outcome}
use Rattle.parity.specs.SoftRangePromises.{Reached, IsRange, Gives, RangeGiven, RangeOnly, sends_for}
use Rattle.parity.specs.declared.Channel.TheVariants.{Soft}
use Rattle.parity.proofs.Finite.Bools.{or_false_both}
use Rattle.parity.proofs.Finite.Sums.{is_true, is_false, is}
use Rattle.parity.proofs.Finite.Firsts.{none_at}
use Rattle.parity.proofs.Soft.Forms.{soft_same}
use Rattle.parity.proofs.SoftRange.Keys.{key, le_lt, same_key}
use Rattle.parity.proofs.SoftRange.Pairs.{Real, eq_keys}
use Rattle.parity.proofs.SoftRange.Law.{Proper, key_le, range_law, range_zeros, range_real, choice_answered}

-- ---- what an answer says of the lists
fit_finite : (xs : List Float) (i : ℕ) → unfit xs i ≡ false → finite (get_or xs i nan) ≡ true
unfolding unfit
fit_finite xs i e = ((and-eq-true_iff (finite (get_or xs i nan)) (le (magnitude (get_or xs i nan)) limit)).0 (not-false _ e)).0

in_order : (lows highs : List Float) (i : ℕ) → finite (get_or lows i nan) ≡ true → finite (get_or highs i nan) ≡ true → crossed lows highs i ≡ false
    → le (get_or lows i nan) (get_or highs i nan) ≡ true
unfolding crossed
in_order lows highs i a b e = le_lt (get_or lows i nan) (get_or highs i nan) a b ∙ ap not e

pub record Facts (lows highs : List Float) : Type 0 where
  pub size : length lows ≡ length highs
  pub no_low : any (length lows) (unfit lows) ≡ false
  pub no_high : any (length lows) (unfit highs) ≡ false
  pub no_cross : any (length lows) (crossed lows highs) ≡ false

pub low_finite_lem : (lows highs : List Float) → any (length lows) (unfit lows) ≡ false → (i : ℕ) → i < length lows → finite (get_or lows i nan) ≡ true
low_finite_lem lows highs e i k = fit_finite lows i (none_at (length lows) (unfit lows) e i k)

pub high_finite_lem : (lows highs : List Float) → any (length lows) (unfit highs) ≡ false → (i : ℕ) → i < length lows → finite (get_or highs i nan) ≡ true
high_finite_lem lows highs e i k = fit_finite highs i (none_at (length lows) (unfit highs) e i k)

pub proper : (lows highs : List Float) → ((i : ℕ) → fits binary32 (get_or lows i nan) ≡ true) → ((i : ℕ) → fits binary32 (get_or highs i nan) ≡ true)
    → Facts lows highs → 0 < length lows → Proper lows highs
proper lows highs fl fh F s = record {
  some = s;
  low_finite = low_finite_lem lows highs F.no_low;
  high_finite = high_finite_lem lows highs F.no_high;
  low_fits = λ i k. fl i;
  high_fits = λ i k. fh i;
  order = λ i k. in_order lows highs i (low_finite_lem lows highs F.no_low i k) (high_finite_lem lows highs F.no_high i k) (none_at (length lows) (crossed lows highs) F.no_cross i k);
}

same_size : (lows highs : List Float) → wrong_sizes lows highs ≡ false → length lows ≡ length highs
same_size lows highs e =
    let (a, b) = or_false_both (not (eqb (length lows) (length highs))) (not (leb (length lows) 511)) e in
    eqb-true (length lows) (length highs) (not-false _ a)

pub facts : (lows highs : List Float) → (min_sum_range_reply lows highs).number ≡ 0
    → Facts lows highs × (min_sum_range_reply lows highs ≡ answer (cond (eqb (length lows) 0) 0 3 ∷ []))
unfolding min_sum_range_reply
facts lows highs e =
    let n = length lows in
    elim (is (wrong_sizes lows highs)) [
      | is_true a ↦ let z : ◌≡◌ {A = ℕ} 10 0 = rw a at e in absurd (omega (arith, z))
      | is_false a ↦ elim (is (any n (unfit lows))) [
        | is_true b ↦ let z : ◌≡◌ {A = ℕ} 23 0 = rw (a, b) at e in absurd (omega (arith, z))
        | is_false b ↦ elim (is (any n (unfit highs))) [
          | is_true c ↦ let z : ◌≡◌ {A = ℕ} 23 0 = rw (a, b, c) at e in absurd (omega (arith, z))
          | is_false c ↦ elim (is (any n (crossed lows highs))) [
            | is_true d ↦ let z : ◌≡◌ {A = ℕ} 24 0 = rw (a, b, c, d) at e in absurd (omega (arith, z))
            | is_false d ↦ (record { size = same_size lows highs a; no_low = b; no_high = c; no_cross = d }, rw (a, b, c, d))
          ]
        ]
      ]
    ]

three_some : (n : ℕ) → ◌≡◌ {A = List ℕ} (cond (eqb n 0) 0 3 ∷ []) (3 ∷ []) → eqb n 0 ≡ false
three_some n e = elim (is (eqb n 0)) [
  | is_false q ↦ q
  | is_true q ↦ let z : ◌≡◌ {A = ℕ} 0 3 = ap (λ (xs : List ℕ). get_or xs 0 0) (rw q at e) in absurd (omega (arith, z))
]

eq_finite : (x y : Float) → finite x ≡ true → eq x y ≡ true → finite y ≡ true
unfolding eq
eq_finite nan y a e = absurd (false≢true a)
eq_finite (inf s) y a e = absurd (false≢true a)
eq_finite (fin s m k) nan a e = absurd (false≢true e)
eq_finite (fin s m k) (inf t) a e = absurd (false≢true e)
eq_finite (fin s m k) (fin t n d) a e = refl

same_end : {x y : Float} → Real x → Real y → key x ≤ key y → key y ≤ key x → plus_zero x ≡ x → plus_zero y ≡ y → x ≡ y
same_end {x} {y} R S k l p q = sym p ∙ same_key x y R.finite' S.finite' R.fits' S.fits' (omega arith) ∙ q

-- ---- the range that is given
module _ (lows highs : List Float) (low high : Float) (G : Gives lows highs low high) where
  reply_is : min_sum_range_reply lows highs ≡ answer (3 ∷ [])
  reply_is = unfold min_sum_range_outcome in ap (λ (o : RangeOutcome). o.reply) G.outcome

  told : Facts lows highs × (min_sum_range_reply lows highs ≡ answer (cond (eqb (length lows) 0) 0 3 ∷ []))
  told = facts lows highs (ap (λ (r : Reply). r.number) reply_is)

  some_values : eqb (length lows) 0 ≡ false
  some_values = three_some (length lows) (ap (λ (r : Reply). r.values) (sym told.1 ∙ reply_is))

  P : Proper lows highs
  P = proper lows highs G.low_floats G.high_floats told.0 (omega (arith, eqb-false (length lows) 0 some_values))

  ends_are : (range_to lows highs (length lows - 1)).low ∷ (range_to lows highs (length lows - 1)).high ∷ [] ≡ low ∷ high ∷ []
  unfolding min_sum_range_outcome
  ends_are = rw (reply_is, some_values) at (ap (λ (o : RangeOutcome). o.ends) G.outcome)

  low_is : (range_to lows highs (length lows - 1)).low ≡ low
  low_is = ap (λ (xs : List Float). get_or xs 0 nan) ends_are

  high_is : (range_to lows highs (length lows - 1)).high ≡ high
  high_is = ap (λ (xs : List Float). get_or xs 1 nan) ends_are

  is_range : IsRange lows highs low high
  is_range = rw (low_is, high_is) at (range_law lows highs P)

  zeros : (plus_zero low ≡ low) × (plus_zero high ≡ high)
  zeros = rw (low_is, high_is) at (range_zeros lows highs P)

  -- ---- no other range
  real_low : Real low
  real_low = rw low_is at (range_real lows highs P (length lows - 1) (omega (arith, P.some))).0

  real_high : Real high
  real_high = rw high_is at (range_real lows highs P (length lows - 1) (omega (arith, P.some))).1

  -- what a choice answers, and the value that it reaches
  value_real : {y : Float} (R : Reached lows highs y) (x : Float) → sends_for (length lows) R.chosen ≡ Soft x → Real x
  value_real R x e =
      let A = choice_answered lows highs P R.chosen R.choice in
      let q : x ≡ A.value = soft_same (sym A.is ∙ e) in
      rw q A.real

  value_key : {y : Float} (R : Reached lows highs y) → Real y → (x : Float) → sends_for (length lows) R.chosen ≡ Soft x → key x ≡ key y
  value_key {y} R S x e =
      let q : x ≡ R.value = soft_same (sym R.sends ∙ e) in
      ap (λ (z : Float). key z) q ∙ eqb-true (key R.value) (key y) (sym (eq_keys (value_real R R.value R.sends) S) ∙ R.same)

  reached_real : {y : Float} → Reached lows highs y → fits binary32 y ≡ true → Real y
  reached_real {y} R f = record { finite' = eq_finite R.value y (value_real R R.value R.sends).finite' R.same; fits' = f }

  within_keys : (l h : Float) → IsRange lows highs l h → Real l → Real h → {y : Float} → Reached lows highs y → Real y → (key l ≤ key y) × (key y ≤ key h)
  within_keys l h I L H {y} R S =
      let B = I.within R.chosen R.choice in
      let X = value_real R B.value B.is_soft_lem in
      let q = value_key R S B.value B.is_soft_lem in
      (rw q at (key_le L X B.above), rw q at (key_le X H B.below))

  only : (l h : Float) → fits binary32 l ≡ true → fits binary32 h ≡ true → IsRange lows highs l h → plus_zero l ≡ l → plus_zero h ≡ h → (l ≡ low) × (h ≡ high)
  only l h fl fh I zl zh =
      let L = reached_real I.lowest fl in
      let H = reached_real I.highest fh in (
        same_end L real_low (within_keys l h I L H is_range.lowest real_low).0 (within_keys low high is_range real_low real_high I.lowest L).0 zl zeros.0,
        same_end H real_high (within_keys low high is_range real_low real_high I.highest H).1 (within_keys l h I L H is_range.highest real_high).1 zh zeros.1,
      )

pub range_given : RangeGiven
range_given lows highs low high G = (is_range lows highs low high G, (zeros lows highs low high G).0, (zeros lows highs low high G).1)

pub range_only : RangeOnly
range_only lows highs low high G l h fl fh I zl zh = only lows highs low high G l h fl fh I zl zh
