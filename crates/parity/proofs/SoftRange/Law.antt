-- The ranges combined pairwise hold every choice's answer, and their ends are reached. Assumes nothing.
use mathlib.Core.Path.{◌≡◌, refl, sym, ◌∙◌}
use mathlib.Core.Bool.{Bool, true, false, cond, false≢true}
use mathlib.Core.List.{List}
use Prim.Native.Nat.{ℕ, zero, suc, ◌+◌, ◌-◌, ◌<◌, ◌≤◌, min, max}
use native.Mathlib.Decide.{ℕ_discrete}
use native.Mathlib.Omega.{arith}
use lib.Dec.{eqb, ltb}
use lib.ListN.{get_or, length}
use borrow.Author.Tests.{eq-eqb, ne_eqb, ltb-false, le-ltb, not-true}
use lib.Ieee.{Float, nan, inf, fin, binary32, lt, eq, le, fits}
use Rattle.parity.specs.Floats.{plus_zero, lesser, finite}
use Rattle.parity.specs.SoftRange.{sends_for_two, greater, ends_at, plus_zeros, combined, range_to}
use Rattle.parity.specs.SoftRangePromises.{Choice, Reached, IsRange}
use Rattle.parity.specs.declared.Ends.{Ends}
use Rattle.parity.proofs.SoftRange.Keys.{bound, key, le_key}
use Rattle.parity.proofs.SoftRange.Clip.{clip, corners}
use Rattle.parity.proofs.SoftRange.Pairs.{Real, key_top, key_zero, real_zero, zero_twice, real_lesser, key_lesser, real_greater, key_greater, real_pair, key_pair, eq_keys}
use Rattle.parity.proofs.SoftRange.Folded.{folded, folded_suc, folded_cong, folded_one, Answered, answered}

-- between two numbers lies a number
finite_between : (a x b : Float) → finite a ≡ true → finite b ≡ true → le a x ≡ true → le x b ≡ true → finite x ≡ true
unfolding le lt eq
finite_between nan x b p q r s = absurd (false≢true p)
finite_between (inf t) x b p q r s = absurd (false≢true p)
finite_between (fin t m e) nan b p q r s = absurd (false≢true r)
finite_between (fin t m e) (inf u) nan p q r s = absurd (false≢true q)
finite_between (fin t m e) (inf u) (inf v) p q r s = absurd (false≢true q)
finite_between (fin t m e) (inf true) (fin v k d) p q r s = absurd (false≢true r)
finite_between (fin t m e) (inf false) (fin v k d) p q r s = absurd (false≢true s)
finite_between (fin t m e) (fin u n d) b p q r s = refl

pub key_le : {x y : Float} → Real x → Real y → le x y ≡ true → key x ≤ key y
key_le {x} {y} R S e = ltb-false (key y) (key x) (not-true (ltb (key y) (key x)) (sym (le_key x y R.finite' S.finite' R.fits' S.fits') ∙ e))

pub le_of_key : {x y : Float} → Real x → Real y → key x ≤ key y → le x y ≡ true
le_of_key {x} {y} R S k = le_key x y R.finite' S.finite' R.fits' S.fits' ∙ (rw (le-ltb (key y) (key x) k))

-- lows and highs that are numbers, no low above its high
pub record Proper (lows highs : List Float) : Type 0 where
  pub some : 0 < length lows
  pub low_finite : (i : ℕ) → i < length lows → finite (get_or lows i nan) ≡ true
  pub high_finite : (i : ℕ) → i < length lows → finite (get_or highs i nan) ≡ true
  pub low_fits : (i : ℕ) → i < length lows → fits binary32 (get_or lows i nan) ≡ true
  pub high_fits : (i : ℕ) → i < length lows → fits binary32 (get_or highs i nan) ≡ true
  pub order : (i : ℕ) → i < length lows → le (get_or lows i nan) (get_or highs i nan) ≡ true

pub range_suc : (lows highs : List Float) (i : ℕ) → range_to lows highs (suc i) ≡ combined (range_to lows highs i) (ends_at lows highs (suc i))
unfolding range_to
range_suc lows highs i = refl

pub range_first : (lows highs : List Float) → range_to lows highs 0 ≡ plus_zeros (ends_at lows highs 0)
unfolding range_to
range_first lows highs = refl

module _ (lows highs : List Float) (P : Proper lows highs) where
  abbrev low : ℕ → Float
  low i = get_or lows i nan

  abbrev high : ℕ → Float
  high i = get_or highs i nan

  abbrev n : ℕ
  n = length lows

  low_real : (i : ℕ) → i < n → Real (low i)
  low_real i k = record { finite' = P.low_finite i k; fits' = P.low_fits i k }

  high_real : (i : ℕ) → i < n → Real (high i)
  high_real i k = record { finite' = P.high_finite i k; fits' = P.high_fits i k }

  -- a choice, by keys
  record Picked (g : ℕ → Float) : Type 0 where
    real : (i : ℕ) → i < n → Real (g i)
    above : (i : ℕ) → i < n → key (low i) ≤ key (g i)
    below : (i : ℕ) → i < n → key (g i) ≤ key (high i)

  picked : (g : ℕ → Float) → Choice lows highs g → Picked g
  picked g C =
      let R : (i : ℕ) → i < n → Real (g i) = λ i k. record {
        finite' = finite_between (low i) (g i) (high i) (P.low_finite i k) (P.high_finite i k) (C.above i k) (C.below i k);
        fits' = C.float i k;
      } in
      record { real = R; above = λ i k. key_le (low_real i k) (R i k) (C.above i k); below = λ i k. key_le (R i k) (high_real i k) (C.below i k) }

  chosen : (g : ℕ → Float) → Picked g → Choice lows highs g
  chosen g C = record {
    float = λ i k. (C.real i k).fits';
    above = λ i k. le_of_key (low_real i k) (C.real i k) (C.above i k);
    below = λ i k. le_of_key (C.real i k) (high_real i k) (C.below i k);
  }

  order : (i : ℕ) → i < n → key (low i) ≤ key (high i)
  order i k = key_le (low_real i k) (high_real i k) (P.order i k)

  picked_low : Picked low
  picked_low = record { real = low_real; above = λ i k. omega arith; below = order }

  picked_high : Picked high
  picked_high = record { real = high_real; above = order; below = λ i k. omega arith }

  -- another value at place j
  abbrev with_at : (ℕ → Float) → ℕ → Float → ℕ → Float
  with_at g j x i = cond (eqb i j) x (g i)

  picked_at : (g : ℕ → Float) (j : ℕ) (x : Float) → Picked g → (j < n → Real x × (key (low j) ≤ key x) × (key x ≤ key (high j))) → Picked (with_at g j x)
  picked_at g j x C h = record {
    real = λ i k. elim (ℕ_discrete i j) [ yes z ↦ rw (eq-eqb i j z) (h (rw z at k)).0 | no z ↦ rw (ne_eqb i j z) (C.real i k) ];
    above = λ i k. elim (ℕ_discrete i j) [ yes z ↦ rw (eq-eqb i j z, z) (h (rw z at k)).1 | no z ↦ rw (ne_eqb i j z) (C.above i k) ];
    below = λ i k. elim (ℕ_discrete i j) [ yes z ↦ rw (eq-eqb i j z, z) (h (rw z at k)).2 | no z ↦ rw (ne_eqb i j z) (C.below i k) ];
  }

  -- a choice whose first m values come to y
  record Comes (m : ℕ) (y : Float) : Type 0 where
    choice : ℕ → Float
    is_choice : Picked choice
    comes : folded choice m ≡ key y

  comes_cond : (m : ℕ) (b : Bool) (x y : Float) → Comes m x → Comes m y → Comes m (cond b x y)
  comes_cond m true x y p q = p
  comes_cond m false x y p q = q

  -- one value more, x
  comes_pair : (m : ℕ) (y x : Float) → m < n → Real y → Real x → key (low m) ≤ key x → key x ≤ key (high m) → Comes m y → Comes (suc m) (sends_for_two y x)
  comes_pair m y x k R S a b C = record {
    choice = with_at C.choice m x;
    is_choice = picked_at C.choice m x C.is_choice (λ j. (S, a, b));
    comes = folded_suc (with_at C.choice m x) m
        ∙ (rw (eq-eqb m m refl, folded_cong (with_at C.choice m x) C.choice m (λ i l. rw (ne_eqb i m (λ z. omega arith))), C.comes) (sym (key_pair R S)));
  }

  record Upto (m : ℕ) (e : Ends) : Type 0 where
    real_low : Real e.low
    real_high : Real e.high
    zero_low : plus_zero e.low ≡ e.low
    zero_high : plus_zero e.high ≡ e.high
    above : (g : ℕ → Float) → Picked g → key e.low ≤ folded g m
    below : (g : ℕ → Float) → Picked g → folded g m ≤ key e.high
    comes_low : Comes m e.low
    comes_high : Comes m e.high

  start : Upto 1 (range_to lows highs 0)
  unfolding range_to
  start =
      let k : 0 < n = P.some in
      let R = low_real 0 k in
      let S = high_real 0 k in
      record {
        real_low = real_zero R;
        real_high = real_zero S;
        zero_low = zero_twice (low 0);
        zero_high = zero_twice (high 0);
        above = λ g C. rw (key_zero R, folded_one g (C.real 0 k)) (C.above 0 k);
        below = λ g C. rw (key_zero S, folded_one g (C.real 0 k)) (C.below 0 k);
        comes_low = record { choice = low; is_choice = picked_low; comes = folded_one low R ∙ sym (key_zero R) };
        comes_high = record { choice = high; is_choice = picked_high; comes = folded_one high S ∙ sym (key_zero S) };
      }

  -- lesser and greater of plus zeros are plus zeros
  zero_cond : (b : Bool) (x y : Float) → plus_zero x ≡ x → plus_zero y ≡ y → plus_zero (cond b x y) ≡ cond b x y
  zero_cond true x y p q = p
  zero_cond false x y p q = q

  module _ (m : ℕ) (k : m < n) (e : Ends) (U : Upto m e) where
    R : Real (low m)
    R = low_real m k

    S : Real (high m)
    S = high_real m k

    abbrev p : Float
    p = sends_for_two e.low (low m)

    abbrev q : Float
    q = sends_for_two e.low (high m)

    abbrev r : Float
    r = sends_for_two e.high (low m)

    abbrev s : Float
    s = sends_for_two e.high (high m)

    Rp : Real p
    Rp = real_pair U.real_low R

    Rq : Real q
    Rq = real_pair U.real_low S

    Rr : Real r
    Rr = real_pair U.real_high R

    Rs : Real s
    Rs = real_pair U.real_high S

    abbrev there : Ends
    there = record { low = low m; high = high m }

    low_key : key (combined e there).low ≡ min (min (clip bound (key e.low) (key (low m))) (clip bound (key e.low) (key (high m)))) (min (clip bound (key e.high) (key (low m))) (clip bound (key e.high) (key (high m))))
    low_key = key_lesser (real_lesser Rp Rq) (real_lesser Rr Rs)
        ∙ (rw (key_lesser Rp Rq, key_lesser Rr Rs, key_pair U.real_low R, key_pair U.real_low S, key_pair U.real_high R, key_pair U.real_high S))

    high_key : key (combined e there).high ≡ max (max (clip bound (key e.low) (key (low m))) (clip bound (key e.low) (key (high m)))) (max (clip bound (key e.high) (key (low m))) (clip bound (key e.high) (key (high m))))
    high_key = key_greater (real_greater Rp Rq) (real_greater Rr Rs)
        ∙ (rw (key_greater Rp Rq, key_greater Rr Rs, key_pair U.real_low R, key_pair U.real_low S, key_pair U.real_high R, key_pair U.real_high S))

    Cp : Comes (suc m) p
    Cp = comes_pair m e.low (low m) k U.real_low R (omega arith) (order m k) U.comes_low

    Cq : Comes (suc m) q
    Cq = comes_pair m e.low (high m) k U.real_low S (order m k) (omega arith) U.comes_low

    Cr : Comes (suc m) r
    Cr = comes_pair m e.high (low m) k U.real_high R (omega arith) (order m k) U.comes_high

    Cs : Comes (suc m) s
    Cs = comes_pair m e.high (high m) k U.real_high S (order m k) (omega arith) U.comes_high

    inside : (g : ℕ → Float) → Picked g → (key (combined e there).low ≤ folded g (suc m)) × (folded g (suc m) ≤ key (combined e there).high)
    inside g C = rw (low_key, high_key, folded_suc g m)
        (corners bound (key e.low) (folded g m) (key e.high) (key (low m)) (key (g m)) (key (high m))
        (U.above g C) (U.below g C) (key_top U.real_high) (C.above m k) (C.below m k) (key_top S))

    more : Upto (suc m) (combined e there)
    more = record {
      real_low = real_lesser (real_lesser Rp Rq) (real_lesser Rr Rs);
      real_high = real_greater (real_greater Rp Rq) (real_greater Rr Rs);
      zero_low = zero_cond (lt (lesser r s) (lesser p q)) _ _ (zero_cond (lt s r) s r (zero_twice _) (zero_twice _)) (zero_cond (lt q p) q p (zero_twice _) (zero_twice _));
      zero_high = zero_cond (lt (greater p q) (greater r s)) _ _ (zero_cond (lt r s) s r (zero_twice _) (zero_twice _)) (zero_cond (lt p q) q p (zero_twice _) (zero_twice _));
      above = λ g C. (inside g C).0;
      below = λ g C. (inside g C).1;
      comes_low = comes_cond (suc m) (lt (lesser r s) (lesser p q)) _ _ (comes_cond (suc m) (lt s r) s r Cs Cr) (comes_cond (suc m) (lt q p) q p Cq Cp);
      comes_high = comes_cond (suc m) (lt (greater p q) (greater r s)) _ _ (comes_cond (suc m) (lt r s) s r Cs Cr) (comes_cond (suc m) (lt p q) q p Cq Cp);
    }

  upto_more : (i : ℕ) → suc i < n → Upto (suc i) (range_to lows highs i) → Upto (suc (suc i)) (range_to lows highs (suc i))
  upto_more i k U = rw (range_suc lows highs i) (more (suc i) k (range_to lows highs i) U)

  upto : (i : ℕ) → i < n → Upto (suc i) (range_to lows highs i)
  upto zero k = start
  upto (suc i) k = upto_more i k (upto i (omega arith))

  abbrev E : Ends
  E = range_to lows highs (n - 1)

  all_of : Upto n E
  all_of = let e : suc (n - 1) ≡ n = omega (arith, P.some) in rw e at (upto (n - 1) (omega (arith, P.some)))

  answered_all : (g : ℕ → Float) → Picked g → Answered g n
  answered_all g C = let e : suc (n - 1) ≡ n = omega (arith, P.some) in rw e at (answered g (n - 1) (λ i k. C.real i (omega (arith, P.some))))

  reach : (y : Float) → Real y → Comes n y → Reached lows highs y
  reach y R C =
      let A = answered_all C.choice C.is_choice in
      record {
        chosen = C.choice;
        choice = chosen C.choice C.is_choice;
        value = A.value;
        sends = A.is;
        same = eq_keys A.real R ∙ eq-eqb _ _ (A.at ∙ C.comes);
      }

  -- The law.
  pub range_law : IsRange lows highs E.low E.high
  range_law = record {
    within = λ g C.
        let A = answered_all g (picked g C) in
        record {
          value = A.value;
          is_soft_lem = A.is;
          above = le_of_key all_of.real_low A.real (rw A.at (all_of.above g (picked g C)));
          below = le_of_key A.real all_of.real_high (rw A.at (all_of.below g (picked g C)));
        };
    lowest = reach E.low all_of.real_low all_of.comes_low;
    highest = reach E.high all_of.real_high all_of.comes_high;
  }

  -- An end that is zero is plus zero.
  pub range_zeros : (plus_zero E.low ≡ E.low) × (plus_zero E.high ≡ E.high)
  range_zeros = (all_of.zero_low, all_of.zero_high)

  pub range_real : (i : ℕ) → i < n → Real (range_to lows highs i).low × Real (range_to lows highs i).high
  range_real i k = let U = upto i k in (U.real_low, U.real_high)

  pub choice_answered : (g : ℕ → Float) → Choice lows highs g → Answered g n
  choice_answered g C = answered_all g (picked g C)

-- what `combine::range_of` goes by
pub range_more : (lows highs : List Float) (i : ℕ) → 1 ≤ i → range_to lows highs (i + 1 - 1) ≡ combined (range_to lows highs (i - 1)) (ends_at lows highs i)
range_more lows highs zero k = absurd (omega arith)
range_more lows highs (suc j) k =
    let e : suc j + 1 - 1 ≡ suc j = omega arith in
    let d : suc j - 1 ≡ j = omega arith in
    rw (e, d) (range_suc lows highs j)
