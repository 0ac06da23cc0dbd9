-- The check's answer, by keys: the values combined one after the other. Assumes nothing.
use mathlib.Core.Path.{◌≡◌, refl, sym, ap, ◌∙◌}
use mathlib.Core.Bool.{Bool, true, false, not, cond, ◌&&◌, ◌||◌, false≢true}
use Prim.Native.Nat.{ℕ, zero, suc, ◌+◌, ◌-◌, ◌<◌, ◌≤◌, min}
use native.Mathlib.Decide.{dec_le}
use native.Mathlib.Omega.{arith}
use lib.Ieee.{Float}
use Rattle.parity.specs.Finite.{count, any, all}
use Rattle.parity.specs.Words.{odd}
use Rattle.parity.proofs.Finite.Sums.{is_true, is_false, is, any_at, all_false, count_suc}
use Rattle.parity.specs.Floats.{negative, magnitude, turned, lesser}
use Rattle.parity.specs.Soft.{is_erased, is_sure, turns_sign, least_soft, turns_odd, check_sends}
use Rattle.parity.specs.declared.Channel.{Channel}
use Rattle.parity.specs.declared.Channel.TheVariants.{Soft}
use Rattle.parity.proofs.Soft.Counts.{odd_more}
use Rattle.parity.proofs.Soft.Exact.{below_infinite}
use Rattle.parity.specs.SoftRangePromises.{sends_for}
use Rattle.parity.proofs.SoftRange.Keys.{bound, key}
use Rattle.parity.proofs.SoftRange.Clip.{clip, clip_sign}
use Rattle.parity.proofs.SoftRange.Pairs.{Real, key_top, real_magnitude, real_lesser, key_lesser, real_turned, key_turned, key_parts}

-- the first n values, combined; none is above all
pub folded : (ℕ → Float) → ℕ → ℕ
folded g zero = bound + bound
folded g (suc n) = clip bound (folded g n) (key (g n))

pub folded_zero : (g : ℕ → Float) → folded g 0 ≡ bound + bound
unfolding folded
folded_zero g = refl

pub folded_suc : (g : ℕ → Float) (n : ℕ) → folded g (suc n) ≡ clip bound (folded g n) (key (g n))
unfolding folded
folded_suc g n = refl

pub folded_cong : (g h : ℕ → Float) (n : ℕ) → ((i : ℕ) → i < n → g i ≡ h i) → folded g n ≡ folded h n
folded_cong g h zero e = folded_zero g ∙ sym (folded_zero h)
folded_cong g h (suc n) e =
    folded_suc g n ∙ (rw (folded_cong g h n (λ i k. e i (omega arith)), e n (omega arith)) (sym (folded_suc h n)))

-- the first alone
split_key : (k : ℕ) → k ≤ bound + bound → clip bound (bound + bound) k ≡ k
split_key k l = elim (dec_le bound k) [
  | yes z ↦ clip_sign bound (bound + bound) k bound (k - bound) false false (omega arith) (omega arith) refl (omega arith) ∙ omega arith
  | no z ↦ clip_sign bound (bound + bound) k bound (bound - k) false true (omega arith) (omega arith) refl (omega arith) ∙ omega arith
]

pub folded_one : (g : ℕ → Float) → Real (g 0) → folded g 1 ≡ key (g 0)
folded_one g R = folded_suc g 0 ∙ (rw (folded_zero g) (split_key (key (g 0)) (key_top R)))

-- every place passes
abbrev every : ℕ → Bool
every i = true

abbrev soft : (ℕ → Float) → ℕ → Channel
soft g i = Soft (g i)

-- what is known of the least magnitude and the parity of n values
record Known (g : ℕ → Float) (n : ℕ) : Type 0 where
  real : Real (least_soft n every (soft g))
  size : ℕ
  small : size ≤ bound
  at : key (least_soft n every (soft g)) ≡ bound + size
  is : folded g n ≡ cond (turns_odd n every (soft g)) (bound - size) (bound + size)

least_first : (g : ℕ → Float) → Real (g 0) → least_soft 1 every (soft g) ≡ magnitude (g 0)
unfolding least_soft
least_first g R = rw (below_infinite (g 0) R.finite')

least_next : (g : ℕ → Float) (n : ℕ) → least_soft (suc n) every (soft g) ≡ lesser (least_soft n every (soft g)) (magnitude (g n))
unfolding least_soft
least_next g n = refl

odd_first : (g : ℕ → Float) → turns_odd 1 every (soft g) ≡ negative (g 0)
unfolding turns_odd count odd
odd_first g = elim (is (negative (g 0))) [ is_true q ↦ rw q | is_false q ↦ rw q ]

odd_next : (g : ℕ → Float) (n : ℕ) → turns_odd (suc n) every (soft g) ≡ cond (negative (g n)) (not (turns_odd n every (soft g))) (turns_odd n every (soft g))
unfolding turns_odd
odd_next g n = ap odd (count_suc n (λ i. every i && turns_sign (soft g i))) ∙ odd_more (count n (λ i. every i && turns_sign (soft g i))) (negative (g n))

first : (g : ℕ → Float) → Real (g 0) → Known g 1
first g R =
    let (a, k, p, q) = key_parts R in
    record {
      real = rw (least_first g R) (real_magnitude R);
      size = a;
      small = k;
      at = rw (least_first g R) q;
      is = folded_one g R ∙ p ∙ ap (λ t. cond t (bound - a) (bound + a)) (sym (odd_first g));
    }

next : (g : ℕ → Float) (n : ℕ) → Real (g n) → Known g n → Known g (suc n)
next g n R K =
    let (b, l, p, q) = key_parts R in
    let a = K.size in
    let t = turns_odd n every (soft g) in
    record {
      real = rw (least_next g n) (real_lesser K.real (real_magnitude R));
      size = min a b;
      small = omega arith;
      at = rw (least_next g n) (key_lesser K.real (real_magnitude R) ∙ (rw (K.at, q) (lowest a b)));
      is = folded_suc g n ∙ clip_sign bound (folded g n) (key (g n)) a b t (negative (g n)) K.small l K.is p ∙ (rw (odd_next g n) (signs t (negative (g n)) _ _));
    }
  where
    lowest : (a b : ℕ) → min (bound + a) (bound + b) ≡ bound + min a b
    lowest a b = omega arith

    signs : (s t : Bool) (x y : ℕ) → cond s (cond t x y) (cond t y x) ≡ cond (cond t (not s) s) y x
    signs true true x y = refl
    signs true false x y = refl
    signs false true x y = refl
    signs false false x y = refl

known : (g : ℕ → Float) (n : ℕ) → ((i : ℕ) → i < suc n → Real (g i)) → Known g (suc n)
known g zero R = first g (R 0 (omega arith))
known g (suc n) R = next g (suc n) (R (suc n) (omega arith)) (known g n (λ i k. R i (omega arith)))

-- the answer, for at least one value
pub record Answered (g : ℕ → Float) (n : ℕ) : Type 0 where
  pub value : Float
  pub is : sends_for n g ≡ Soft value
  pub real : Real value
  pub at : key value ≡ folded g n

answer_soft : (g : ℕ → Float) (n : ℕ) → sends_for (suc n) g ≡ Soft (turned (turns_odd (suc n) every (soft g)) (least_soft (suc n) every (soft g)))
unfolding check_sends
answer_soft g n = rw (none, some)
  where
    none : any (suc n) (λ i. every i && is_erased (soft g i)) ≡ false
    none = elim (is (any (suc n) (λ i. every i && is_erased (soft g i)))) [
      | is_false e ↦ e
      | is_true e ↦ let (i, k, q) = any_at (suc n) (λ i. every i && is_erased (soft g i)) e in absurd (false≢true q)
    ]

    some : all (suc n) (λ i. not (every i) || is_sure (soft g i)) ≡ false
    some = all_false (suc n) (λ i. not (every i) || is_sure (soft g i)) 0 (omega arith) refl

pub answered : (g : ℕ → Float) (n : ℕ) → ((i : ℕ) → i < suc n → Real (g i)) → Answered g (suc n)
answered g n R =
    let K = known g n R in
    let t = turns_odd (suc n) every (soft g) in
    record {
      value = turned t (least_soft (suc n) every (soft g));
      is = answer_soft g n;
      real = real_turned t K.real;
      at = key_turned t K.real ∙ (rw K.at (sides t K.size K.small)) ∙ sym K.is;
    }
  where
    sides : (t : Bool) (a : ℕ) → a ≤ bound → cond t (bound + bound - (bound + a)) (bound + a) ≡ cond t (bound - a) (bound + a)
    sides true a k = omega arith
    sides false a k = refl
