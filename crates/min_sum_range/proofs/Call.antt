-- From what the call tested to what it answers. Assumes nothing.
use mathlib.Core.Path.{◌≡◌, ap}
use mathlib.Core.Bool.{false, false≢true}
use mathlib.Core.List.{List, [], ◌∷◌}
use Prim.Native.Nat.{ℕ, ◌-◌, ◌≤◌}
use lib.ListN.{length}
use borrow.Author.Tests.{eq-eqb, ne_eqb, le-leb}
use lib.Ieee.{Float, nan, lt}
use Rattle.std.specs.Prelude.{Option, Some, None, Ok, Err, position, is_some, unwrap_or}
use Rattle.std.specs.Option.{option_or}
use Rattle.std.specs.List.{zip}
use Rattle.parity.specs.Finite.{any, least, first}
use Rattle.parity.specs.Causes.{refusal, refusal_of}
use Rattle.parity.specs.Floats.{too_large}
use Rattle.parity.specs.SoftRange.{range_to, wrong_sizes, unfit, crossed, min_sum_range_reply, min_sum_range_outcome}
use Rattle.parity.specs.declared.Refusal.{Refusal}
use Rattle.parity.proofs.Finite.Sums.{is_true, is_false, is}
use Rattle.parity.proofs.Finite.Positions.{first_some, first_none, position_first}
use Rattle.soft.proofs.Zipped.{position_zip}
use Rattle.parity.proofs.Causes.Refused.{refused_number}
use Rattle.min_sum_range.specs.Answers.{ranging_outcome}

-- what the searches find
position_unfit : (xs : List Float) → position (λ x. too_large x) xs ≡ first (length xs) (unfit xs)
unfolding unfit
position_unfit xs = position_first (λ x. too_large x) xs nan

pub position_crossed : (lows highs : List Float) → length lows ≡ length highs → position (λ p. lt p.1 p.0) (zip lows highs) ≡ first (length lows) (crossed lows highs)
unfolding crossed
position_crossed lows highs l = position_zip (λ p. lt p.1 p.0) lows highs l nan nan

-- the first place of cause 23, over lows and then highs
abbrev pub first_unfit : List Float → List Float → Option ℕ
first_unfit lows highs = option_or (first (length lows) (unfit lows)) (first (length highs) (unfit highs))

pub searched_unfit : (lows highs : List Float) → option_or (position (λ x. too_large x) lows) (position (λ x. too_large x) highs) ≡ first_unfit lows highs
searched_unfit lows highs = rw (position_unfit lows, position_unfit highs)

-- a refusal gives no ends
pub refused : (lows highs : List Float) (r : Refusal) → refusal_of r ≡ min_sum_range_reply lows highs → ranging_outcome (Err r) ≡ min_sum_range_outcome lows highs
unfolding min_sum_range_outcome
refused lows highs r e = rw (← e, ne_eqb (refusal_of r).number 0 (refused_number r))

module _ (lows highs : List Float) (l : length lows ≡ length highs) (m : length lows ≤ 511) where
  abbrev n : ℕ
  n = length lows

  sizes : wrong_sizes lows highs ≡ false
  sizes = rw (eq-eqb _ _ l, le-leb _ 511 m)

  pub refused_23 : (p : ℕ) → Some p ≡ first_unfit lows highs → refusal 23 (p ∷ []) ≡ min_sum_range_reply lows highs
  unfolding min_sum_range_reply
  refused_23 p k = elim (is (any n (unfit lows))) [
    | is_true a ↦ let e : p ≡ least n (unfit lows) = ap (λ o. unwrap_or o p) (rw a at k) in rw (sizes, a, e)
    | is_false a ↦ let (b, e) = first_some n (unfit highs) p (rw (a, ← l) at k) in rw (sizes, a, b, e)
  ]

  none_unfit : None ≡ first_unfit lows highs → (any n (unfit lows) ≡ false) × (any n (unfit highs) ≡ false)
  none_unfit k = elim (is (any n (unfit lows))) [
    | is_true a ↦ absurd (false≢true (ap is_some (rw a at k)))
    | is_false a ↦ (a, first_none n (unfit highs) (rw (a, ← l) at k))
  ]

  module _ (k : None ≡ first_unfit lows highs) where
    pub refused_24 : (p : ℕ) → Some p ≡ first n (crossed lows highs) → refusal 24 (p ∷ []) ≡ min_sum_range_reply lows highs
    unfolding min_sum_range_reply
    refused_24 p c = let (b, e) = first_some n (crossed lows highs) p c in rw (sizes, (none_unfit k).0, (none_unfit k).1, b, e)

    module _ (c : None ≡ first n (crossed lows highs)) where
      pub sure : n ≡ 0 → ranging_outcome (Ok None) ≡ min_sum_range_outcome lows highs
      unfolding min_sum_range_reply min_sum_range_outcome
      sure z = rw (sizes, (none_unfit k).0, (none_unfit k).1, first_none n (crossed lows highs) c, eq-eqb n 0 z)

      pub within : (n ≡ 0 → ⊥) → ranging_outcome (Ok (Some (range_to lows highs (n - 1)))) ≡ min_sum_range_outcome lows highs
      unfolding min_sum_range_reply min_sum_range_outcome
      within z = rw (sizes, (none_unfit k).0, (none_unfit k).1, first_none n (crossed lows highs) c, ne_eqb n 0 z)
