-- Document 02, M-113: soft values known within a range. The range of one check's min-sum answer: the ranges of its other bits, combined pairwise; and the
-- call that gives it. Checks: 10, 23 over lows and then highs, 24. That this is the range over all choices inside is `RangeGiven` of SoftRangePromises.
-- Assumes nothing.
use Rattle.std.specs.Prelude.{ℕ, zero, suc, ◌-◌, Bool, not, cond, ◌&&◌, ◌||◌, List, [], ◌∷◌, eqb, leb, get_or, length, Float}
use Rattle.std.specs.Float.{nan}
use Rattle.std.specs.Float.Ieee.{lt}
use Rattle.parity.specs.Finite.{any, least}
use Rattle.parity.specs.Causes.{Reply, answer, refusal, refuse}
use Rattle.parity.specs.Floats.{negative, plus_zero, magnitude, turned, lesser, too_large}
use Rattle.parity.specs.declared.Ends.{Ends}

-- what a check sends for two soft values: the lesser magnitude, its sign turned once for each negative value
abbrev pub sends_for_two : Float → Float → Float
sends_for_two x y = turned (cond (negative x) (not (negative y)) (negative y)) (lesser (magnitude x) (magnitude y))

-- the greater of two, the first where they are equal
abbrev pub greater : Float → Float → Float
greater a x = cond (lt a x) x a

-- the range of value i
abbrev pub ends_at : List Float → List Float → ℕ → Ends
ends_at lows highs i = record { low = get_or lows i nan; high = get_or highs i nan }

-- an end that is zero is plus zero
abbrev pub plus_zeros : Ends → Ends
plus_zeros e = record { low = plus_zero e.low; high = plus_zero e.high }

-- two ranges combined: the least and the greatest answer at their ends
abbrev pub combined : Ends → Ends → Ends
combined a b = record {
  low = lesser (lesser (sends_for_two a.low b.low) (sends_for_two a.low b.high)) (lesser (sends_for_two a.high b.low) (sends_for_two a.high b.high));
  high = greater (greater (sends_for_two a.low b.low) (sends_for_two a.low b.high)) (greater (sends_for_two a.high b.low) (sends_for_two a.high b.high));
}

-- the ranges of the first i + 1 values, combined one after the other
unfoldable pub range_to : List Float → List Float → ℕ → Ends
range_to lows highs zero = plus_zeros (ends_at lows highs 0)
range_to lows highs (suc i) = combined (range_to lows highs i) (ends_at lows highs (suc i))

-- cause 10: the lengths differ or pass 511
abbrev pub wrong_sizes : List Float → List Float → Bool
wrong_sizes lows highs = not (eqb (length lows) (length highs)) || not (leb (length lows) 511)

-- cause 23 at place i of a slice
unfoldable pub unfit : List Float → ℕ → Bool
unfit xs i = too_large (get_or xs i nan)

-- cause 24 at place i: a low above its high
unfoldable pub crossed : List Float → List Float → ℕ → Bool
crossed lows highs i = lt (get_or highs i nan) (get_or lows i nan)

-- The reply carries the byte of M-112's form: 0, sure, with no other bits in the check; 3, soft, for a range.
unfoldable pub min_sum_range_reply : List Float → List Float → Reply
min_sum_range_reply lows highs =
    let n = length lows in
    refuse (wrong_sizes lows highs) (refusal 10 [])
    (refuse (any n (unfit lows)) (refusal 23 (least n (unfit lows) ∷ []))
    (refuse (any n (unfit highs)) (refusal 23 (least n (unfit highs) ∷ []))
    (refuse (any n (crossed lows highs)) (refusal 24 (least n (crossed lows highs) ∷ []))
    (answer (cond (eqb n 0) 0 3 ∷ [])))))

-- What the call does: its reply, and the ends that it gives. Lows and highs are left.
pub record RangeOutcome : Type 0 where
  pub reply : Reply
  pub ends : List Float

-- min_sum_range: a range gives its low and its high; sure 0 and a refusal give no ends.
unfoldable pub min_sum_range_outcome : List Float → List Float → RangeOutcome
min_sum_range_outcome lows highs =
    let r = min_sum_range_reply lows highs in
    let e = range_to lows highs (length lows - 1) in
    record { reply = r; ends = cond (eqb r.number 0 && not (eqb (length lows) 0)) (e.low ∷ e.high ∷ []) [] }
