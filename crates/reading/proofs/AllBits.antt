-- Words of kind 3 that rise, the last of them a bit below n, are rising bits below n. Assumes nothing.
use mathlib.Core.Path.{◌≡◌}
use mathlib.Core.List.{List}
use Prim.Native.Nat.{ℕ, zero, suc, ◌+◌, ◌-◌, ◌/◌, ◌^◌, ◌≤◌, ◌<◌}
use native.Mathlib.Numerals.{add-one}
use native.Mathlib.Omega.{arith}
use lib.Dec.{leb}
use borrow.Author.Tests.{leb-false}
use lib.ListN.{get_or, length}
use Rattle.parity.specs.Record.{kind_of, payload}
use Rattle.parity.proofs.Record.Reading.{bit_yes}
use Rattle.reading.specs.Read.{Rising, BitsRead, Fault}
use Rattle.reading.proofs.Read.{rising_none, rising_next}

-- a word of kind 3
kind_three : (w : ℕ) → kind_of w ≡ 3 → payload w + 805306368 ≡ w
unfolding kind_of payload
kind_three w e = omega arith

pub fault_in : (before w : ℕ) → w / 2 ^ 28 ≡ 3 → Fault before w (leb w before)
unfolding kind_of
fault_in before w e = record { kind = λ q. e; above = λ q. leb-false w before q }

module _ (n : ℕ) (source : List ℕ) (from count : ℕ) (room : from + count ≤ length source)
    (kinds : (i : ℕ) → i < count → kind_of (get_or source (from + i) 0) ≡ 3)
    (rises : (i : ℕ) → i + 1 < count → get_or source (from + i) 0 < get_or source (from + (i + 1)) 0)
    (below : payload (get_or source (from + count - 1) 0) < n) where
  abbrev w : ℕ → ℕ
  w i = get_or source (from + i) 0

  -- d words before the last one
  under : (d i : ℕ) → i + suc d ≡ count → payload (w i) < n
  under zero i e = let a : from + count - 1 ≡ from + i = omega arith in rw a at below
  under (suc d) i e =
      omega (
        arith,
        under d (suc i) (omega arith),
        rw (add-one i) at (rises i (omega arith)),
        kind_three (w i) (kinds i (omega arith)),
        kind_three (w (suc i)) (kinds (suc i) (omega arith)),
      )

  bit : (i : ℕ) → i < count → (kind_of (w i) ≡ 3) × (payload (w i) + 805306368 ≡ w i) × (payload (w i) < n)
  bit i k = (kinds i k, kind_three (w i) (kinds i k), under (count - suc i) i (omega arith))

  least : ℕ → ℕ
  least zero = 0
  least (suc i) = payload (w i) + 1

  least_under : (i : ℕ) → i < count → least i ≤ payload (w i)
  unfolding least
  least_under zero k = omega arith
  least_under (suc i) k = omega (arith, (bit i (omega arith)).1, (bit (suc i) k).1, rw (add-one i) at (rises i (omega arith)))

  rising : (i : ℕ) → i ≤ count → Rising n source from i (least i)
  unfolding least
  rising zero k = rising_none n source from
  rising (suc i) k =
      let (a, b, u) = bit i (omega arith) in
      rw (add-one i) at (rising_next n source from i (least i) (rising i (omega arith)) (omega arith) (bit_yes n (least i) (w i) a (least_under i (omega arith)) u))

  pub all_bits : BitsRead n source from count count
  all_bits = record { top = omega arith; low = least count; rising = rising count (omega arith); next = λ k. absurd (omega arith) }
