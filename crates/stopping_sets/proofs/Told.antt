-- What listing answers: the sets that the search finds over the columns are those of the matrix. Assumes nothing.
use mathlib.Core.Path.{◌≡◌, refl, sym, ◌∙◌}
use mathlib.Core.Bool.{Bool, true, false, ◌&&◌, and-eq-true_iff}
use mathlib.Core.List.{List, [], ◌∷◌, ◌++◌}
use Prim.Native.Nat.{ℕ, ◌+◌, ◌*◌, ◌/◌, ◌≤◌, ◌<◌}
use native.Mathlib.Nat.{add-zero, zero-div}
use native.Mathlib.Omega.{arith}
use native.Mathlib.Decide.{dec_lt}
use lib.Arith.{digits_div}
use lib.Dec.{leb}
use lib.ListN.{length, drop}
use borrow.Author.Tests.{lt-ltb, le-ltb, leb-true, not-false}
use Rattle.parity.specs.Finite.{one, count}
use Rattle.parity.specs.Matrix.{Matrix, lent}
use Rattle.parity.specs.Words.{inside, stopping}
use Rattle.parity.specs.StoppingSets.{is_in, sets_from, flat, stopping_sets, rising}
use Rattle.parity.specs.Calls.{wrong_size}
use Rattle.parity.proofs.Finite.Sums.{all_at, all_of, count_cong, sum_zero}
use Rattle.parity.proofs.Finite.Bools.{same_test}
use Rattle.parity.proofs.Splits.Common.{transposed}
use Rattle.parity.proofs.Words.Sets.{inside_below}
use Rattle.parity.proofs.Words.StoppingSets.{rising_out, sets_are, keep_cong}
use Rattle.parity.proofs.Words.SetsListed.{found, found_places}
use Rattle.columns.specs.Columns.{ColumnsOf}
use Rattle.enumeration.specs.Search.{across, Put}

-- members that are below n count as far as n
inside_as_far : (h : Matrix) (N n c : ℕ) (s : List ℕ) → n ≤ N → rising 0 n s ≡ true → inside h N c (is_in s) ≡ inside h n c (is_in s)
inside_as_far h N n c s k e =
    inside_below h N n c (is_in s) (is_in s) k (λ b. elim (dec_lt b n) [
      | yes l ↦ rw (lt-ltb b n l)
      | no l ↦ rw (le-ltb b n (omega arith)) (rising_out 0 n b s e (omega arith))
    ])

module _ (h g : Matrix) (n N M top : ℕ) (C : ColumnsOf 2 M h g) (nN : n ≤ N) (few : n ≤ 120) (Mt : M ≤ top) (s : List ℕ) (e : rising 0 n s ≡ true) where
  same_below : (c : ℕ) → c < M → inside (transposed g) n c (is_in s) ≡ inside h n c (is_in s)
  unfolding inside
  same_below c k = count_cong n {p = λ b. g b c && is_in s b} {q = λ b. h c b && is_in s b} (λ b l. rw (C.at b c, lt-ltb c M k, lt-ltb (b / 64) 2 (omega arith)))

  same_inside : (c : ℕ) → c < M → inside (transposed g) 128 c (is_in s) ≡ inside h N c (is_in s)
  same_inside c k =
      inside_as_far (transposed g) 128 n c s (omega arith) e
      ∙ same_below c k
      ∙ sym (inside_as_far h N n c s nN e)

  none_inside : (c : ℕ) → M ≤ c → inside (transposed g) 128 c (is_in s) ≡ 0
  unfolding inside count
  none_inside c k = sum_zero 128 {f = λ b. one (g b c && is_in s b)} (λ b l. rw (C.at b c, le-ltb c M k))

  same_stopping : stopping (transposed g) 128 top (is_in s) ≡ stopping h N M (is_in s)
  unfolding stopping
  same_stopping = same_test _ _
      (λ p. all_of M _ (λ c k. rw (← same_inside c k) (all_at top _ p c (omega arith))))
      (λ p. all_of top _ (λ c k. elim (dec_lt c M) [
        | yes l ↦ rw (same_inside c l) (all_at M _ p c l)
        | no l ↦ rw (none_inside c (omega arith))
      ]))

-- how many sets there are, by the places that they take
pub found_count : (ws : List ℕ) (n m k t : ℕ) → 1 ≤ t → length (flat (found ws n m k t)) / t ≡ length (found ws n m k t)
found_count ws n m k t l =
    rw (found_places ws n m k t, ← add-zero (length (found ws n m k t) * t))
    (digits_div (length (found ws n m k t)) (omega arith))

-- The stopping sets of t sent bits, of the columns and of the matrix.
same_sets : (h g : Matrix) (n N M top t : ℕ) → ColumnsOf 2 M h g → n ≤ N → n ≤ 120 → M ≤ top
    → stopping_sets (transposed g) n 128 top t ≡ stopping_sets h n N M t
unfolding stopping_sets
same_sets h g n N M top t C k l m =
    let z : 0 + n ≡ n = omega arith in
    keep_cong (λ s. stopping (transposed g) 128 top (is_in s)) (λ s. stopping h N M (is_in s)) (sets_from n t 0)
    (λ s i. same_stopping h g n N M top C k l m s (rw z at (sets_are n t 0 s i).0))

pub put_found : (ws cols : List ℕ) (n m k used t : ℕ) (w : Bool) (old new : List ℕ) (r : ℕ) → ColumnsOf 2 (m + k) (lent 8 ws) (lent 8 cols) → n ≤ 120 → m + k ≤ used * 64
    → Put w old new 0 (flat (stopping_sets (across cols) n 128 (used * 64) t)) r → Put w old new 0 (flat (found ws n m k t)) r
put_found ws cols n m k used t w old new r C few top P =
    rw (same_sets (lent 8 ws) (lent 8 cols) n (n + k) (m + k) (used * 64) t C (omega arith) few top) at P

pub place_is : (w : Bool) (old new ws : List ℕ) (r : ℕ) → Put w old new 0 ws r → r ≡ length ws
place_is w old new ws r P = omega (arith, P.place)

-- a size that can be asked for
pub right_size : (t : ℕ) → wrong_size t ≡ false → (1 ≤ t) × (t ≤ 4)
unfolding wrong_size
right_size t e =
    let (x, y) = (and-eq-true_iff (leb 1 t) (leb t 4)).0 (not-false (leb 1 t && leb t 4) e) in
    (leb-true 1 t x, leb-true t 4 y)

-- where they take no place, there are none, and nothing changes
pub none_found : (ws : List ℕ) (n m k t : ℕ) → 1 ≤ t → length (flat (found ws n m k t)) ≡ 0 → 0 ≡ length (found ws n m k t)
none_found ws n m k t l z = sym (zero-div t) ∙ rw z at (found_count ws n m k t l)

pub none_stored : (xs old : List ℕ) → length xs ≡ 0 → old ≡ xs ++ drop (length xs) old
none_stored [] old z = refl
none_stored (x ∷ xs) old z = absurd (omega arith)
