-- Where the messages lie: check after check, each one of the matrix at a place of its own. Assumes nothing.
use mathlib.Core.Path.{◌≡◌, refl, sym, ◌∙◌}
use mathlib.Core.Bool.{Bool, true, false, true≢false}
use mathlib.Core.List.{List}
use Prim.Native.Nat.{ℕ, zero, suc, ◌+◌, ◌<◌, ◌≤◌}
use native.Mathlib.Decide.{ℕ_discrete, dec_lt}
use native.Mathlib.Numerals.{add-one}
use native.Mathlib.Nat.{add-zero}
use native.Mathlib.Omega.{arith}
use lib.Arith.{le-zero}
use lib.ListN.{get_or, length, set, length-set}
use lib.Seq.{get_or-set_same}
use lib.Ieee.{Float, nan}
use Rattle.parity.specs.Finite.{sum, count}
use Rattle.parity.specs.Matrix.{Matrix}
use Rattle.parity.proofs.Finite.Sums.{count_zero, count_end, count_suc}
use Rattle.parity.proofs.Finite.Firsts.{nth_below, nth_only}
use Rattle.parity.specs.Soft.{message_at}
use Rattle.soft.proofs.Places.{message_other}
use Rattle.messages.specs.Memory.{start, place, Laid, Written, Above, Within}

-- a value copied to place j
pub written : (us : List ℕ) (ys : List Float) (i : ℕ) (ts : List ℕ) (xs : List Float) (j : ℕ) → j < length ts → j < length xs
    → Written j (message_at us ys i) ts xs (set ts j (get_or us i 0)) (set xs j (get_or ys i nan))
unfolding message_at
written us ys i ts xs j k l = record {
  tags = length-set ts _ _;
  values = length-set xs _ _;
  here = rw (get_or-set_same ts j (get_or us i 0) 0 k, get_or-set_same xs j (get_or ys i nan) nan l);
  other = λ t n. message_other ts xs j t _ _ n;
}

-- lists of the same lengths are memory too
pub laid_same : (ws : List ℕ) (h : Matrix) (ts : List ℕ) (xs : List Float) → Laid ws h ts xs → (us : List ℕ) (ys : List Float) → length us ≡ length ts → length ys ≡ length xs → Laid ws h us ys
laid_same ws h ts xs L us ys p q = record { words = L.words; memory = record { tags = p ∙ L.memory.tags; values = q ∙ L.memory.values }; room = L.room }

pub none_counted : (p : ℕ → Bool) → 0 ≡ count 0 p
unfolding count sum
none_counted p = refl

-- one more number, that passes or not
pub count_yes : (p : ℕ → Bool) (c : ℕ) → p c ≡ true → count (c + 1) p ≡ count c p + 1
count_yes p c e = rw (add-one c) (let q = rw e at (count_suc c p) in q)

pub count_no : (p : ℕ → Bool) (c : ℕ) → p c ≡ false → count (c + 1) p ≡ count c p
count_no p c e = rw (add-one c) (let q = rw (e, add-zero) at (count_suc c p) in q)

module _ (h : Matrix) (N : ℕ) where
  pub start_zero : start h N 0 ≡ 0
  unfolding start sum
  start_zero = refl

  pub start_suc : (c : ℕ) → start h N (suc c) ≡ start h N c + count N (h c)
  unfolding start sum
  start_suc c = refl

  pub start_mono : (c d : ℕ) → c ≤ d → start h N c ≤ start h N d
  start_mono c zero k = rw (le-zero k) (omega arith)
  start_mono c (suc d) k = elim (ℕ_discrete c (suc d)) [
    | yes q ↦ rw q (omega arith)
    | no n ↦ omega (arith, start_mono c d (omega arith), start_suc d)
  ]

  pub place_low : (c b : ℕ) → start h N c ≤ place h N c b
  unfolding place
  place_low c b = omega arith

  pub place_high : (c b : ℕ) → b < N → h c b ≡ true → place h N c b < start h N (suc c)
  unfolding place
  place_high c b k e = omega (arith, start_suc c, nth_below (h c) b N k e)

  -- ---- the places after all messages
  pub above_none : (ts : List ℕ) (xs : List Float) → Above h N ts xs ts xs
  above_none ts xs = record { at = λ i k l. refl }

  pub above_more : (ts : List ℕ) (xs : List Float) (us : List ℕ) (ys : List Float) → Above h N ts xs us ys → (vs : List ℕ) (zs : List Float) → Above h N us ys vs zs → Above h N ts xs vs zs
  above_more ts xs us ys A vs zs B = record { at = λ i k l. B.at i k l ∙ A.at i k l }

  -- no check from M on has messages
  pub start_end : (M c : ℕ) → Within h M → M ≤ c → start h N c ≡ start h N M
  start_end M zero W k = rw (le-zero k)
  start_end M (suc c) W k = elim (ℕ_discrete M (suc c)) [
    | yes q ↦ rw q
    | no n ↦ start_suc c ∙ omega (arith, start_end M c W (omega arith), count_end 0 N (h c) (omega arith) (λ a l m. W.after c a (omega arith)), count_zero (h c))
  ]

pub place_yes : (h : Matrix) (N c b : ℕ) → h c b ≡ true → place h N c (b + 1) ≡ place h N c b + 1
unfolding place
place_yes h N c b e = omega (arith, count_yes (h c) b e)

pub first_place : (h : Matrix) (N c : ℕ) → place h N c 0 ≡ start h N c
unfolding place
first_place h N c = omega (arith, none_counted (h c))

-- ---- places of their own
pub place_same : (h : Matrix) (N c b d a : ℕ) → b < N → a < N → h c b ≡ true → h d a ≡ true → place h N c b ≡ place h N d a → (c ≡ d) × (b ≡ a)
unfolding place
place_same h N c b d a k l p q e = elim (ℕ_discrete c d) [
  | yes z ↦ (z, nth_only (h c) b a p (rw z q) (same z))
  | no z ↦ absurd (elim (dec_lt c d) [
    | yes y ↦ omega (arith, place_high h N c b k p, start_mono h N (suc c) d y, place_low h N d a)
    | no y ↦ omega (arith, place_high h N d a l q, start_mono h N (suc d) c (omega arith), place_low h N c b)
  ])
]
  where
    same : c ≡ d → count b (h c) ≡ count a (h c)
    same z = let f = rw (← z) at e in omega arith

-- the checks that have a bit
pub within_below : (h : Matrix) (M : ℕ) → Within h M → (d a : ℕ) → h d a ≡ true → d < M
within_below h M W d a e = elim (dec_lt d M) [ yes k ↦ k | no k ↦ absurd (true≢false (sym e ∙ W.after d a (omega arith))) ]

-- a message's place is before the row
pub place_small : (h : Matrix) (N c b : ℕ) → start h N 512 ≤ 65024 → c < 512 → b < N → h c b ≡ true → place h N c b < 65024
place_small h N c b m k l e = omega (arith, place_high h N c b l e, start_mono h N (suc c) 512 k)
