-- By rule A two bits with share two or more are in no added check together, so the given checks decide their share; and the newest added
-- bit is in no other added check, so that they decide a taking back too. Assumes nothing.
use mathlib.Core.Path.{◌≡◌, sym, ◌∙◌}
use mathlib.Core.Bool.{false, ◌&&◌, or-false}
use Prim.Native.Nat.{ℕ, suc, ◌+◌, ◌-◌, ◌≤◌, ◌<◌}
use native.Mathlib.Decide.{ℕ_discrete}
use native.Mathlib.Omega.{arith}
use Rattle.parity.specs.Finite.{count}
use Rattle.parity.specs.Matrix.{Matrix}
use Rattle.parity.specs.Cycles.{share, taken_back, others}
use Rattle.parity.specs.Sound.{Sound}
use Rattle.parity.proofs.Finite.Sums.{is_true, is_false, is, count_suc, count_end, count_mono}
use Rattle.parity.proofs.Matrix.Rule.{old_apart}
use Rattle.parity.proofs.Matrix.Sound.{sound_rule}
use Rattle.parity.proofs.Splits.Back.{back_bit, back_at}

module _ (h : Matrix) (n m k : ℕ) (S : Sound h n m k) (x y : ℕ) (xn : x < n + k) (yn : y < n + k) (xy : x ≡ y → ⊥) where
  pub apart : 2 ≤ share h (m + k) x y → (c : ℕ) → m ≤ c → c < m + k → (h c x && h c y) ≡ false
  apart s c a b =
      let e : m + (c - m) ≡ c = omega arith in
      rw e at (old_apart h n m k x y xn yn xy s (c - m) (sound_rule h n m k (c - m) S (omega arith)))

  -- the share over the given checks is at most the share, and equal to it where either is two or more
  pub given_le : share h m x y ≤ share h (m + k) x y
  unfolding share
  given_le = count_mono m (m + k) (λ c. h c x && h c y) (omega arith)

  pub given : 2 ≤ share h (m + k) x y → share h m x y ≡ share h (m + k) x y
  unfolding share
  given s = sym (count_end m (m + k) (λ c. h c x && h c y) (omega arith) (λ c a b. apart s c a b))

  pub given_too : 2 ≤ share h m x y → share h m x y ≡ share h (m + k) x y
  given_too s = given (omega (arith, given_le))

module _ (h : Matrix) (n m k : ℕ) (S : Sound h n m (suc k)) where
  no_newest : (j : ℕ) → j < k → h (m + j) (n + k) ≡ false
  no_newest j l =
      let R = sound_rule h n m (suc k) j S (omega arith) in
      let e : n + suc k ≡ suc (n + k) = omega arith in
      elim (is (h (m + j) (n + k))) [
        | is_false q ↦ q
        | is_true q ↦ absurd (omega (
          arith,
          R.two,
          rw e at R.all3,
          rw R.own at (count_suc (n + j) (h (m + j))),
          rw q at (count_suc (n + k) (h (m + j))),
          count_mono (suc (n + j)) (n + k) (h (m + j)) (omega arith),
        ))
      ]

  -- the other checks that contain it are given ones
  pub newest_given : (c : ℕ) → m ≤ c → c < m + k → h c (n + k) ≡ false
  newest_given c a b = let e : m + (c - m) ≡ c = omega arith in rw e at (no_newest (c - m) (omega arith))

  pub others_given : others h (n + k) (m + k) ≡ count m (λ c. h c (n + k))
  unfolding others
  others_given = count_end m (m + k) (λ c. h c (n + k)) (omega arith) newest_given

  -- taking back leaves the other added checks
  pub back_added : (j b : ℕ) → j < k → taken_back h (n + k) (m + k) (m + j) b ≡ h (m + j) b
  back_added j b l =
      elim (ℕ_discrete b (n + k)) [
        | yes q ↦ rw q (back_bit h (n + k) (m + k) (m + j) ∙ sym (no_newest j l))
        | no d ↦ back_at h (n + k) (m + k) (m + j) b (λ q. omega arith) d ∙ rw (no_newest j l, or-false)
      ]
