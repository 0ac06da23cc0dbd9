-- The two bits of a set of two, as the search for the next one finds them. Assumes nothing.
use mathlib.Core.Path.{◌≡◌, sym, ◌∙◌}
use mathlib.Core.Bool.{Bool, true, ◌&&◌, true≢false}
use Prim.Native.Nat.{ℕ, ◌+◌, ◌≤◌, ◌<◌}
use native.Mathlib.Omega.{arith}
use native.Mathlib.Decide.{dec_lt}
use lib.Dec.{ltb}
use borrow.Author.Tests.{lt-ltb}
use Rattle.parity.specs.Finite.{count, least}
use Rattle.parity.proofs.Finite.Firsts.{least_min}
use Rattle.parity.proofs.Splits.Undo.{lower_at, higher_at}
use Rattle.rows.specs.Rows.{NextOne}

module _ (s : ℕ → Bool) (N : ℕ) (two : count N s ≡ 2) (small : N < 512) where
  abbrev a : ℕ
  a = least N s

  abbrev b : ℕ
  b = least N (λ i. ltb a i && s i)

  pub first_one : (u : ℕ) → NextOne 512 s 0 u → u ≡ a
  first_one u F =
      let (l, e) = lower_at N s two in
      let i : u ≤ a = below l e in
      let j = least_min N s u (omega arith) (F.found (omega arith)) in
      omega arith
    where
      below : a < N → s a ≡ true → u ≤ a
      below l e = elim (dec_lt a u) [ no q ↦ omega arith | yes q ↦ absurd (true≢false (sym e ∙ F.none a (omega arith) q)) ]

  pub second_one : (v : ℕ) → NextOne 512 s (a + 1) v → v ≡ b
  second_one v F =
      let (i, l, e) = higher_at N s two in
      let j : v ≤ b = below i l e in
      let k = least_min N (λ i. ltb a i && s i) v (omega arith) (rw (lt-ltb a v (omega (arith, F.least)), F.found (omega arith))) in
      omega arith
    where
      below : a < b → b < N → s b ≡ true → v ≤ b
      below i l e = elim (dec_lt b v) [ no q ↦ omega arith | yes q ↦ absurd (true≢false (sym e ∙ F.none b (omega arith) q)) ]
