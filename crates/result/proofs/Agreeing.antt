-- Whether each check without an erased bit is even, check by check. Assumes nothing.
use mathlib.Core.Path.{◌≡◌, refl}
use mathlib.Core.Bool.{Bool, true, false, not, or-true}
use Prim.Native.Nat.{ℕ, ◌+◌, ◌≤◌, ◌<◌}
use lib.Dec.{eqb}
use Rattle.parity.specs.Finite.{all}
use Rattle.parity.specs.Matrix.{Matrix}
use Rattle.parity.specs.Words.{inside, odd}
use Rattle.parity.proofs.Finite.Sums.{all_more, all_false}
use Rattle.parity.proofs.Finite.Firsts.{all_cong}
use Rattle.parity.proofs.Words.Sets.{odd_even, not_odd_even}
use Rattle.sets.specs.Sets.{Short}
use Rattle.sets.proofs.Short.{inside_short}
use Rattle.result.specs.Result.{agreeing}

module _ (h : Matrix) (N : ℕ) (e o : ℕ → Bool) where
  pub agreeing_none : agreeing h N 0 e o ≡ true
  unfolding agreeing all
  agreeing_none = refl

  -- an odd check without an erased bit
  pub agreeing_not : (M c : ℕ) → c < M → odd (inside h N c o) ≡ true → not (eqb (inside h N c e) 0) ≡ false → agreeing h N M e o ≡ false
  unfolding agreeing
  agreeing_not M c k p q = all_false M _ c k (rw q (odd_even _ p))

  module _ (c : ℕ) (before : agreeing h N c e o ≡ true) where
    -- an even one
    pub agreeing_even : odd (inside h N c o) ≡ false → agreeing h N (c + 1) e o ≡ true
    unfolding agreeing
    agreeing_even p = all_more c _ before (rw (not_odd_even _ p, or-true))

    -- one with an erased bit
    pub agreeing_erased : not (eqb (inside h N c e) 0) ≡ true → agreeing h N (c + 1) e o ≡ true
    unfolding agreeing
    agreeing_erased q = all_more c _ before (rw q)

-- sets of the first N bits agree by these bits
pub agreeing_wider : (h : Matrix) (N B M : ℕ) (e o : ℕ → Bool) → N ≤ B → Short N e → Short N o → agreeing h N M e o ≡ agreeing h B M e o
unfolding agreeing
agreeing_wider h N B M e o l f g = all_cong M (λ c k. rw (inside_short h B N c e l f.none, inside_short h B N c o l g.none))
