-- Sets that have no bit from a number on. Assumes nothing.
use mathlib.Core.Path.{◌≡◌, ◌∙◌}
use mathlib.Core.Bool.{Bool, false, ◌&&◌}
use mathlib.Core.List.{List}
use Prim.Native.Nat.{ℕ, ◌≤◌}
use native.Mathlib.Omega.{arith}
use native.Mathlib.Decide.{dec_lt}
use lib.Dec.{ltb}
use lib.ListN.{length}
use borrow.Author.Tests.{lt-ltb, le-ltb}
use Rattle.parity.specs.Matrix.{Matrix, lent}
use Rattle.parity.specs.Words.{inside}
use Rattle.parity.proofs.Words.Sets.{inside_below}
use Rattle.sets.specs.Sets.{SetOf, Short}

short_below : (N : ℕ) (s : ℕ → Bool) → ((a : ℕ) → N ≤ a → s a ≡ false) → (b : ℕ) → s b ≡ (ltb b N && s b)
short_below N s f b = elim (dec_lt b N) [ yes k ↦ rw (lt-ltb b N k) | no k ↦ rw (le-ltb b N (omega arith), f b (omega arith)) ]

pub inside_short : (h : Matrix) (B N c : ℕ) (s : ℕ → Bool) → N ≤ B → ((a : ℕ) → N ≤ a → s a ≡ false) → inside h B c s ≡ inside h N c s
inside_short h B N c s l f = inside_below h B N c s s l (short_below N s f)

pub short_wider : (N B : ℕ) (s : ℕ → Bool) → N ≤ B → Short N s → Short B s
short_wider N B s l f = record { none = λ b k. f.none b (omega arith) }

-- a set that bytes make has none of their number or above
pub set_short : (W : ℕ) (w : List ℕ) (v : ℕ) (r : List ℕ) → SetOf W w v r → Short (length w) (lent W r 0)
set_short W w v r S = record { none = λ b l. S.at b ∙ rw (le-ltb b (length w) l) }
