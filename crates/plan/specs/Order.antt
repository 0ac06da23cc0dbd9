-- The order in which peeling solves checks: it depends on the lost bits alone, and is the same for every set of ones. Assumes nothing.
use Rattle.std.specs.Prelude.{◌≡◌, Bool, true, false, not, ◌&&◌, ◌||◌, List, ℕ, ◌+◌, ◌≤◌, ◌<◌, eqb, ltb, get_or, set}
use Rattle.parity.specs.Finite.{count}
use Rattle.parity.specs.Matrix.{Matrix}
use Rattle.parity.specs.Words.{inside, odd}
use Rattle.search.specs.Next.{NoSingle}
use Rattle.steps.specs.Steps.{Reached}
use Rattle.lanes.specs.declared.Step.{Step}
use Rattle.lanes.specs.Lanes.{ran, Low, checks_of, bits_of}
use Rattle.pivots.specs.Pivots.{PivotsWritten}

-- step s is noted, by which check c solves bit b
abbrev pub Noted : List Step → List Step → ℕ → ℕ → ℕ → Type 0
Noted steps steps' s c b = (checks_of steps' ≡ set (checks_of steps) s c) × (bits_of steps' ≡ set (bits_of steps) s b)

-- no bit is in both sets
pub record Free (e o : ℕ → Bool) : Type 0 where
  pub none : (a : ℕ) → e a ≡ true → o a ≡ false

-- Check d has none of the bits e', and is even after the steps, whatever the ones were.
pub record Even (h : Matrix) (B : ℕ) (e e' : ℕ → Bool) (cs bs : List ℕ) (s d : ℕ) : Type 0 where
  pub gone : inside h B d e' ≡ 0
  pub even : (o : ℕ → Bool) → Free e o → odd (inside h B d (ran h B cs bs s o)) ≡ false

-- The first s steps lead from the erased bits e to e', whatever the ones are; `done` has checks that they solved.
pub record Ordered (h : Matrix) (B M : ℕ) (e e' : ℕ → Bool) (cs bs : List ℕ) (s : ℕ) (done : ℕ → Bool) : Type 0 where
  pub checks : Low s M cs
  pub bits : Low s B bs
  pub fewer : s + count B e' ≡ count B e
  pub within : (a : ℕ) → e' a ≡ true → e a ≡ true
  pub lost : (i : ℕ) → i < s → e (get_or bs i 0) ≡ true
  pub reached : (o : ℕ → Bool) → Reached h B M e o e' (ran h B cs bs s o)
  pub free : (o : ℕ → Bool) → Free e o → Free e' (ran h B cs bs s o)
  pub even : (d : ℕ) → done d ≡ true → Even h B e e' cs bs s d

-- and no check has exactly one erased bit
pub record Settling (h : Matrix) (B M : ℕ) (e e' : ℕ → Bool) (cs bs : List ℕ) (s : ℕ) (done : ℕ → Bool) : Type 0 where
  pub order : Ordered h B M e e' cs bs s done
  pub over : NoSingle h B M 0 e'

-- the checks with one of the bits e join the set
pub record Joined (h : Matrix) (B M : ℕ) (e done done' : ℕ → Bool) : Type 0 where
  pub at : (d : ℕ) → done' d ≡ (done d || (ltb d M && not (eqb (inside h B d e) 0)))

-- The rows of the first r pivots that have no other of the bits e are listed, with their pivots: the steps write these pivots, whatever the ones are.
pub record Listed (g : Matrix) (B : ℕ) (e : ℕ → Bool) (pivots : List ℕ) (r : ℕ) (l l' : ℕ → Bool) (cs bs : List ℕ) (s : ℕ) : Type 0 where
  pub few : s ≤ r
  pub rows : Low s r cs
  pub bits : (n : ℕ) → Low r n pivots → Low s n bs
  pub written : (o : ℕ → Bool) → PivotsWritten g B e o pivots r l o l' (ran g B cs bs s o)

-- the first r rows have no pivot of another of them
pub record Own (g : Matrix) (r : ℕ) (pivots : List ℕ) : Type 0 where
  pub other : (c d : ℕ) → c < r → d < r → (d ≡ c → ⊥) → g d (get_or pivots c 0) ≡ false

-- Peeling is over: `skip` has the checks that its steps solved, and those that still have an erased bit.
pub record Peeled (h : Matrix) (B M : ℕ) (e e' : ℕ → Bool) (cs bs : List ℕ) (s : ℕ) (skip : ℕ → Bool) : Type 0 where
  pub done : ℕ → Bool
  pub settling : Settling h B M e e' cs bs s done
  pub joined : Joined h B M e' done skip
