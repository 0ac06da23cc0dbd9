-- What the code reads of an accepted matrix to take back its newest split: the two lower bits, and that the split can be made again. Assumes nothing.
use mathlib.Core.Path.{◌≡◌, ◌∙◌}
use mathlib.Core.List.{List}
use Prim.Native.Nat.{ℕ, suc, ◌+◌, ◌-◌, ◌≤◌, ◌<◌}
use native.Mathlib.Omega.{arith}
use native.Mathlib.Decide.{dec_lt}
use Rattle.parity.specs.Matrix.{Matrix, lent, cause}
use Rattle.parity.specs.Cycles.{split_of, taken_back, lower_of, higher_of}
use Rattle.parity.specs.Sound.{Clean, Sound, Newest}
use Rattle.parity.proofs.Matrix.Accept.{accepts}
use Rattle.parity.proofs.Splits.Back.{back_clean}
use Rattle.parity.proofs.Splits.Given.{newest_given}
use Rattle.parity.proofs.Splits.Undo.{newest, pair_lower, pair_higher, pair_own, both, back_split}
use Rattle.rows.specs.Rows.{NextOne}
use Rattle.exchange.specs.Merge.{Apart}
use Rattle.exchange.specs.Back.{Newer}
use Rattle.exchange.proofs.ReadPair.{first_one, second_one}

pub record ReadBack (h : Matrix) (m N M u v : ℕ) : Type 0 where
  pub newer : Newer h m N M u v
  pub apart : Apart (taken_back h N M) m M u v
  pub clean : Clean (taken_back h N M) N M
  pub again : split_of (taken_back h N M) N M u v ≡ h

module _ (h : Matrix) (N M : ℕ) (R : Newest h N M) (small : N < 512) where
  -- the first bit of the check
  read_lower : (u : ℕ) → NextOne 512 (h M) 0 u → u ≡ lower_of h N M
  unfolding lower_of higher_of
  read_lower u F = first_one (h M) N R.two small u F

  -- and the next
  read_higher : (v : ℕ) → NextOne 512 (h M) (lower_of h N M + 1) v → v ≡ higher_of h N M
  unfolding lower_of higher_of
  read_higher v F = second_one (h M) N R.two small v F

module _ (h : Matrix) (n m j : ℕ) (S : Sound h n m (suc j)) where
  abbrev R : Newest h (n + j) (m + j)
  R = newest h n m j S

  small : n + j < 512
  small = omega (arith, S.n120, S.k392)

  pub read_first : (u : ℕ) → NextOne 512 (h (m + j)) 0 u → u + 1 ≤ 512
  read_first u F = omega (arith, read_lower h (n + j) (m + j) R small u F, pair_lower h (n + j) (m + j) R, pair_higher h (n + j) (m + j) R, small)

  pub read_back : (u v : ℕ) → NextOne 512 (h (m + j)) 0 u → NextOne 512 (h (m + j)) (u + 1) v → ReadBack h m (n + j) (m + j) u v
  read_back u v F G =
      let N = n + j in
      let M = m + j in
      let a = read_lower h N M R small u F in
      let b = read_higher h N M R small v (rw a at G) in
      let p = pair_lower h N M R in
      let q = pair_higher h N M R in
      rw (a, b) record {
        newer = record {
          behind = omega arith;
          below = (omega arith, q);
          own = pair_own h N M R;
          alone = λ c i d. elim (dec_lt c M) [ yes l ↦ newest_given h n m j S c i l | no l ↦ R.clean.checks c N (omega arith) ];
        };
        apart = record { never = λ c i l. both h N M R c l ∙ newest_given h n m j S c i l };
        clean = back_clean h N M R.clean;
        again = back_split h N M R;
      }

-- an accepted matrix with k above 0
pub sound_back : (ws : List ℕ) (n m k : ℕ) → cause ws n m k ≡ 0 → (k ≡ 0 → ⊥) → Sound (lent 8 ws) n m (suc (k - 1))
sound_back ws n m k a d = let e : suc (k - 1) ≡ k = omega arith in rw e ((accepts ws n m k).0 a).sound
