-- Checks gathered into rows, one after the other. Assumes nothing.
use mathlib.Core.Path.{◌≡◌, sym, ◌∙◌}
use mathlib.Core.Bool.{Bool, false, not}
use mathlib.Core.List.{List}
use Prim.Native.Nat.{ℕ, ◌+◌, ◌*◌, ◌≤◌, ◌<◌}
use native.Mathlib.Nat.{zero-mul}
use native.Mathlib.Omega.{arith}
use native.Mathlib.Decide.{ℕ_discrete}
use lib.Dec.{eqb}
use borrow.Author.Tests.{eqb-true, not-false}
use Rattle.parity.specs.Matrix.{Matrix, lent}
use Rattle.parity.specs.Words.{inside}
use Rattle.parity.proofs.Matrix.Lent.{lent_in}
use Rattle.residue.specs.Rows.{Gathered}

-- a set, by fewer words
pub narrow : (W U : ℕ) → W ≤ U → (s : List ℕ) (b : ℕ) → b < W * 64 → lent W s 0 b ≡ lent U s 0 b
narrow W U k s b l = rw (lent_in W s 0 b l, lent_in U s 0 b (omega arith), zero-mul W, zero-mul U)

-- a check that does not touch a set
pub not_touched : (x : ℕ) (r : Bool) → r ≡ not (eqb x 0) → r ≡ false → x ≡ 0
not_touched x r e q = eqb-true x 0 (not-false _ (sym e ∙ q))

pub gathered_none : (h g : Matrix) (B : ℕ) (e : ℕ → Bool) → Gathered h g B 0 e 0
gathered_none h g B e = record { few = omega arith; from = λ d l. absurd (omega arith); all = λ c l. absurd (omega arith) }

module _ (h g : Matrix) (B c : ℕ) (e : ℕ → Bool) (L : ℕ) (G : Gathered h g B c e L) where
  -- check c does not touch the set
  pub gathered_past : inside h B c e ≡ 0 → Gathered h g B (c + 1) e L
  gathered_past q = record {
    few = omega (arith, G.few);
    from = λ d l. let (a, k, C) = G.from d l in (a, omega arith, C);
    all = λ a l t. elim (ℕ_discrete a c) [ yes s ↦ absurd (t (rw s q)) | no s ↦ G.all a (omega arith) t ];
  }

  -- check c is row L of k, whose rows before it are those of g
  pub gathered_more : (k : Matrix) → ((b : ℕ) → b < B → k L b ≡ h c b) → ((d b : ℕ) → d < L → b < B → k d b ≡ g d b) → Gathered h k B (c + 1) e (L + 1)
  gathered_more k here kept = record {
    few = omega (arith, G.few);
    from = λ d l. elim (ℕ_discrete d L) [
      | yes s ↦ (c, omega arith, rw s record { same = here })
      | no s ↦ let (a, i, C) = G.from d (omega arith) in (a, omega arith, record { same = λ b j. kept d b (omega arith) j ∙ C.same b j })
    ];
    all = λ a l t. elim (ℕ_discrete a c) [
      | yes s ↦ (L, omega arith, rw s record { same = here })
      | no s ↦ let (d, i, C) = G.all a (omega arith) t in (d, omega arith, record { same = λ b j. kept d b i j ∙ C.same b j })
    ];
  }
