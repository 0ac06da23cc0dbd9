-- Peeling a word that a codeword solves. Assumes nothing.
use mathlib.Core.Path.{◌≡◌, ap, ◌∙◌}
use mathlib.Core.Bool.{Bool, true, false}
use Prim.Native.Nat.{ℕ, ◌<◌}
use Rattle.parity.specs.Finite.{one}
use Rattle.parity.specs.Matrix.{Matrix}
use Rattle.parity.specs.Words.{residue, solves, erased, is_one, peels, peeled}
use Rattle.parity.proofs.Finite.Sums.{is_true, is_false, is}
use Rattle.parity.proofs.Words.Extend.{inside_cong}
use Rattle.parity.proofs.Words.Residue.{below, below_at, any_set_of, the_one, Solves, solve, unique}

module _ (h : Matrix) (N M : ℕ) (w : ℕ → ℕ) (y : ℕ → Bool) (s : Solves h N M (erased w) (residue h N M (erased w)) (is_one w) y) where
  found : solves h N M (erased w) (residue h N M (erased w)) (is_one w) (below N y) ≡ true
  found = (solve h N M (erased w) (residue h N M (erased w)) (is_one w) (below N y)).1 record {
    known = λ b k q. below_at N y b k ∙ s.known b k q;
    even = λ c k q. rw (inside_cong h N c (below_at N y)) (s.even c k q);
  }

  pub peels_solved : peels h N M w ≡ true
  unfolding peels
  peels_solved = any_set_of N _ y found

  pub peeled_left : (b : ℕ) → residue h N M (erased w) b ≡ true → peeled h N M w b ≡ 2
  unfolding peeled
  peeled_left b e = rw e

  pub peeled_value : (b : ℕ) → b < N → residue h N M (erased w) b ≡ false → peeled h N M w b ≡ one (y b)
  unfolding peeled
  peeled_value b k e = rw e (ap one (the_one N (solves h N M (erased w) (residue h N M (erased w)) (is_one w)) y found b k
      (λ z t. unique h N M (erased w) (is_one w) z y ((solve h N M (erased w) (residue h N M (erased w)) (is_one w) z).0 t) s b k e)))

  pub right_value : (b : ℕ) → b < N → (peeled h N M w b ≡ 2 → ⊥) → peeled h N M w b ≡ one (y b)
  right_value b k q =
      elim (is (residue h N M (erased w) b))
      [ is_true e ↦ absurd (q (peeled_left b e)) | is_false e ↦ peeled_value b k e ]
