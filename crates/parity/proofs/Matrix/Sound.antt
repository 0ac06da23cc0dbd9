-- What acceptance says of the matrix itself; a split keeps it, and so does orthogonalising. Assumes nothing.
use mathlib.Core.Path.{◌≡◌, sym, ◌∙◌}
use mathlib.Core.Bool.{and-eq-true_iff, false≢true}
use Prim.Native.Nat.{ℕ, suc, ◌+◌, ◌≤◌, ◌<◌}
use native.Mathlib.Nat.{add-suc}
use native.Mathlib.Omega.{arith}
use native.Mathlib.Decide.{ℕ_discrete}
use Rattle.parity.specs.Matrix.{Matrix, rule_at, rule_a}
use Rattle.parity.specs.Cycles.{share, split_of}
use Rattle.parity.specs.Sound.{Clean, Sound}
use Rattle.parity.proofs.Finite.Sums.{is_true, is_false, is, all_at}
use Rattle.parity.proofs.Splits.Split.{at_new_bit, at_other}
use Rattle.parity.proofs.Splits.Cycles.{new_other}
use Rattle.parity.proofs.Matrix.Rule.{Rule, rule, at_le, split_rule}

-- rule A for each added check, as facts
pub sound_rule : (h : Matrix) (n m k j : ℕ) → Sound h n m k → j < k → Rule h n m k j
unfolding rule_a
sound_rule h n m k j S l = (rule h n m k j l).0 (all_at k (rule_at h n m k) S.rule j l)

pub split_clean : (h : Matrix) (N M u v : ℕ) → u < N → v < N → Clean h N M → Clean (split_of h N M u v) (suc N) (suc M)
split_clean h N M u v un vn K = record {
  checks = λ c b l. elim (is (split_of h N M u v c b)) [
    | is_false q ↦ q
    | is_true q ↦ elim (ℕ_discrete b N) [
      | yes e ↦ absurd (false≢true (sym (K.checks c u (omega arith)) ∙ ((and-eq-true_iff (h c u) (h c v)).0
          (sym (at_new_bit h N M u v c (λ t. omega arith)) ∙ (rw e at q))).0))
      | no e ↦ absurd (false≢true (sym (K.checks c b (omega arith)) ∙ at_le h N M u v c b (λ t. omega arith) e q))
    ]
  ];
  bits = λ c b l. elim (ℕ_discrete c M) [
    | yes e ↦ rw e (new_other h N M u v b (λ t. omega arith) (λ t. omega arith) (λ t. omega arith))
    | no e ↦ at_other h N M u v c b e (λ t. omega arith) (λ t. omega arith) (λ t. omega arith) ∙ K.bits c b (omega arith)
  ];
}

-- A split keeps acceptance.
pub split_sound : (h : Matrix) (n m k u v : ℕ) → Sound h n m k → u < n + k → v < n + k → (u ≡ v → ⊥) → 2 ≤ share h (m + k) u v → k < 392
    → Sound (split_of h (n + k) (m + k) u v) n m (suc k)
split_sound h n m k u v S un vn uv s l = record {
  n1 = S.n1;
  n120 = S.n120;
  m120 = S.m120;
  k392 = l;
  clean = rw (add-suc n k, add-suc m k) (split_clean h (n + k) (m + k) u v un vn S.clean);
  rule = split_rule h n m k u v un vn uv s S.rule;
}
