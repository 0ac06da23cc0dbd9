-- The checks that hold a pair: carried where the share is above 0, and those that hold the new bit after the split. Assumes nothing.
use mathlib.Core.Path.{◌≡◌, refl, sym, ◌∙◌}
use mathlib.Core.Bool.{not, and-eq-true_iff}
use mathlib.Core.List.{List, []}
use Prim.Native.Nat.{ℕ, suc, ◌+◌, ◌-◌, ◌<◌}
use native.Mathlib.Nat.{add-suc}
use native.Mathlib.Omega.{arith}
use lib.Dec.{eqb}
use borrow.Author.Tests.{ne_eqb, eqb-false, not-true}
use Rattle.parity.specs.Matrix.{Matrix}
use Rattle.parity.specs.Cycles.{share, held_by, split_of, lower_bit, higher_bit, orthogonal}
use Rattle.parity.specs.CyclesPromises.{Names, holding, holding_beside}
use Rattle.parity.proofs.Finite.Sums.{is_true, is_false, is, any_of, count_at, count_pos}
use Rattle.parity.proofs.Finite.Firsts.{any_none}
use Rattle.parity.proofs.Finite.Outermost.{outermost_none, outermost_names, names_same}
use Rattle.parity.proofs.Splits.Split.{at_new_bit}
use Rattle.parity.proofs.Splits.Pick.{picked}
use Rattle.parity.proofs.Splits.Orthogonal.{keeps}

module _ (h : Matrix) (M u v : ℕ) where
  pub held_none : share h M u v ≡ 0 → held_by h M u v ≡ []
  unfolding share held_by
  held_none e = outermost_none M (holding h u v) (any_none M (holding h u v) (λ c l. elim (is (holding h u v c)) [
    | is_false q ↦ q
    | is_true q ↦ absurd (omega (arith, count_pos M (holding h u v) c l q))
  ]))

  pub held_names : 0 < share h M u v → Names M (holding h u v) (held_by h M u v)
  unfolding share held_by
  held_names l = let (c, k, e) = count_at M (holding h u v) l in outermost_names M (holding h u v) (any_of M (holding h u v) c k e)

-- After the split the same checks, besides its own, contain the new bit.
pub held_after : (h : Matrix) (N M u v : ℕ) (held : List ℕ) → Names M (holding h u v) held → Names (suc M) (holding_beside (split_of h N M u v) M N) held
held_after h N M u v = names_same M (holding h u v) (suc M) (holding_beside (split_of h N M u v) M N)
    (λ c l e. let d : c ≡ M → ⊥ = λ q. omega arith in (omega arith, rw (ne_eqb c M d, at_new_bit h N M u v c d) e))
    (λ c l e.
    let (a, b) = (and-eq-true_iff (not (eqb c M)) (split_of h N M u v c N)).0 e in
    let d = eqb-false c M (not-true (eqb c M) a) in
    (omega arith, sym (at_new_bit h N M u v c d) ∙ b))

-- What orthogonalising carries after some splits: none of either after none, and else the checks that hold the newest added bit.
pub record Carries (n m : ℕ) (h : Matrix) (k splits : ℕ) (held : List ℕ) : Type 0 where
  pub none : splits ≡ 0 → held ≡ []
  pub final : 0 < splits → Names (m + k) (holding_beside h (m + (k - 1)) (n + (k - 1))) held

pub orthogonal_carries : (n m turns : ℕ) (h : Matrix) (k : ℕ)
    → let o = orthogonal turns h n m k 0 0 [] in Carries n m o.matrix o.k o.splits o.held
orthogonal_carries n m turns h k = keeps n m (λ h k splits total held. Carries n m h k splits held)
    (λ h k splits total held C two q.
    let (l, r, s) = picked h (n + k) (m + k) (omega arith) in
    let e : suc k - 1 ≡ k = omega arith in
    record {
      none = λ z. absurd (omega arith);
      final = λ z. rw (e, add-suc m k) (held_after h (n + k) (m + k) (lower_bit h (n + k) (m + k)) (higher_bit h (n + k) (m + k)) _
          (held_names h (m + k) (lower_bit h (n + k) (m + k)) (higher_bit h (n + k) (m + k)) (omega arith)));
    })
    turns h k 0 0 [] record { none = λ e. refl; final = λ l. absurd (omega arith) }
