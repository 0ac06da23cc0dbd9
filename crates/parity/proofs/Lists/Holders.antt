-- The checks that the share call, a split and an orthogonalise carry, as these calls answer and leave. Assumes nothing.
use mathlib.Core.Path.{◌≡◌, sym, ap, ◌∙◌}
use mathlib.Core.List.{List, ◌∷◌}
use Prim.Native.Nat.{ℕ, suc, ◌+◌, ◌-◌}
use native.Mathlib.Nat.{add-suc}
use native.Mathlib.Omega.{arith}
use native.Mathlib.Decide.{ℕ_discrete}
use lib.ListN.{get_or, drop}
use Rattle.parity.specs.Matrix.{lent, cause}
use Rattle.parity.specs.Cycles.{share, held_by, Orthogonalised}
use Rattle.parity.specs.Causes.{Reply, answer, Outcome}
use Rattle.parity.specs.Calls.{not_pair, share_reply, orthogonalised_reply, orthogonalising}
use Rattle.parity.specs.CyclesPromises.{ShareHolders, SplitHolders, OrthogonaliseHolders}
use Rattle.parity.proofs.Finite.Sums.{is_true, is_false, is}
use Rattle.parity.proofs.Matrix.Accept.{accepts, accepting_answers, accepting_refuses}
use Rattle.parity.proofs.Splits.Splitting.{split_made, split_lent, orthogonalises, orthogonal_lent}
use Rattle.parity.proofs.Splits.Holders.{held_none, held_names, held_after, orthogonal_carries}
use Rattle.parity.proofs.Lists.Chain.{refused, made, split_case, answered}

pub share_holders : ShareHolders
unfolding share_reply
share_holders ws n m k u v s held e =
    elim (ℕ_discrete (cause ws n m k) 0) [
      | no d ↦ absurd (d (ap (λ (r : Reply). r.number) (sym (accepting_refuses ws n m k _ d) ∙ e)))
      | yes a ↦ elim (is (not_pair (n + k) u v)) [
        | is_true p ↦ absurd (omega (arith, ap (λ (r : Reply). r.number) (rw (accepting_answers ws n m k _ a, p) at e)))
        | is_false p ↦
            let r : answer (share (lent 8 ws) (m + k) u v ∷ held_by (lent 8 ws) (m + k) u v) ≡ answer (s ∷ held) = rw (accepting_answers ws n m k _ a, p) at e in
            let x : share (lent 8 ws) (m + k) u v ≡ s = ap (λ (r : Reply). get_or r.values 0 0) r in
            let y : held_by (lent 8 ws) (m + k) u v ≡ held = ap (λ (r : Reply). drop 1 r.values) r in
            rw (← y) (λ z. held_none (lent 8 ws) (m + k) u v (omega arith), λ z. held_names (lent 8 ws) (m + k) u v (omega arith))
      ]
    ]

pub split_holders : SplitHolders
split_holders ws n m k u v s k' held e =
    let A = (accepts ws n m k).0 (answered ws n m k u v s k' held e) in
    elim (split_case ws n m k u v A) [
      | refused i vs f ↦ absurd (omega (arith, ap (λ (r : Reply). r.number) (sym (ap (λ (o : Outcome). o.reply) f) ∙ e)))
      | made p t l ↦
          let f = split_made ws n m k A u v p t l in
          let r = sym (ap (λ (o : Outcome). o.reply) f) ∙ e in
          let x : suc k ≡ k' = ap (λ (r : Reply). get_or r.values 1 0) r in
          let y : held_by (lent 8 ws) (m + k) u v ≡ held = ap (λ (r : Reply). drop 2 r.values) r in
          let N = held_names (lent 8 ws) (m + k) u v (omega arith) in
          rw (f, ← x, ← y) (N, rw (split_lent ws n m k A u v p t l, add-suc m k) (held_after (lent 8 ws) (n + k) (m + k) u v _ N))
    ]

-- finished or refused 9
carried : (o : Orthogonalised) → (orthogonalised_reply o).values ≡ o.splits ∷ o.sum ∷ o.k ∷ o.held
unfolding orthogonalised_reply
carried o = elim (is o.finished) [ is_true q ↦ rw q | is_false q ↦ rw q ]

pub orthogonalise_holders : OrthogonaliseHolders
orthogonalise_holders ws n m k splits total k' held a e =
    let A = (accepts ws n m k).0 a in
    let o = orthogonalising ws n m k in
    let f = orthogonalises ws n m k A in
    let r = sym (carried o) ∙ sym (ap (λ (o : Outcome). o.reply.values) f) ∙ e in
    let x : o.splits ≡ splits = ap (λ (vs : List ℕ). get_or vs 0 0) r in
    let y : o.k ≡ k' = ap (λ (vs : List ℕ). get_or vs 2 0) r in
    let z : o.held ≡ held = ap (λ (vs : List ℕ). drop 3 vs) r in
    let C = orthogonal_carries n m (393 - k) (lent 8 ws) k in
    rw (f, ← x, ← y, ← z) (C.none, rw (orthogonal_lent ws n m k A) C.final)
