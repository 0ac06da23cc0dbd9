-- What is read off the reduced rows, and what rank answers. Assumes nothing.
use mathlib.Core.Path.{◌≡◌, sym, ap}
use mathlib.Core.List.{List, [], ◌∷◌}
use Prim.Native.Nat.{ℕ, ◌*◌, ◌%◌, ◌≤◌}
use native.Mathlib.Omega.{arith}
use lib.Dec.{eqb}
use borrow.Author.Tests.{lt-ltb}
use Rattle.parity.specs.Matrix.{Matrix, lent}
use Rattle.parity.specs.Words.{inside, even_checks}
use Rattle.parity.specs.Encoding.{rank_of}
use Rattle.parity.specs.Causes.{answer, refusal_of}
use Rattle.parity.specs.Calls.{accept_reply, rank_reply}
use Rattle.parity.specs.declared.Refusal.{Refusal}
use Rattle.parity.specs.declared.Refusal.TheVariants.{AddedBits}
use Rattle.parity.proofs.Finite.Sums.{count_cong}
use Rattle.parity.proofs.Finite.Firsts.{all_cong}
use Rattle.parity.proofs.Matrix.Accept.{Accepted, passes}
use Rattle.parity.proofs.Causes.Refused.{refused_same}
use Rattle.rows.specs.Whole.{RowsCopied}
use Rattle.rows.proofs.Writing.{rows_lent}
use Rattle.elimination.specs.Reduction.{Same, Echelon}
use Rattle.elimination.proofs.Clearing.{same_trans}
use Rattle.rank.proofs.Pivots as pivots

-- a copy has the codewords of the lent matrix
copy_same : (U W : ℕ) → W ≤ U → (ws u : List ℕ) (n m : ℕ) → n ≤ W * 64 → RowsCopied U W ws u m → Same (lent U ws) (lent W u) n m
unfolding even_checks inside
copy_same U W p ws u n m k C x = all_cong m (λ c l. ap (λ a. eqb (a % 2) 0)
    (count_cong n (λ b i. rw (rows_lent U W p ws u m C c b l (omega arith)))))

pub eliminated : (U W : ℕ) → W ≤ U → (ws u : List ℕ) (g : Matrix) (n m r : ℕ) (at : List ℕ) → n ≤ W * 64 → RowsCopied U W ws u m
    → Echelon (lent W u) g n m n r at → Echelon (lent U ws) g n m n r at
eliminated U W p ws u g n m r at k C E =
    let S = copy_same U W p ws u n m k C in
    record {
      same = same_trans (lent U ws) (lent W u) g n m S E.same;
      own = E.own;
      first = E.first;
      whole = E.whole;
      reduction = record { same = same_trans (lent U ws) (lent W u) E.whole n m S E.reduction.same; form = E.reduction.form };
      rest = E.rest;
    }

pub is_rank : (h g : Matrix) (n m r : ℕ) (at : List ℕ) → Echelon h g n m n r at → r ≡ rank_of h n m
is_rank h g n m r at E = sym (pivots.ranks h E.whole n m r _ E.reduction.form E.reduction.same)

-- the call
module _ (ws : List ℕ) (n m k : ℕ) where
  pub rank_first : (r : Refusal) → refusal_of r ≡ accept_reply ws n m k → refusal_of r ≡ rank_reply ws n m k
  unfolding rank_reply
  rank_first r e = refused_same ws n m k r _ e

  module _ (A : Accepted ws n m k) where
    pub rank_added : (k ≡ 0 → ⊥) → refusal_of AddedBits ≡ rank_reply ws n m k
    unfolding rank_reply
    rank_added d = rw (passes ws n m k A _, lt-ltb 0 k (omega (arith, d)))

    pub rank_told : k ≡ 0 → (r : ℕ) → r ≡ rank_of (lent 8 ws) n m → answer (r ∷ []) ≡ rank_reply ws n m k
    unfolding rank_reply
    rank_told e r q = rw (passes ws n m k A _, e, q)
