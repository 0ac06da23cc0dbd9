-- `pivots::even_from` meets its contract. Assumes nothing.
use mathlib.Core.Path.{sym, ◌∙◌}
use mathlib.Core.Bool.{false≢true}
use native.Mathlib.Omega.{arith}
use native.Mathlib.Decide.{ℕ_discrete}
use borrow.Author.Tests.{eqb-true, eqb-false}
use Rattle.parity.proofs.Words.Sets.{odd_even, not_odd_even}
use Rattle.pivots.proofs.even_from.Goals as goal

pub returns-then-is_odd : goal.returns-then-is_odd
returns-then-is_odd c = let l = c.loop-c in
    record {
      even = λ e. absurd (false≢true e);
      uneven = λ e. (l.c, l.invariant.0, omega arith, eqb-false _ 0 (odd_even _ (sym c.is_odd.ensures ∙ c.if-is_odd.true)));
    }

pub loop-c-preserved : goal.loop-c-preserved
loop-c-preserved c = let l = c.loop-c in (
  omega arith,
  λ i k m. elim (ℕ_discrete i l.c) [
    | yes q ↦ rw q (eqb-true _ 0 (not_odd_even _ (sym c.is_odd.ensures ∙ c.if-is_odd.false)))
    | no d ↦ l.invariant.1 i k (omega arith)
  ],
)
