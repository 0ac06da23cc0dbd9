-- `gather::gather` meets its contract. Assumes nothing.
use mathlib.Core.Path.{refl, ◌∙◌}
use native.Mathlib.Omega.{arith}
use lib.Dec.{lit<}
use Rattle.parity.specs.Matrix.{lent}
use Rattle.parity.specs.Joining.{joined}
use Rattle.join.proofs.Rows.{rows_first, joined_next, gathered_many}
use Rattle.std.specs.Prelude.{Some, None}
use Rattle.join.specs.Rows.{Added}
use Rattle.join.proofs.gather.gather.Goals as goal

pub loop-c-init : goal.loop-c-init
unfolding joined
loop-c-init c = let E = c.copy_rows in (
  omega arith,
  c.requires.1,
  E.auto.rows ∙ c.requires.4,
  refl,
  rows_first 2 8 (lit< tt) (omega arith) c.args.words1.now _ c.args.m1 c.requires.0 (λ i. (c.type_inv.words1 i).fits) (omega (arith, c.requires.1)) E.ensures,
)

pub returns-in_err-at : goal.returns-in_err-at
returns-in_err-at c = let l = c.loop-c in
    let A : Added c.args.words2.now l.c l.rows l.at c.add.new.rows None = c.in_err-at.ensures in
    rw c.from_residual.ensures (gathered_many (lent 8 c.args.words1.now) c.args.m1 (lent 8 c.args.words2.now) l.c c.args.m2 (omega arith) (A.added _ l.invariant.3 l.invariant.4))

pub loop-c-preserved : goal.loop-c-preserved
loop-c-preserved c = let l = c.loop-c in
    let A : Added c.args.words2.now l.c l.rows l.at c.add.new.rows (Some c.in_ok-at.at) = c.in_ok-at.ensures in
    let G = A.added _ l.invariant.3 l.invariant.4 in
    let e = joined_next 128 (lent 8 c.args.words1.now) c.args.m1 (lent 8 c.args.words2.now) l.c in
    (omega arith, G.few, c.add.auto.rows ∙ l.invariant.2, rw e G.number, rw e G.held)
