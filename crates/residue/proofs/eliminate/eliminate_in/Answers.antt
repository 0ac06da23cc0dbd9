-- `eliminate::eliminate_in` meets its contract. Assumes nothing.
use Prim.Native.Nat.{◌≤◌}
use native.Mathlib.Omega.{arith}
use lib.ListN.{length}
use Rattle.pivots.proofs.Writing.{pivots_front}
use Rattle.residue.proofs.Solving.{rows_none, rows_some}
use Rattle.residue.proofs.eliminate.eliminate_in.Goals as goal

pub returns-then-not-even_from : goal.returns-then-not-even_from
returns-then-not-even_from c = let e = c.even_from in
    rows_none _ _ _ _ _ _ _ _ c.requires.0 _ _ _ _ _ c.gather-count.ensures c.reduce_in-r.ensures (rw c.if-not-even_from.true at e.ensures)

pub returns : goal.returns
returns c = let e = c.even_from in
    let d = c.reduce_in-r in
    let room : d.result ≤ length d.new.pivots = omega (arith, d.ensures.form.few, c.gather-count.ensures.few, c.requires.2, d.auto.pivots) in
    rows_some _ _ _ _ _ _ _ _ c.requires.0 _ _ _ _ _ c.gather-count.ensures d.ensures (rw c.if-not-even_from.false at e.ensures) _ _
    (pivots_front d.result d.new.pivots room _ _ _ _ _ _ _ _ c.write_pivots.ensures)
