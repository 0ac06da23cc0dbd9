-- `make_pivot_in` meets its contract. Assumes nothing.
use mathlib.Core.Path.{◌≡◌, sym, ap, ◌∙◌}
use Rattle.parity.specs.Matrix.{lent}
use Rattle.elimination.specs.Reduction.{lifted, around}
use Rattle.elimination.proofs.Clearing.{lifted_one, lifted_two}
use Rattle.elimination.proofs.make_pivot_in.Goals as goal
use Rattle.elimination.proofs.make_pivot_in.Goals.{then-p-r, else-p-r}

pub returns : goal.returns
returns c =
    let g = lent c.args.width c.args.rows.now in
    -- where the arms meet, check p is added to check r, if it is another one
    let joined : lent c.args.width c.if-p-r.rows ≡ lifted c.args.p c.args.r g =
    elim c.if-p-r.branch [
      | then-p-r w ↦ rw w.rows-is (w.add_check.ensures ∙ sym (lifted_two c.args.p c.args.r g w.if-p-r.true))
      | else-p-r w ↦ rw w.rows-is (sym (lifted_one c.args.p c.args.r g w.if-p-r.false))
    ] in
    c.clear_around.ensures ∙ ap (around c.args.first c.args.checks c.args.r c.args.b) joined
