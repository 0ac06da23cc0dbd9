-- `mend::main` meets its contract. Assumes nothing.
use mathlib.Core.Path.{sym}
use native.Mathlib.Omega.{arith}
use lib.Seq.{length-take-le}
use Rattle.lines.proofs.Pieces.{same_size}
use Rattle.mend.proofs.main.Goals as goal

pub slice_bounds-output-end : goal.slice_bounds-output-end
slice_bounds-output-end c = let f = c.put_text-size.ensures in
    omega (arith, f.room, same_size f)

pub slice_bounds-write_all-end : goal.slice_bounds-write_all-end
slice_bounds-write_all-end c = let p = c.put_text-size in
    sym (length-take-le p.result p.new.out (omega (arith, p.ensures.room, same_size p.ensures)))
