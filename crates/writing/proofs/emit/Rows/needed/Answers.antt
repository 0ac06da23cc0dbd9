-- `emit::Rows::needed` meets its contract. Assumes nothing.
use Prim.Native.Nat.{◌*◌}
use native.Mathlib.Numerals.{add-one}
use native.Mathlib.Omega.{arith}
use Rattle.parity.specs.Matrix.{lent}
use Rattle.parity.specs.Finite.{sum}
use Rattle.parity.proofs.Finite.Sums.{count_bound}
use Rattle.writing.proofs.emit.Rows.needed.Goals as goal

pub loop-c-init : goal.loop-c-init
loop-c-init c = unfold sum in (omega arith, omega arith, omega arith)

pub overflow_add-total : goal.overflow_add-total
overflow_add-total c = omega (arith, c.weight.ensures, count_bound (c.args.self.used * 64) (lent c.args.self.width c.args.self.words.now c.loop-c.c))

pub overflow_add-total-in-loop-c : goal.overflow_add-total-in-loop-c
overflow_add-total-in-loop-c c = omega (arith, c.weight.ensures, count_bound (c.args.self.used * 64) (lent c.args.self.width c.args.self.words.now c.loop-c.c))

pub loop-c-preserved : goal.loop-c-preserved
loop-c-preserved c = let l = c.loop-c in
    let h = lent c.args.self.width c.args.self.words.now in (
      omega arith,
      omega (arith, c.weight.ensures, count_bound (c.args.self.used * 64) (h l.c)),
      rw (add-one l.c) (unfold sum in omega (arith, c.weight.ensures)),
    )
