-- `emit::Rows::put_check` meets its contract. Assumes nothing.
use Prim.Native.Nat.{◌*◌}
use native.Mathlib.Omega.{arith}
use lib.ListN.{length-set}
use Rattle.parity.specs.Matrix.{lent}
use Rattle.parity.proofs.Finite.Sums.{count_bound}
use Rattle.writing.proofs.Emitting.{check_length, wrote_check}
use Rattle.writing.proofs.emit.Rows.put_check.Goals as goal

pub opening_word-requires : goal.opening_word-requires
opening_word-requires c = (c.requires.width_in_bounds.1, omega (arith, c.requires.width_in_bounds, c.weight.ensures, count_bound (c.args.self.used * 64) (lent c.args.self.width c.args.self.words.now c.args.c.0)))

pub bounds-target-p : goal.bounds-target-p
bounds-target-p c = omega (arith, c.requires.used_in_bounds, check_length c.args.form c.args.c.0 (lent c.args.self.width c.args.self.words.now c.args.c.0) (c.args.self.used * 64))

pub put_row-requires : goal.put_row-requires
put_row-requires c = record { width_in_bounds = c.requires.width_in_bounds.0; used_in_bounds = omega (arith, c.requires.used_in_bounds, check_length c.args.form c.args.c.0 (lent c.args.self.width c.args.self.words.now c.args.c.0) (c.args.self.used * 64), length-set c.args.target.now c.args.p c.opening_word.result) }

pub returns : goal.returns
returns c = wrote_check _ _ _ _ _ _ _ _ _ _ c.opening_word.ensures c.weight.ensures c.put_row.ensures
