-- `word_of` meets its contract. Assumes nothing.
use Rattle.std.proofs.Common.{rules}
use Prim.Native.Nat.{◌*◌, ◌-◌, ◌<◌}
use mathlib.Core.Path.{refl}
use native.Mathlib.Omega.{arith}
use Rattle.parity.proofs.Matrix.Digits.{one_shl}
use Rattle.sets.proofs.Making.{upto_none, upto_in, upto_out}
use Rattle.sets.proofs.word_of.Goals as goal
use Rattle.sets.proofs.word_of.Goals.{then-bytes-b, else-bytes-b}

pub loop-b-init : goal.loop-b-init
loop-b-init c = (refl, search rules, omega arith, omega arith, upto_none _ _ _)

pub loop-b-preserved : goal.loop-b-preserved
loop-b-preserved c = let l = c.loop-b in (
  refl,
  search rules,
  omega arith,
  omega arith,
  (elim c.if-bytes-b.branch [ then-bytes-b w ↦ let k : l.b - c.args.i * 64 < 64 = omega arith in rw (w.x-is, one_shl _ k) (upto_in _ _ _ _ _ l.invariant.4 (omega arith) w.if-bytes-b.true) | else-bytes-b w ↦ rw w.x-is (upto_out _ _ _ _ _ l.invariant.4 w.if-bytes-b.false) ]),
)
