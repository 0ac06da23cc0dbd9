-- `rule::in_hamming` meets its contract. Assumes nothing.
use native.Mathlib.Omega.{arith}
use Rattle.parity.specs.House.{hamming}
use Rattle.parity.proofs.Matrix.Digits.{one_shl, bit_test}
use Rattle.house.proofs.rule.in_hamming.Goals as goal

pub returns : goal.returns
unfolding hamming
returns c = rw (one_shl c.args.c (omega arith)) (bit_test _ c.args.c)
