-- `both_at` meets its contract. Assumes nothing.
use mathlib.Core.Path.{refl}
use Prim.Native.Nat.{◌+◌, ◌*◌}
use native.Mathlib.Nat.{lt_of_le_of_lt}
use lib.Bits.{and_le_r}
use lib.ListN.{get_or}
use Rattle.rows.specs.Zeros.{both}
use Rattle.pairs.proofs.held.both_at.Goals as goal

pub returns : goal.returns
unfolding both
returns c = let s = c.args in
    let y = s.j * s.width + s.p in
    (refl, lt_of_le_of_lt (and_le_r (get_or s.a.now (s.i * s.width + s.p) 0) (get_or s.b.now y 0)) (c.type_inv.b y).fits)
