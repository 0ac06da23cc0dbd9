-- `losses::losses_of` meets its contract. Assumes nothing.
use native.Mathlib.Omega.{arith}
use Rattle.parity.specs.Matrix.{lent}
use Rattle.sets.proofs.Sizes.{fewer_left, losses_sizes}
use Rattle.sets.proofs.losses.losses_of.Goals as goal

pub overflow_sub-result : goal.overflow_sub-result
overflow_sub-result c = let (x, y) = c.sizes_of-before.ensures in
    let (z, u) = c.sizes_of-after.ensures in
    (fewer_left 512 c.args.n (lent 8 c.args.lost.now 0) (lent 8 c.args.left.now 0) (omega (arith, c.requires.2)) c.requires.3 _ _ _ _ x y z u).0

pub overflow_sub-result-2 : goal.overflow_sub-result-2
overflow_sub-result-2 c = let (x, y) = c.sizes_of-before.ensures in
    let (z, u) = c.sizes_of-after.ensures in
    (fewer_left 512 c.args.n (lent 8 c.args.lost.now 0) (lent 8 c.args.left.now 0) (omega (arith, c.requires.2)) c.requires.3 _ _ _ _ x y z u).1

pub returns : goal.returns
returns c = let (x, y) = c.sizes_of-before.ensures in
    let (z, u) = c.sizes_of-after.ensures in
    losses_sizes 512 c.args.n (lent 8 c.args.lost.now 0) (lent 8 c.args.left.now 0) (omega (arith, c.requires.2)) c.requires.3 _ _ _ _ x y z u
