-- `too_large` meets its contract. Assumes nothing.
use Rattle.parity.proofs.Soft.Sound.{small_finite}
use mathlib.Core.Bool.{not}
use mathlib.Core.Path.{ap}
use Rattle.soft.proofs.floats.too_large.Goals as goal

pub returns : goal.returns
returns c = rw c.magnitude_of.ensures (ap not (small_finite _))
