-- `pairs::byte` meets its contract. Assumes nothing.
use mathlib.Core.Path.{refl}
use Rattle.parity.proofs.Words.Bytes.{right_bytes}
use Rattle.sets.proofs.pairs.byte.Goals as goal

pub returns : goal.returns
returns c = (refl, (right_bytes 2 _).0 c.requires.1 _ c.requires.0)
