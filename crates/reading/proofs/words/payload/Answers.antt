-- `words::payload` meets its contract. Assumes nothing.
use mathlib.Core.Path.{refl}
use Rattle.parity.specs.Record.{payload}
use Rattle.reading.proofs.words.payload.Goals as goal

pub returns : goal.returns
unfolding payload
returns c = refl
