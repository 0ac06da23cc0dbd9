-- `stops` meets its contract. Assumes nothing.
use Rattle.std.proofs.Common.{rules}
use Prim.Native.Nat.{◌*◌}
use mathlib.Core.Path.{◌≡◌, ◌∙◌}
use Rattle.parity.specs.Matrix.{lent}
use Rattle.parity.specs.Words.{stopping}
use Rattle.word.proofs.Told.{stopping_is}
use Rattle.word.proofs.stops.Goals as goal

pub returns : goal.returns
returns c = let e : c.with_known.result ≡ stopping (lent 8 c.args.words.now) (c.words_of.result * 64) c.args.checks (lent 8 c.set_of-set.result 0) = search rules in
    e ∙ stopping_is (lent 8 c.args.words.now) c.args.checks c.args.bytes.now 8 _ c.set_of-set.ensures (c.words_of.result * 64) c.words_of.ensures.0
