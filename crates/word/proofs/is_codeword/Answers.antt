-- `is_codeword` meets its contract. Assumes nothing.
use Prim.Native.Nat.{◌*◌}
use Rattle.parity.specs.Matrix.{lent}
use Rattle.std.proofs.Common.{rules}
use mathlib.Core.Path.{◌≡◌, sym, ◌∙◌}
use Rattle.parity.specs.Words.{even_checks}
use Rattle.sets.proofs.Above.{is_some_wrong}
use Rattle.word.proofs.Told.{codeword_not, codeword_is}
use Rattle.word.proofs.is_codeword.Goals as goal

pub returns-then-is_some : goal.returns-then-is_some
returns-then-is_some c = sym (codeword_not _ _ _ (sym (is_some_wrong 1 c.args.bytes.now) ∙ rw c.first_above.ensures at (sym c.is_some.ensures ∙ c.if-is_some.true)))

pub returns : goal.returns
returns c = let e : c.with_known.result ≡ even_checks (lent 8 c.args.words.now) (c.words_of.result * 64) c.args.checks (lent 8 c.set_of-ones.result 0) = search rules in
    e ∙ codeword_is (lent 8 c.args.words.now) c.args.checks c.args.bytes.now 8 _ c.set_of-ones.ensures (c.words_of.result * 64) c.words_of.ensures.0
    (sym (is_some_wrong 1 c.args.bytes.now) ∙ rw c.first_above.ensures at (sym c.is_some.ensures ∙ c.if-is_some.false))
