-- `agree` meets its contract. Assumes nothing.
use Rattle.std.proofs.Common.{rules}
use mathlib.Core.Path.{◌≡◌, ◌∙◌}
use Prim.Native.Nat.{◌*◌}
use native.Mathlib.Omega.{arith}
use Rattle.parity.specs.Matrix.{lent}
use Rattle.result.specs.Result.{agreeing}
use Rattle.result.proofs.Agreeing.{agreeing_wider}
use Rattle.result.proofs.agree.Goals as goal

pub returns-then-touches : goal.returns-then-touches
returns-then-touches c = let e : c.in_words.result ≡ agreeing (lent 8 c.args.words.now) (c.args.used * 64) c.args.checks (lent 8 c.args.erased.now 0) (lent 8 c.args.ones.now 0) = search rules in
    e ∙ agreeing_wider _ _ _ _ _ _ (omega (arith, c.requires.with_sets.4)) c.requires.both_short.0 c.requires.both_short.1

pub returns : goal.returns
returns c = let e : c.in_words-2.result ≡ agreeing (lent 8 c.args.words.now) (c.args.used * 64) c.args.checks (lent 8 c.args.erased.now 0) (lent 8 c.args.ones.now 0) = search rules in
    e ∙ agreeing_wider _ _ _ _ _ _ (omega (arith, c.requires.with_sets.4)) c.requires.both_short.0 c.requires.both_short.1
