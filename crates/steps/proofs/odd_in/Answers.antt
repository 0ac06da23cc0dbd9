-- `odd_in` meets its contract. Assumes nothing.
use mathlib.Core.Path.{sym, ap, ◌∙◌}
use native.Mathlib.Omega.{arith}
use Rattle.parity.specs.Matrix.{lent}
use Rattle.parity.specs.Words.{odd}
use Rattle.sets.proofs.Short.{inside_short, short_wider}
use Rattle.steps.proofs.odd_in.Goals as goal

pub returns-then-used-le1 : goal.returns-then-used-le1
returns-then-used-le1 c = c.is_odd.ensures ∙ ap odd (sym (inside_short (lent 8 c.args.words.now) 512 64 c.args.c.0 (lent 8 c.args.ones.now 0) (omega arith) (short_wider _ 64 _ (omega arith) c.requires.4).none))

pub returns-then-used-eq2 : goal.returns-then-used-eq2
returns-then-used-eq2 c = c.is_odd-then-used-eq2.ensures ∙ ap odd (sym (inside_short (lent 8 c.args.words.now) 512 128 c.args.c.0 (lent 8 c.args.ones.now 0) (omega arith) (short_wider _ 128 _ (omega arith) c.requires.4).none))

pub returns-then-used-le4 : goal.returns-then-used-le4
returns-then-used-le4 c = c.is_odd-then-used-le4.ensures ∙ ap odd (sym (inside_short (lent 8 c.args.words.now) 512 256 c.args.c.0 (lent 8 c.args.ones.now 0) (omega arith) (short_wider _ 256 _ (omega arith) c.requires.4).none))
