-- `gather::add` meets its contract. Assumes nothing.
use mathlib.Core.Path.{sym, ◌∙◌}
use native.Mathlib.Omega.{arith}
use Prim.Native.Nat.{◌*◌}
use Rattle.rows.proofs.Writing.{written_copy}
use Rattle.join.proofs.Rows.{added_none, added_full, added_one}
use Rattle.join.proofs.gather.add.Goals as goal

pub returns-then-is_there : goal.returns-then-is_there
returns-then-is_there c = added_none c.args.words.now c.requires.0 (λ i. omega (arith, c.type_inv.words i)) c.args.c c.requires.1 c.args.rows.now c.args.at c.requires.3 (sym c.is_there.ensures ∙ c.if-is_there.true)

pub returns-then-at-eq120 : goal.returns-then-at-eq120
returns-then-at-eq120 c = added_full c.args.words.now c.requires.0 (λ i. omega (arith, c.type_inv.words i)) c.args.c c.requires.1 c.args.rows.now c.args.at c.if-at-eq120.true (sym c.is_there.ensures ∙ c.if-is_there.false)

pub returns : goal.returns
returns c = added_one c.args.words.now c.requires.0 (λ i. omega (arith, c.type_inv.words i)) c.args.c c.requires.1 c.args.rows.now c.args.at (omega (arith, c.requires.3, c.if-at-eq120.false)) (sym c.is_there.ensures ∙ c.if-is_there.false) _
    (written_copy c.args.rows.now c.args.words.now _ (c.args.at * 2) (c.args.c * 8) 2 _ _ (omega (arith, c.requires.2, c.if-at-eq120.false, c.requires.3)) (omega (arith, c.requires.0, c.requires.1)) (omega arith) (omega arith) c.copy_from_slice.ensures.after)
