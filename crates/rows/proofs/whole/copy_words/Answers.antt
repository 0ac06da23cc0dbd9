-- `whole::copy_words` meets its contract. Assumes nothing.
use native.Mathlib.Omega.{arith}
use Rattle.rows.proofs.Writing.{written_copy}
use Rattle.rows.proofs.whole.copy_words.Goals as goal

pub returns : goal.returns
returns c = written_copy _ _ _ c.args.b c.args.a c.args.count _ _ (omega arith) (omega arith) (omega arith) (omega arith) c.copy_from_slice.ensures.after
