-- `lines::text::put_byte` meets its contract. Assumes nothing.
use borrow.Author.Rules.{rules}
use Rattle.lines.proofs.Pieces.{one_byte}
use Rattle.lines.proofs.text.put_byte.Goals as goal

pub returns : goal.returns
returns c = one_byte c.args.out.now c.args.at c.args.b (search rules)
