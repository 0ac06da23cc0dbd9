-- `enter` meets its contract. Assumes nothing.
use Rattle.messages.proofs.Places.{written}
use Rattle.messages.proofs.copying.enter.Goals as goal

pub returns : goal.returns
returns c = written c.args.word.now c.args.floats.now c.args.b c.args.tags.now c.args.values.now c.args.j c.requires.j_in_bounds.0 c.requires.j_in_bounds.1
