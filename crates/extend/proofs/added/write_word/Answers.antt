-- `added::write_word` meets its contract. Assumes nothing.
use Rattle.parity.specs.Matrix.{lent}
use Rattle.extend.specs.Added.{Copied}
use Rattle.extend.proofs.Lower.{front_copied, copied_bits, extended_all}
use borrow.Author.Rules.{rules}
use Rattle.extend.proofs.added.write_word.Goals as goal

pub add_bits-requires : goal.add_bits-requires
add_bits-requires c = let C : Copied c.args.sent.now c.args.n c.put_sent.new.word = front_copied _ _ _ _ c.requires.2 c.put_sent.ensures in
    (c.requires.0, search rules, copied_bits c.args.sent.now c.put_sent.new.word c.args.n C c.requires.3)

pub returns : goal.returns
returns c = let C : Copied c.args.sent.now c.args.n c.put_sent.new.word = front_copied _ _ _ _ c.requires.2 c.put_sent.ensures in
    extended_all (lent 8 c.args.words.now) c.args.n c.args.m c.args.k c.args.sent.now c.put_sent.new.word _ C (search rules) c.add_bits.ensures
