-- `emit::Rows::put_row` meets its contract. Assumes nothing.
use native.Mathlib.Omega.{arith}
use Rattle.parity.specs.Record.{bit_words}
use Rattle.writing.proofs.Emitting.{wrote_none, wrote_more, wrote_length, row_next, bits_room}
use Rattle.writing.proofs.emit.Rows.put_row.Goals as goal

pub loop-i-init : goal.loop-i-init
loop-i-init c = unfold bit_words in (omega arith, wrote_none _ _)

pub put_word-at-requires : goal.put_word-at-requires
put_word-at-requires c = let l = c.loop-i in
    let r = bits_room c.args.self.width c.args.self.words.now c.args.c l.i c.args.self.used (omega arith) (omega arith) in
    (omega (arith, r, c.requires.used_in_bounds, l.invariant.1.place, wrote_length _ _ _ _ _ l.invariant.1), omega arith)

pub loop-i-preserved : goal.loop-i-preserved
loop-i-preserved c = let l = c.loop-i in
    let w = c.put_word-at.ensures in
    (omega arith, rw (row_next c.args.self.width c.args.self.words.now c.args.c l.i (omega arith)) (wrote_more _ _ _ _ _ _ _ _ l.invariant.1 w))
