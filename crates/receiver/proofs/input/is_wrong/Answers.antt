-- `receiver::input::is_wrong` meets its contract. Assumes nothing.
use borrow.Author.Rules.{rules}
use native.Mathlib.Omega.{arith}
use borrow.Author.Tests.{lt-ltb, le-ltb}
use lib.ListN.{length}
use Rattle.parity.specs.Mend.{wrong_input}
use Rattle.receiver.proofs.input.is_wrong.Goals as goal

pub returns-then-input-lt4 : goal.returns-then-input-lt4
unfolding wrong_input
returns-then-input-lt4 c = rw (lt-ltb (length c.args.input.now) 4 (search rules))

pub returns-then-input-gt-LONGEST : goal.returns-then-input-gt-LONGEST
unfolding wrong_input
returns-then-input-gt-LONGEST c = let l = length c.args.input.now in
    rw (le-ltb l 4 (omega arith), lt-ltb 65536 l (search rules))

pub returns : goal.returns
unfolding wrong_input
returns c = let l = length c.args.input.now in
    rw (le-ltb l 4 (omega arith), le-ltb 65536 l (omega arith), c.number_at-words.ensures)
