-- `receiver::mend` meets its contract. Assumes nothing.
use mathlib.Core.Path.{◌∙◌}
use borrow.Author.Rules.{rules}
use native.Mathlib.Omega.{arith}
use Rattle.parity.specs.Mend.{mend as mendText}
use Rattle.receiver.proofs.Whole.{no_room, room, first}
use Rattle.receiver.proofs.mend.Goals as goal

pub returns-then-output-needed : goal.returns-then-output-needed
returns-then-output-needed c = let a = c.args in
    let f = c.put_text-needed in
    let both = no_room (mendText a.input.now) a.output.now f.result (omega (arith, f.ensures.next)) (search rules) in record { value = both.0; output_after = both.1 }

pub returns : goal.returns
returns c = let f = c.put_text-needed in
    let b = c.copy_from_slice in
    let both = room (mendText c.args.input.now) c.args.output.now f.result (omega (arith, f.ensures.next)) (omega arith) b.new.self (b.ensures.after ∙ first f.ensures) in
    record { value = both.0; output_after = both.1 }
