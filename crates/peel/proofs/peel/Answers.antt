-- `peel` meets its contract. Assumes nothing.
use Rattle.std.proofs.Common.{rules}
use mathlib.Core.Path.{◌≡◌, ◌∙◌}
use Prim.Native.Nat.{◌+◌}
use Rattle.parity.specs.Matrix.{lent}
use Rattle.parity.specs.Words.{peels, peeled}
use Rattle.parity.specs.Causes.{result_reply, loss_values, refusal_of}
use Rattle.parity.specs.Calls.{byte_of, peel_reply, peel_outcome}
use Rattle.parity.proofs.Matrix.Accept.{accepts}
use Rattle.parity.proofs.Words.Bytes.{word_right}
use Rattle.word.proofs.Told.{taken}
use Rattle.word.specs.Solved.{solved_reply}
use Rattle.word.proofs.Solved.{outcome_refused}
use Rattle.peel.proofs.peel.Goals as goal

pub peel_admitted-requires : goal.peel_admitted-requires
peel_admitted-requires c = let (A, W) = taken c.args.words.now c.args.n c.args.m c.args.k c.args.word.now 2 c.in_ok-admit.ensures in
    ((accepts c.args.words.now c.args.n c.args.m c.args.k).1 A, W.size, word_right _ 2 c.args.word.now W)

pub returns-in_err-admit : goal.returns-in_err-admit
unfolding peel_outcome peel_reply solved_reply
returns-in_err-admit c = let N = c.args.n + c.args.k in
    let M = c.args.m + c.args.k in
    let h = lent 8 c.args.words.now in
    let w = byte_of c.args.word.now in
    let e : result_reply loss_values c.from_residual.result ≡ refusal_of c.in_err-admit.field-0.0 = search rules in
    let both = outcome_refused c.args.n c.args.k c.args.word.now (peels h N M w) (peeled h N M w) c.args.words.now c.args.m c.in_err-admit.field-0.0 c.in_err-admit.ensures in
    record { result_value = e ∙ both.0; word_after = both.1 }

pub returns : goal.returns
returns c = record { result_value = c.peel_admitted.ensures.result_value; word_after = c.peel_admitted.ensures.word_after }
