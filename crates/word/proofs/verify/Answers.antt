-- `verify` meets its contract. Assumes nothing.
use Rattle.std.proofs.Common.{rules}
use mathlib.Core.Path.{◌≡◌, ◌∙◌}
use native.Mathlib.Omega.{arith}
use Rattle.parity.specs.Causes.{refusal_of, result_reply, yes_values}
use Rattle.parity.specs.Calls.{verify_reply}
use Rattle.word.proofs.Told.{taken, refused, verify_told}
use Rattle.word.proofs.verify.Goals as goal

pub returns-in_err-admit : goal.returns-in_err-admit
unfolding verify_reply
returns-in_err-admit c = let e : result_reply yes_values c.from_residual.result ≡ refusal_of c.in_err-admit.field-0.0 = search rules in
    e ∙ refused c.args.words.now c.args.n c.args.m c.args.k c.args.word.now 2 c.in_err-admit.field-0.0 c.in_err-admit.ensures _

pub overflow_add-m : goal.overflow_add-m
overflow_add-m c = let (A, W) = taken c.args.words.now c.args.n c.args.m c.args.k c.args.word.now 2 c.in_ok-admit.ensures in
    omega (arith, A.sound.m120, A.sound.k392)

pub is_codeword-requires : goal.is_codeword-requires
is_codeword-requires c = let (A, W) = taken c.args.words.now c.args.n c.args.m c.args.k c.args.word.now 2 c.in_ok-admit.ensures in
    (A.words, omega (arith, A.sound.m120, A.sound.k392), omega (arith, W.size, A.sound.n120, A.sound.k392))

pub returns : goal.returns
returns c = verify_told c.args.words.now c.args.n c.args.m c.args.k c.args.word.now c.in_ok-admit.ensures c.is_codeword.result c.is_codeword.ensures
