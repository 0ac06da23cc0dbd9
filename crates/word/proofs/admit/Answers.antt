-- `admit` meets its contract. Assumes nothing.
use Rattle.std.proofs.Common.{rules}
use mathlib.Core.Path.{◌≡◌, sym, ◌∙◌}
use Prim.Native.Nat.{◌+◌}
use native.Mathlib.Omega.{arith}
use lib.ListN.{length}
use borrow.Author.Tests.{eq-eqb, ne_eqb}
use Rattle.parity.specs.Causes.{refusal_of, result_reply, no_values}
use Rattle.parity.proofs.Matrix.Accept.{accepts, accepting_answers}
use Rattle.parity.proofs.Causes.Refused.{accepted_words, refused_same}
use Rattle.word.specs.Answers.{admit_reply}
use Rattle.sets.proofs.Above.{wrong_some, wrong_none}
use Rattle.word.proofs.admit.Goals as goal

pub returns-in_err-accept : goal.returns-in_err-accept
unfolding admit_reply
returns-in_err-accept c = let e : result_reply no_values c.from_residual.result ≡ refusal_of c.in_err-accept.field-0.0 = search rules in
    e ∙ refused_same c.args.words.now c.args.n c.args.m c.args.k c.in_err-accept.field-0.0 _ c.in_err-accept.ensures

pub overflow_add-n : goal.overflow_add-n
overflow_add-n c = let A = accepted_words c.args.words.now c.args.n c.args.m c.args.k c.in_ok-accept.ensures in
    omega (arith, A.sound.n120, A.sound.k392)

pub returns-then-bytes-n : goal.returns-then-bytes-n
unfolding admit_reply
returns-then-bytes-n c = let A = accepted_words c.args.words.now c.args.n c.args.m c.args.k c.in_ok-accept.ensures in
    rw (accepting_answers c.args.words.now c.args.n c.args.m c.args.k _ ((accepts c.args.words.now c.args.n c.args.m c.args.k).1 A), ne_eqb (length c.args.bytes.now) (c.args.n + c.args.k) c.if-bytes-n.true)

pub returns-in-Some : goal.returns-in-Some
unfolding admit_reply
returns-in-Some c = let A = accepted_words c.args.words.now c.args.n c.args.m c.args.k c.in_ok-accept.ensures in
    let (e, f) = wrong_some c.args.top c.args.bytes.now _ (sym c.in-Some.is ∙ c.first_above.ensures) in
    rw (accepting_answers c.args.words.now c.args.n c.args.m c.args.k _ ((accepts c.args.words.now c.args.n c.args.m c.args.k).1 A), eq-eqb (length c.args.bytes.now) (c.args.n + c.args.k) c.if-bytes-n.false, e, f)

pub returns-in-None : goal.returns-in-None
unfolding admit_reply
returns-in-None c = let A = accepted_words c.args.words.now c.args.n c.args.m c.args.k c.in_ok-accept.ensures in
    rw (accepting_answers c.args.words.now c.args.n c.args.m c.args.k _ ((accepts c.args.words.now c.args.n c.args.m c.args.k).1 A), eq-eqb (length c.args.bytes.now) (c.args.n + c.args.k) c.if-bytes-n.false, wrong_none c.args.top c.args.bytes.now (sym c.in-None.is ∙ c.first_above.ensures))
