-- `rank` meets its contract. Assumes nothing.
use Rattle.std.proofs.Common.{rules}
use mathlib.Core.Path.{◌≡◌, ◌∙◌}
use native.Mathlib.Omega.{arith}
use Rattle.parity.specs.Causes.{refusal_of, result_reply, number_values}
use Rattle.parity.proofs.Causes.Refused.{accepted_words}
use Rattle.rank.proofs.Told.{rank_first, rank_added, rank_told}
use Rattle.rank.proofs.rank.Goals as goal

pub returns-in_err-accept : goal.returns-in_err-accept
returns-in_err-accept c = let e : result_reply number_values c.from_residual.result ≡ refusal_of c.in_err-accept.field-0.0 = search rules in
    e ∙ rank_first c.args.words.now c.args.n c.args.m c.args.k c.in_err-accept.field-0.0 c.in_err-accept.ensures

pub returns-then-k-ne0 : goal.returns-then-k-ne0
returns-then-k-ne0 c = rank_added _ _ _ _ (accepted_words c.args.words.now c.args.n c.args.m c.args.k c.in_ok-accept.ensures) c.if-k-ne0.true

pub rank_of-requires : goal.rank_of-requires
rank_of-requires c = let A = accepted_words c.args.words.now c.args.n c.args.m c.args.k c.in_ok-accept.ensures in
    (A.words, omega (arith, A.sound.n120, A.sound.m120), omega (arith, A.sound.n120, A.sound.m120))

pub returns : goal.returns
returns c = rank_told _ _ _ _ (accepted_words c.args.words.now c.args.n c.args.m c.args.k c.in_ok-accept.ensures) c.if-k-ne0.false _ c.rank_of.ensures
