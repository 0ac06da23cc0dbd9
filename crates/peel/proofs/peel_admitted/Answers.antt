-- `peel_admitted` meets its contract. Assumes nothing.
use mathlib.Core.Path.{sym, ap, ◌∙◌}
use native.Mathlib.Omega.{arith}
use Rattle.parity.specs.Causes.{Outcome}
use Rattle.parity.specs.Calls.{peel_reply, peel_outcome}
use Rattle.parity.proofs.Matrix.Accept.{accepts}
use Rattle.word.specs.Solved.{solved_reply}
use Rattle.word.proofs.Solved.{outcome_word}
use Rattle.peel.proofs.peel_admitted.Goals as goal

pub overflow_add-m : goal.overflow_add-m
overflow_add-m c = let A = (accepts c.args.words.now c.args.n c.args.m c.args.k).0 c.requires.0 in
    omega (arith, A.sound.m120, A.sound.k392)

pub peel_word-requires : goal.peel_word-requires
peel_word-requires c = let A = (accepts c.args.words.now c.args.n c.args.m c.args.k).0 c.requires.0 in
    (A.words, omega (arith, A.sound.m120, A.sound.k392), c.requires.1, omega (arith, A.sound.n120, A.sound.k392), omega (arith, A.sound.n120), c.requires.2)

pub returns : goal.returns
unfolding peel_outcome peel_reply solved_reply
returns c = let e = outcome_word c.args.n c.args.k c.args.word.now _ _ c.args.words.now c.args.m c.requires.0 c.requires.1 c.requires.2 in
    record { result_value = c.peel_word.ensures.result_value ∙ sym (ap (λ (o : Outcome). o.reply) e); word_after = c.peel_word.ensures.word_after ∙ sym (ap (λ (o : Outcome). o.after) e) }
