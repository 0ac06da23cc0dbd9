-- `receiver::stages::peel_sent` meets its contract. Assumes nothing.
use Prim.Native.Nat.{ℕ, ◌+◌}
use mathlib.Core.Path.{sym, ap}
use mathlib.Core.List.{List}
use borrow.Author.Rules.{rules}
use native.Mathlib.Omega.{arith}
use lib.ListN.{length}
use lib.Seq.{length-take-le}
use Rattle.parity.specs.Mend.{digits_of, decimal, refused_line}
use Rattle.parity.proofs.Matrix.Accept.{accepts}
use Rattle.receiver.specs.Stages.{peel_text}
use Rattle.lines.proofs.Lines.{same_text}
use Rattle.receiver.proofs.Passing.{peel_short, erased_rest}
use Rattle.receiver.proofs.stages.peel_sent.Goals as goal

pub put_refused-requires : goal.put_refused-requires
unfolding refused_line decimal digits_of
put_refused-requires c = let a = c.args in
    let q = c.requires in
    let e = peel_short a.words.now a.n a.m a.k a.splits a.sum a.sent.now q.k_value c.if-sent-n.true in
    omega (arith, ap length e, q.k_in_bounds)

pub returns-then-sent-n : goal.returns-then-sent-n
returns-then-sent-n c = let a = c.args in
    same_text
    (peel_short a.words.now a.n a.m a.k a.splits a.sum a.sent.now c.requires.k_value (search rules))
    c.put_refused.ensures

pub erased_behind-word-requires : goal.erased_behind-word-requires
erased_behind-word-requires c = let a = c.args in
    omega (arith, ((accepts a.words.now a.n a.m a.k).0 c.requires.k_value).sound.n120)

pub overflow_add-word : goal.overflow_add-word
overflow_add-word c = let a = c.args in
    let S = ((accepts a.words.now a.n a.m a.k).0 c.requires.k_value).sound in
    omega (arith, S.n120, S.k392)

pub slice_bounds-word-end : goal.slice_bounds-word-end
slice_bounds-word-end c = let a = c.args in
    let S = ((accepts a.words.now a.n a.m a.k).0 c.requires.k_value).sound in
    omega (arith, S.n120, S.k392, c.erased_behind-word.ensures.0)

pub slice_bounds-peel_word-end : goal.slice_bounds-peel_word-end
slice_bounds-peel_word-end c = let a = c.args in
    let S = ((accepts a.words.now a.n a.m a.k).0 c.requires.k_value).sound in
    let z = c.erased_behind-word in
    sym (length-take-le (a.n + a.k) z.result (omega (arith, S.n120, S.k392, z.ensures.0)))

pub peel_word-requires : goal.peel_word-requires
peel_word-requires c = let a = c.args in
    let S = ((accepts a.words.now a.n a.m a.k).0 c.requires.k_value).sound in
    let z = c.erased_behind-word in
    let e = erased_rest a.sent.now z.result a.n a.k 512 (omega arith) (omega (arith, S.n120, S.k392)) z.ensures.1 in
    record { word_in_bounds = rw e c.requires.k_in_bounds; k_value = (c.requires.k_value, length-take-le (a.n + a.k) z.result (omega (arith, S.n120, S.k392, z.ensures.0))) }

pub returns : goal.returns
returns c = let a = c.args in
    let S = ((accepts a.words.now a.n a.m a.k).0 c.requires.k_value).sound in
    let z = c.erased_behind-word in
    let e = erased_rest a.sent.now z.result a.n a.k 512 (omega arith) (omega (arith, S.n120, S.k392)) z.ensures.1 in
    same_text (ap (λ (w : List ℕ). peel_text a.words.now a.n a.m a.k a.splits a.sum w) e) c.peel_word.ensures
