-- `peel_given` meets its contract. Assumes nothing.
use Rattle.std.proofs.Common.{rules}
use mathlib.Core.Path.{◌≡◌, sym, ap, ◌∙◌}
use mathlib.Core.List.{List, ◌++◌}
use Prim.Native.Nat.{ℕ, ◌+◌, ◌-◌, ◌≤◌}
use native.Mathlib.Omega.{arith}
use lib.ListN.{length, take, drop, replicate}
use lib.Seq.{length-take-le, take_at}
use Rattle.parity.specs.Causes.{answer, loss_values, refusal_of}
use Rattle.parity.specs.Calls.{peel_outcome}
use Rattle.parity.specs.Block.{mended}
use Rattle.parity.specs.declared.Losses.{Losses}
use Rattle.parity.proofs.Matrix.Accept.{accepts}
use Rattle.block.specs.Answers.{Admitted, staged}
use Rattle.block.proofs.Stages.{front_word, given_refused, recovered_small, sent_remain_lem, none_sent}
use Rattle.block.proofs.peel_given.Goals as goal

few : (ws : List ℕ) (n m : ℕ) (word : List ℕ) → Admitted ws n m word → n ≤ 120
few ws n m word A = ((accepts ws n m 0).0 A.0).sound.n120

-- the received word with erased bits behind it
longer : (n : ℕ) (word long : List ℕ) → length word ≡ n → long ≡ word ++ replicate (512 - length word) 2 → long ≡ word ++ replicate (512 - n) 2
longer n word long l e = e ∙ ap (λ (j : ℕ). word ++ replicate (512 - j) 2) l

front : (n : ℕ) (word long : List ℕ) → length word ≡ n → long ≡ word ++ replicate (512 - length word) 2 → take n long ≡ word
front n word long l e = front_word n word long l (longer n word long l e)

-- .. of which the n bytes in front are peeled
size : (n : ℕ) (long peeled : List ℕ) → n ≤ length long → length peeled ≡ length (take n long) → length peeled ≡ n
size n long peeled k e = e ∙ length-take-le n long k

-- .. and the losses told
small : (ws : List ℕ) (n m : ℕ) (word : List ℕ) (l : Losses) → answer (loss_values l) ≡ (peel_outcome ws n m 0 word).reply → l.recovered_sent + l.recovered_added ≤ n
small ws n m word l e = recovered_small ws n m word _ _ _ _ e

pub erased_behind-longer-requires : goal.erased_behind-longer-requires
erased_behind-longer-requires c = let a = c.args in omega (arith, few a.words.now a.n a.m a.word.now c.requires, c.requires.1)

pub overflow_add-recovered : goal.overflow_add-recovered
overflow_add-recovered c =
    let a = c.args in
    let f = front a.n a.word.now _ c.requires.1 c.erased_behind-longer.ensures.1 in
    let told = rw f at c.in_ok-losses.ensures.result_value in
    omega (arith, few a.words.now a.n a.m a.word.now c.requires, small a.words.now a.n a.m a.word.now c.in_ok-losses.losses told)

pub peel_copy-requires : goal.peel_copy-requires
peel_copy-requires c =
    let a = c.args in
    let e = c.erased_behind-longer.ensures.1 in
    let told = rw (front a.n a.word.now _ c.requires.1 e) at c.in_ok-losses.ensures.result_value in
    (c.requires.0, c.requires.1, c.requires.2, longer a.n a.word.now _ c.requires.1 e, small a.words.now a.n a.m a.word.now c.in_ok-losses.losses told)

pub returns-then-losses-ne0 : goal.returns-then-losses-ne0
returns-then-losses-ne0 c =
    let a = c.args in
    let E = c.peel_copy.ensures in
    let f = front a.n a.word.now _ c.requires.1 c.erased_behind-longer.ensures.1 in
    let told = rw f at c.in_ok-losses.ensures.result_value in
    record { word_after = E.word_after ∙ sym (sent_remain_lem a.words.now a.n a.m a.word.now _ _ _ _ told c.if-losses-ne0.true); kept = E.kept }

pub returns-in_err-losses : goal.returns-in_err-losses
returns-in_err-losses c =
    let a = c.args in
    let r = c.in_err-losses.field-0.0 in
    let f = front a.n a.word.now _ c.requires.1 c.erased_behind-longer.ensures.1 in
    let v : staged a.words.now a.n a.m c.from_residual.result a.word.now ≡ record { reply = refusal_of r; after = a.word.now } = search rules in
    let came = rw f at c.in_err-losses.ensures.result_value in
    record { word_after = v ∙ sym (given_refused a.words.now a.n a.m a.word.now r came); kept = search rules }

pub returns : goal.returns
returns c =
    let a = c.args in
    let b = c.erased_behind-longer in
    let long : a.n ≤ length b.result = omega (arith, few a.words.now a.n a.m a.word.now c.requires, b.ensures.0) in
    let s = size a.n b.result c.peel_admitted.new.word long c.peel_admitted.auto.word in
    let fore = take_at c.peel_admitted.new.word (drop a.n b.result) a.n s in
    let f = front a.n a.word.now _ c.requires.1 b.ensures.1 in
    let told = rw f at c.in_ok-losses.ensures.result_value in
    let after = rw f at c.in_ok-losses.ensures.word_after in
    record { word_after = ap (mended 1 _) (c.copy_from_slice.ensures.after ∙ fore ∙ after) ∙ sym (none_sent a.words.now a.n a.m a.word.now _ _ _ _ told c.if-losses-ne0.false); kept = tt }
