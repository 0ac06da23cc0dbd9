-- `peel_front` meets its contract. Assumes nothing.
use Rattle.std.proofs.Common.{rules}
use mathlib.Core.Path.{◌≡◌, sym, ap, ◌∙◌}
use mathlib.Core.List.{List, ◌++◌}
use Prim.Native.Nat.{ℕ, ◌+◌}
use native.Mathlib.Omega.{arith}
use lib.ListN.{drop}
use lib.Seq.{length-take-le}
use Rattle.parity.specs.Causes.{result_reply, refusal_of}
use Rattle.parity.proofs.Matrix.Accept.{accepts}
use Rattle.extended.specs.Answers.{copy_peeled_values}
use Rattle.extended.proofs.Copying.{refused_in_all, made_in_all, recovered_small, left_small}
use Rattle.extended.proofs.peel_front.Goals as goal

pub slice_bounds-peel_admitted-end-2 : goal.slice_bounds-peel_admitted-end-2
slice_bounds-peel_admitted-end-2 c = sym (length-take-le (c.args.n + c.args.k) c.args.longer.now c.requires.1)

pub peel_admitted-requires : goal.peel_admitted-requires
peel_admitted-requires c = (c.requires.0, length-take-le (c.args.n + c.args.k) c.args.longer.now c.requires.1, c.requires.2)

pub overflow_add-result : goal.overflow_add-result
overflow_add-result c = let A = (accepts c.args.words.now c.args.n c.args.m c.args.k).0 c.requires.0 in
    let e = recovered_small c.args.words.now c.args.n c.args.m c.args.k _ _ _ _ _ c.in_ok-losses.ensures.result_value in
    omega (arith, A.sound.n120, A.sound.k392)

pub overflow_add-result-2 : goal.overflow_add-result-2
overflow_add-result-2 c = let A = (accepts c.args.words.now c.args.n c.args.m c.args.k).0 c.requires.0 in
    let e = left_small c.args.words.now c.args.n c.args.m c.args.k _ _ _ _ _ c.in_ok-losses.ensures.result_value in
    omega (arith, A.sound.n120, A.sound.k392)

pub returns-in_err-losses : goal.returns-in_err-losses
returns-in_err-losses c = let E = c.in_err-losses.ensures in
    let e : result_reply copy_peeled_values c.from_residual.result ≡ refusal_of c.in_err-losses.field-0.0 = search rules in
    record { result_value = e ∙ refused_in_all c.in_err-losses.field-0.0 _ E.result_value; longer_after = ap (λ (l : List ℕ). l ++ drop (c.args.n + c.args.k) c.args.longer.now) E.word_after }

pub returns : goal.returns
returns c = let E = c.in_ok-losses.ensures in
    record { result_value = made_in_all _ _ _ _ _ E.result_value; longer_after = ap (λ (l : List ℕ). l ++ drop (c.args.n + c.args.k) c.args.longer.now) E.word_after }
