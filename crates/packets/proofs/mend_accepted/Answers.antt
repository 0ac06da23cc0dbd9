-- `mend_accepted` meets its contract. Assumes nothing.
use mathlib.Core.Path.{◌≡◌, ◌∙◌}
use Rattle.std.proofs.Common.{rules}
use Rattle.parity.specs.Causes.{refusal_of, result_reply}
use Rattle.parity.proofs.Matrix.Accept.{accepts}
use Rattle.packets.specs.Answers.{mended_packets_values}
use Rattle.packets.proofs.Refusing.{lists_taken, lists_refused, outcome_refused}
use native.Mathlib.Omega.{arith}
use Rattle.packets.proofs.mend_accepted.Goals as goal

pub overflow_add-n : goal.overflow_add-n
overflow_add-n c = let A = (accepts c.args.words.now c.args.n c.args.m c.args.k).0 c.requires in
    omega (arith, A.sound.n120, A.sound.k392)

pub admit_lists-requires : goal.admit_lists-requires
admit_lists-requires c = let A = (accepts c.args.words.now c.args.n c.args.m c.args.k).0 c.requires in
    omega (arith, A.sound.n1)

pub returns-in_err-admit_lists : goal.returns-in_err-admit_lists
returns-in_err-admit_lists c = let r = c.in_err-admit_lists.field-0.0 in
    let e : result_reply mended_packets_values c.from_residual.result ≡ refusal_of r = search rules in
    let all = outcome_refused c.args.words.now c.args.n c.args.m c.args.k c.args.lost.now c.args.packets.now c.args.odd.now r
    (lists_refused c.args.words.now c.args.n c.args.m c.args.k c.args.lost.now c.args.packets.now c.args.odd.now r c.requires c.in_err-admit_lists.ensures) in
    record { result_value = e ∙ all.0; lost_after = all.1.0; packets_after = all.1.1.0; odd_after = all.1.1.1 }

pub mend_admitted-requires : goal.mend_admitted-requires
mend_admitted-requires c = let t = lists_taken _ _ c.args.lost.now c.args.packets.now c.in_ok-admit_lists.ensures in
    (c.requires, t.0, t.1, t.2, t.3)
