-- `join` meets its contract. Assumes nothing.
use Rattle.std.proofs.Common.{rules}
use Rattle.parity.specs.Causes.{refusal_of, result_reply, number_values}
use mathlib.Core.Path.{◌≡◌, ◌∙◌}
use Prim.Native.Nat.{ℕ}
use lib.ListN.{length-replicate}
use Rattle.join.proofs.Told.{wrong_third, not_admitted, is_admitted, too_many, all_joined}
use Rattle.join.proofs.join.Goals as goal

pub returns-then-words3-ne4096 : goal.returns-then-words3-ne4096
returns-then-words3-ne4096 c = let both = wrong_third c.args.words1.now c.args.n1 c.args.m1 c.args.k1 c.args.words2.now c.args.n2 c.args.m2 c.args.k2 c.args.words3.now c.if-words3-ne4096.true in record { result_value = both.0; words3_after = both.1 }

pub gather-requires : goal.gather-requires
gather-requires c = let (z₁, z₂, e, J) = is_admitted c.args.words1.now c.args.n1 c.args.m1 c.args.k1 c.args.words2.now c.args.n2 c.args.m2 c.args.k2 c.args.words3.now c.in_ok-admit.ensures in
    (J.first.words, J.first.sound.m120, J.second.words, J.second.sound.m120, length-replicate {A = ℕ} 240 0)

pub returns-in-None : goal.returns-in-None
returns-in-None c = let both = too_many c.args.words1.now c.args.n1 c.args.m1 c.args.k1 c.args.words2.now c.args.n2 c.args.m2 c.args.k2 c.args.words3.now c.if-words3-ne4096.false c.in_ok-admit.ensures c.gather.new.rows c.in-None.ensures in record { result_value = both.0; words3_after = both.1 }

pub returns-in_err-admit : goal.returns-in_err-admit
returns-in_err-admit c = let e : result_reply number_values c.from_residual.result ≡ refusal_of c.in_err-admit.field-0.0 = search rules in
    let both = not_admitted c.args.words1.now c.args.n1 c.args.m1 c.args.k1 c.args.words2.now c.args.n2 c.args.m2 c.args.k2 c.args.words3.now c.if-words3-ne4096.false _ c.in_err-admit.ensures in
    record { result_value = e ∙ both.0; words3_after = both.1 }

pub returns-in-Some : goal.returns-in-Some
returns-in-Some c = let p = c.write in
    let both = all_joined c.args.words1.now c.args.n1 c.args.m1 c.args.k1 c.args.words2.now c.args.n2 c.args.m2 c.args.k2 c.args.words3.now c.if-words3-ne4096.false c.in_ok-admit.ensures _ _ c.in-Some.ensures p.new.words (p.auto.words ∙ c.if-words3-ne4096.false) p.ensures in record { result_value = both.0; words3_after = both.1 }
