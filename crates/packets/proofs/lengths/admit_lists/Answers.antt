-- `lengths::admit_lists` meets its contract. Assumes nothing.
use mathlib.Core.Path.{sym, ◌∙◌}
use Prim.Native.Nat.{◌^◌}
use lib.ListN.{length}
use borrow.Author.Tests.{eq-eqb, ne_eqb, lt-ltb, le-ltb}
use Rattle.parity.specs.Packets.{wrong_lengths}
use Rattle.sets.proofs.Above.{wrong_some, wrong_none}
use Rattle.packets.specs.Answers.{lists_reply}
use Rattle.packets.proofs.lengths.admit_lists.Goals as goal

pub returns-then-lost-bits : goal.returns-then-lost-bits
unfolding lists_reply wrong_lengths
returns-then-lost-bits c = rw (ne_eqb (length c.args.lost.now) c.args.bits c.if-lost-bits.true)

pub returns-then-not-is_product : goal.returns-then-not-is_product
unfolding lists_reply wrong_lengths
returns-then-not-is_product c = let p = c.is_product in
    rw (eq-eqb (length c.args.lost.now) c.args.bits c.if-lost-bits.false, sym p.ensures ∙ c.if-not-is_product.true)

pub returns-then-len-gt144115188075855872 : goal.returns-then-len-gt144115188075855872
unfolding lists_reply wrong_lengths
returns-then-len-gt144115188075855872 c = let p = c.is_product in
    rw (eq-eqb (length c.args.lost.now) c.args.bits c.if-lost-bits.false, sym p.ensures ∙ c.if-not-is_product.false, lt-ltb (2 ^ 57) c.args.len c.if-len-gt144115188075855872.true)

pub returns-in-Some : goal.returns-in-Some
unfolding lists_reply wrong_lengths
returns-in-Some c = let p = c.is_product in
    let (e, f) = wrong_some 1 c.args.lost.now _ (sym c.in-Some.is ∙ c.first_above.ensures) in
    rw (eq-eqb (length c.args.lost.now) c.args.bits c.if-lost-bits.false, sym p.ensures ∙ c.if-not-is_product.false, le-ltb (2 ^ 57) c.args.len c.if-len-gt144115188075855872.false, e, f)

pub returns-in-None : goal.returns-in-None
unfolding lists_reply wrong_lengths
returns-in-None c = let p = c.is_product in
    rw (eq-eqb (length c.args.lost.now) c.args.bits c.if-lost-bits.false, sym p.ensures ∙ c.if-not-is_product.false, le-ltb (2 ^ 57) c.args.len c.if-len-gt144115188075855872.false, wrong_none 1 c.args.lost.now (sym c.in-None.is ∙ c.first_above.ensures))
