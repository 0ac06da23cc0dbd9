-- `mend_admitted` meets its contract. Assumes nothing.
use mathlib.Core.Path.{◌≡◌, refl, sym, ap, ◌∙◌, fun_ext}
use mathlib.Core.Bool.{false}
use mathlib.Core.List.{List, [], ◌∷◌, ◌++◌}
use Prim.Native.Nat.{ℕ}
use lib.ListN.{replicate}
use Rattle.parity.specs.Matrix.{lent}
use Rattle.parity.specs.Causes.{answer}
use Rattle.parity.specs.Packets.{PacketsOutcome}
use Rattle.parity.proofs.Matrix.Accept.{accepts}
use Rattle.parity.proofs.Matrix.Lent.{lent_empty}
use Rattle.sets.proofs.Short.{set_short}
use Rattle.packets.proofs.Ending.{fewer_packets, outcome_is}
use native.Mathlib.Omega.{arith}
use borrow.Author.Rules.{rules}
use Rattle.packets.proofs.mend_admitted.Goals as goal

no_bits : lent 8 (replicate 8 0) 0 ≡ (λ a. false)
no_bits = fun_ext (λ a. lent_empty 8 8 (replicate 8 0) refl 0 a)

pub set_of-gone-requires : goal.set_of-gone-requires
set_of-gone-requires c = let A = (accepts c.args.words.now c.args.n c.args.m c.args.k).0 c.requires.0 in
    omega (arith, c.requires.1, A.sound.n120, A.sound.k392)

pub overflow_add-m : goal.overflow_add-m
overflow_add-m c = let A = (accepts c.args.words.now c.args.n c.args.m c.args.k).0 c.requires.0 in
    omega (arith, A.sound.m120, A.sound.k392)

pub mend_set-left-requires : goal.mend_set-left-requires
mend_set-left-requires c = let A = (accepts c.args.words.now c.args.n c.args.m c.args.k).0 c.requires.0 in
    let E = c.set_of-gone.ensures in
    (A.words, omega (arith, A.sound.n120, A.sound.k392), omega (arith, A.sound.m120, A.sound.k392), E.size, c.requires.2, rw c.requires.1 at (set_short 8 c.args.lost.now 1 _ E))

pub losses_of-losses-requires : goal.losses_of-losses-requires
losses_of-losses-requires c = let A = (accepts c.args.words.now c.args.n c.args.m c.args.k).0 c.requires.0 in
    let t = c.mend_set-left in
    (c.set_of-gone.ensures.size, t.ensures.0, omega (arith, A.sound.n120), fewer_packets c.args.words.now c.args.n c.args.m c.args.k c.args.lost.now c.args.packets.now c.args.odd.now _ _ _ _ A c.requires.1 c.requires.2 c.requires.4 c.requires.3 c.set_of-gone.ensures t.ensures.1)

pub returns : goal.returns
returns c = let A = (accepts c.args.words.now c.args.n c.args.m c.args.k).0 c.requires.0 in
    let t = c.mend_set-left in
    let o = outcome_is c.args.words.now c.args.n c.args.m c.args.k c.args.lost.now c.args.packets.now c.args.odd.now _ _ _ _ A c.requires.1 c.requires.2 c.requires.4 c.requires.3 c.set_of-gone.ensures t.ensures.1 t.auto.packets t.auto.odd (λ i. (c.type_inv.packets i).fits) (λ i. search rules) (omega (arith, A.sound.n120, A.sound.k392)) in record {
      result_value = ap (λ (v : List ℕ). answer (v ++ (c.count_lanes-odd_lanes.result ∷ []))) c.losses_of-losses.ensures ∙ rw (c.count_lanes-odd_lanes.ensures, t.auto.odd) (sym (ap (λ (o : PacketsOutcome). o.reply) o));
      lost_after = (rw no_bits at c.write.ensures) ∙ sym (ap (λ (o : PacketsOutcome). o.lost) o);
      packets_after = sym (ap (λ (o : PacketsOutcome). o.packets) o);
      odd_after = sym (ap (λ (o : PacketsOutcome). o.odd) o);
    }
