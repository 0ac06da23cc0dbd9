-- `write_accepted` meets its contract. Assumes nothing.
use mathlib.Core.Path.{◌≡◌, refl, sym, ap, ◌∙◌}
use mathlib.Core.Bool.{not}
use Prim.Native.Nat.{ℕ}
use native.Mathlib.Omega.{arith}
use lib.ListN.{length-replicate}
use Rattle.parity.specs.Splits.{all_back}
use Rattle.parity.specs.Causes.{Outcome}
use Rattle.parity.proofs.Matrix.Accept.{accepts}
use Rattle.parity.proofs.Record.Records.{write_unbuilt}
use Rattle.parity.proofs.Lists.Rebuilt.{none_built}
use Rattle.rows.proofs.Zeros.{empty}
use Rattle.writing.proofs.write_accepted.Goals as goal

pub write_checks-requires : goal.write_checks-requires
write_checks-requires c = let A = (accepts _ _ _ _).0 c.requires.0 in
    let z : c.args.k ≡ 0 = omega (arith, c.if-k-eq0.true) in
    record { width_in_bounds = (omega (arith, A.words, A.sound.m120), omega arith, omega arith); k_value = (c.requires.0, rw z (none_built _ _ _)); checks_value = (rw z (unfold all_back in refl), c.requires.1) }

pub all_back-requires : goal.all_back-requires
all_back-requires c = let A = (accepts _ _ _ _).0 c.requires.0 in
    (A.words, length-replicate {A = ℕ} 256 0, empty 2 256 _ refl, A.sound)

pub returns-then-not-all_back : goal.returns-then-not-all_back
returns-then-not-all_back c = let E = c.all_back in
    let e = write_unbuilt _ _ _ _ c.args.«record».now c.requires.0 (E.ensures.decides ∙ ap not c.if-not-all_back.true) in
    record { result_value = sym (ap (λ (o : Outcome). o.reply) e); record_after = sym (ap (λ (o : Outcome). o.after) e) }

pub write_checks-requires-2 : goal.write_checks-requires-2
write_checks-requires-2 c = let A = (accepts _ _ _ _).0 c.requires.0 in
    let E = c.all_back in
    let r = c.if-not-all_back.false in
    record { width_in_bounds = (omega (arith, E.auto.rows, length-replicate {A = ℕ} 256 0, A.sound.m120), omega arith, omega arith); k_value = (c.requires.0, E.ensures.decides ∙ ap not r); checks_value = (E.ensures.matrix r, c.requires.1) }
