-- `write_checks` meets its contract. Assumes nothing.
use mathlib.Core.Path.{sym, ap, ◌∙◌}
use mathlib.Core.List.{[], ◌∷◌}
use Prim.Native.Nat.{ℕ, ◌≤◌}
use native.Mathlib.Omega.{arith}
use lib.ListN.{length}
use Rattle.parity.specs.Matrix.{lent}
use Rattle.parity.specs.Record.{written}
use Rattle.parity.specs.Causes.{Outcome, answer}
use Rattle.parity.proofs.Matrix.Accept.{accepts}
use Rattle.parity.proofs.Record.Records.{write_short, write_made}
use Rattle.parity.proofs.Record.RoundTrip.{written_size}
use Rattle.writing.proofs.Emitting.{needed_words, plain_written, wrote_first}
use Rattle.writing.proofs.write_checks.Goals as goal

pub needed-requires : goal.needed-requires
needed-requires c = (c.requires.width_in_bounds.0, ((accepts _ _ _ _).0 c.requires.k_value.0).sound.m120)

pub overflow_add-used : goal.overflow_add-used
overflow_add-used c = let A = (accepts _ _ _ _).0 c.requires.k_value.0 in
    omega (arith, needed_words _ _ _ _ _ _ A.sound c.requires.k_value.1 c.requires.checks_value.0 c.needed.ensures, written_size _ _ _ _ A.sound)

pub returns-then-record-used : goal.returns-then-record-used
returns-then-record-used c = let A = (accepts _ _ _ _).0 c.requires.k_value.0 in
    let u = needed_words _ _ _ _ _ _ A.sound c.requires.k_value.1 c.requires.checks_value.0 c.needed.ensures in
    let e = write_short _ _ _ _ c.args.«record».now c.requires.k_value.0 c.requires.k_value.1 (omega (arith, u, c.if-record-used.true)) in
    rw u record { result_value = sym (ap (λ (o : Outcome). o.reply) e); record_after = sym (ap (λ (o : Outcome). o.after) e) }

pub put_record-requires : goal.put_record-requires
put_record-requires c = let A = (accepts _ _ _ _).0 c.requires.k_value.0 in
    let u = needed_words _ _ _ _ _ _ A.sound c.requires.k_value.1 c.requires.checks_value.0 c.needed.ensures in record { width_in_bounds = (c.requires.width_in_bounds.0, A.words, A.sound); k_in_bounds = rw (c.requires.checks_value.1, plain_written (lent c.args.width c.args.checks.now) (lent 8 c.args.words.now) 128 c.args.n c.args.m c.args.k (omega (arith, A.sound.n120)) A.sound c.requires.k_value.1 c.requires.checks_value.0) (omega (arith, u, c.if-record-used.false)) }

pub returns : goal.returns
returns c = let A = (accepts _ _ _ _).0 c.requires.k_value.0 in
    let u = needed_words _ _ _ _ _ _ A.sound c.requires.k_value.1 c.requires.checks_value.0 c.needed.ensures in
    let k : length (written (lent 8 c.args.words.now) c.args.n c.args.m c.args.k) ≤ length c.args.«record».now = rw (← u) c.if-record-used.false in
    let e = write_made _ _ _ _ c.args.«record».now c.requires.k_value.0 c.requires.k_value.1 k in
    let W = rw (c.requires.checks_value.1, plain_written (lent c.args.width c.args.checks.now) (lent 8 c.args.words.now) 128 c.args.n c.args.m c.args.k (omega (arith, A.sound.n120)) A.sound c.requires.k_value.1 c.requires.checks_value.0) at c.put_record.ensures in
    record { result_value = ap (λ (x : ℕ). answer (x ∷ [])) u ∙ sym (ap (λ (o : Outcome). o.reply) e); record_after = wrote_first _ _ _ _ W k ∙ sym (ap (λ (o : Outcome). o.after) e) }
