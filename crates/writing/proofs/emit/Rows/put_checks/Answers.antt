-- `emit::Rows::put_checks` meets its contract. Assumes nothing.
use mathlib.Core.Path.{ap, ◌∙◌}
use Prim.Native.Nat.{◌+◌, ◌*◌}
use native.Mathlib.Omega.{arith}
use lib.ListN.{length, length-append}
use Rattle.parity.specs.Matrix.{lent}
use Rattle.parity.specs.Record.{check_words}
use Rattle.parity.proofs.Matrix.Lent.{row_room}
use Rattle.writing.specs.Write.{check_of}
use Rattle.writing.proofs.Emitting.{wrote_none, wrote_more, wrote_length, checks_next, checks_mono}
use Rattle.writing.proofs.emit.Rows.put_checks.Goals as goal

pub loop-c-init : goal.loop-c-init
loop-c-init c = unfold check_words in (omega arith, wrote_none _ _)

pub put_check-p-requires : goal.put_check-p-requires
put_check-p-requires c = let l = c.loop-c in
    let h = lent c.args.self.width c.args.self.words.now in
    let N = c.args.self.used * 64 in
    let f = c.args.form in
    let e = ap length (checks_next f h N l.c) ∙ length-append (check_words f h N l.c) (check_of f l.c (h l.c) N) in record { width_in_bounds = (omega (arith, c.requires.width_in_bounds.0, row_room c.args.self.width l.c c.args.m (omega arith)), omega (arith, c.requires.width_in_bounds.1)); used_in_bounds = omega (arith, c.requires.m_in_bounds, l.invariant.1.place, wrote_length _ _ _ _ _ l.invariant.1, checks_mono f h N (l.c + 1) c.args.m (omega arith)) }

pub loop-c-preserved : goal.loop-c-preserved
loop-c-preserved c = let l = c.loop-c in
    (omega arith, rw (checks_next c.args.form (lent c.args.self.width c.args.self.words.now) (c.args.self.used * 64) l.c) (wrote_more _ _ _ _ _ _ _ _ l.invariant.1 c.put_check-p.ensures))
