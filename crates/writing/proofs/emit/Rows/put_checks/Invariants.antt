-- What the loops of `put_checks` keep.
use Prim.Native.Nat.{◌*◌, ◌≤◌}
use Rattle.parity.specs.Matrix.{lent}
use Rattle.parity.specs.Record.{check_words}
use Rattle.writing.specs.Write.{Wrote}
use Rattle.writing.proofs.emit.Rows.put_checks.Given as goal

abbrev pub invariant-loop-c : goal.invariant-loop-c
invariant-loop-c l = (l.c ≤ l.m) × Wrote l.initial.target l.target 1 (check_words l.form (lent l.self.width l.self.words.now) (l.self.used * 64) l.c) l.p
