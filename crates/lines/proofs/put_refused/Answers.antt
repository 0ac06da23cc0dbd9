-- `lines::put_refused` meets its contract: the head, the number and the line's end, one after another. Assumes nothing.
use Prim.Native.Nat.{ℕ}
use mathlib.Core.Path.{ap}
use native.Mathlib.Omega.{arith}
use lib.ListN.{length}
use Rattle.parity.specs.Causes.{refusal_of}
use Rattle.parity.specs.Mend.{decimal, refused_line}
use Rattle.lines.proofs.Pieces.{after}
use Rattle.lines.proofs.Lines.{refused_length}
use Rattle.lines.proofs.put_refused.Goals as goal

pub put_bytes-next-requires : goal.put_bytes-next-requires
put_bytes-next-requires c = omega (arith, refused_length (refusal_of c.args.refusal).number)

pub put_decimal-next-requires : goal.put_decimal-next-requires
put_decimal-next-requires c = omega (arith, refused_length (refusal_of c.args.refusal).number, ap (λ (x : ℕ). length (decimal x)) c.number-cause.ensures)

pub put_byte-requires : goal.put_byte-requires
put_byte-requires c = omega (arith, refused_length (refusal_of c.args.refusal).number, ap (λ (x : ℕ). length (decimal x)) c.number-cause.ensures)

pub returns : goal.returns
unfolding refused_line
returns c = rw c.number-cause.ensures at
    (after (after c.put_bytes-next.ensures c.put_decimal-next.ensures) c.put_byte.ensures)
