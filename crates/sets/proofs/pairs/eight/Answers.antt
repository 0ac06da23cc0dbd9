-- `pairs::eight` meets its contract. Assumes nothing.
use Prim.Native.Nat.{ℕ, ◌+◌, ◌≤◌, ◌<◌}
use native.Mathlib.Omega.{arith}
use Rattle.parity.specs.Calls.{byte_of}
use Rattle.parity.proofs.Words.Bytes.{right_bytes}
use Rattle.sets.proofs.Eights.{eight_ones, eight_twos}
use Rattle.sets.proofs.pairs.eight.Goals as goal

pub returns : goal.returns
returns c = let w = c.args.bytes.now in
    let small : (t : ℕ) → t < 8 → byte_of w (c.args.b + t) ≤ 2 = λ t l. (right_bytes 2 w).0 c.requires.1 (c.args.b + t) (omega (arith, c.requires.0)) in
    rw (c.four.ensures.0, c.four-2.ensures.0) (eight_twos w c.args.b small, eight_ones w c.args.b small)
