-- Each code has from 1 to 31 bits.
use native.Mathlib.Omega.{arith}
use Rattle.house.proofs.Names.{sizes}
use Rattle.house_codes.proofs.print_check.Goals as goal

pub overflow_sub-n : goal.overflow_sub-n
overflow_sub-n g c = let s = sizes c.args.name in omega (arith, c.size-n.ensures.0)

pub overflow_shr-reverse_bits : goal.overflow_shr-reverse_bits
overflow_shr-reverse_bits g c = let s = sizes c.args.name in omega (arith, c.size-n.ensures.0)
