-- What the constants are, and that only the whole sum is cut. Assumes nothing.
use mathlib.Core.Path.{◌≡◌, refl}
use mathlib.Core.Bool.{false, true, cond}
use lib.IntN.{pos}
use lib.Ieee.{fin, span, climb, size, odd, units, round, neg, sum, add, lt, eq, of_fields, of_bits}
use lib.Dec.{eqb}
use Rattle.parity.specs.Floats.{positive_zero, limit, negative_limit}
use Rattle.parity.specs.Soft.{gathered, bit_sends}
use Rattle.parity.specs.declared.Channel.TheVariants.{Soft}

pub zero_is : positive_zero ≡ fin false 0 (pos 0)
unfolding of_bits
zero_is = refl

pub limit_is : limit ≡ fin false 1 (pos 20)
unfolding of_bits
limit_is = refl

pub lower_is : negative_limit ≡ fin true 1 (pos 20)
unfolding of_bits neg
lower_is = refl

-- Only the whole sum is cut: 1,048,576 and 1,048,576 and minus 1,048,576 are 1,048,576.
only_whole_sum : bit_sends (Soft limit) 2 (λ i. true) (λ i. cond (eqb i 0) (Soft limit) (Soft negative_limit)) ≡ Soft limit
unfolding bit_sends gathered of_bits of_fields neg add sum round units odd size span climb lt eq
only_whole_sum = refl
