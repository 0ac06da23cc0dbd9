-- Document 02, M-112: 32-bit floats, their zero, sign and magnitude. `Float` is the library's model of IEEE 754: NaN, an infinity, or sign,
-- size and exponent. Assumes nothing.
use Rattle.std.specs.Prelude.{Bool, true, false, not, cond, ◌&&◌, Float}
use Rattle.std.specs.Float.{nan, inf, fin, binary32}
use Rattle.std.specs.Float.Ieee.{neg, lt, eq, le, of_bits}

-- plus zero, 1,048,576 and minus 1,048,576, by their bit patterns; what they are is `zero_is`, `limit_is` and `lower_is` of proofs/Soft/Numbers
abbrev pub positive_zero : Float
positive_zero = of_bits binary32 0

abbrev pub limit : Float
limit = of_bits binary32 0x49800000

abbrev pub negative_limit : Float
negative_limit = neg limit

-- above every finite float: the least of no floats
abbrev pub infinite : Float
infinite = of_bits binary32 0x7f800000

-- finite: no NaN and no infinity
abbrev pub finite : Float → Bool
finite nan = false
finite (inf s) = false
finite (fin s m e) = true

-- Zero counts as positive.
abbrev pub negative : Float → Bool
negative x = lt x positive_zero

-- Zero leaves as plus zero.
abbrev pub plus_zero : Float → Float
plus_zero x = cond (eq x positive_zero) positive_zero x

abbrev pub magnitude : Float → Float
magnitude x = cond (negative x) (neg x) x

-- the sign turned, or not
abbrev pub turned : Bool → Float → Float
turned t x = plus_zero (cond t (neg x) x)

-- the lesser of two, the first where they are equal
abbrev pub lesser : Float → Float → Float
lesser a x = cond (lt x a) x a

-- cut to magnitude 1,048,576
abbrev pub cut : Float → Float
cut x = cond (lt limit x) limit (cond (lt x negative_limit) negative_limit x)

-- cause 23 for a soft float: not finite, or above 1,048,576 in magnitude
abbrev pub too_large : Float → Bool
too_large x = not (finite x && le (magnitude x) limit)
