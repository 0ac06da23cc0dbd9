-- `lines::text::put_decimal` meets its contract: it puts the digits before the last, and then the last. Assumes nothing.
use native.Mathlib.Omega.{arith}
use Rattle.lines.proofs.Pieces.{length_one_digit, length_more_digits, digit_placed, digits_placed, same_size}
use Rattle.lines.proofs.text.+put_decimal.Goals as goal

pub put_byte-requires : goal.put_byte-requires
put_byte-requires t c = omega (arith, length_one_digit c.args.x c.if-x-lt10.true)

pub returns-then-x-lt10 : goal.returns-then-x-lt10
returns-then-x-lt10 t c = digit_placed c.if-x-lt10.true c.digit.ensures c.put_byte.ensures

pub put_decimal-next-requires : goal.put_decimal-next-requires
put_decimal-next-requires t c = (omega arith, omega (arith, length_more_digits c.args.x c.if-x-lt10.false))

pub put_byte-requires-2 : goal.put_byte-requires-2
put_byte-requires-2 t c =
    omega (arith, length_more_digits c.args.x c.if-x-lt10.false, c.put_decimal-next.ensures.next, same_size c.put_decimal-next.ensures)

pub returns : goal.returns
returns t c = digits_placed c.if-x-lt10.false c.digit-2.ensures c.put_decimal-next.ensures c.put_byte-2.ensures
