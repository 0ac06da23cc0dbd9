-- Document 02, M-112: what checks and bits send, the rounds, and the result of each bit. Assumes nothing.
-- A channel value, a message or a result is `Sure` with a bit, `Soft` with a float or `Erased`.
use Rattle.std.specs.Prelude.{ℕ, zero, suc, ◌-◌, Bool, true, false, not, cond, ◌&&◌, ◌||◌, List, eqb, get_or, Float}
use Rattle.std.specs.Float.{nan, binary32}
use Rattle.std.specs.Float.Ieee.{add}
use Rattle.parity.specs.Finite.{one, count, all, any}
use Rattle.parity.specs.Matrix.{Matrix}
use Rattle.parity.specs.Words.{odd}
use Rattle.parity.specs.Floats.{positive_zero, negative, plus_zero, magnitude, turned, lesser, cut, infinite, finite}
use Rattle.parity.specs.declared.Channel.{Channel}
use Rattle.parity.specs.declared.Channel.TheVariants.{Sure, Soft, Erased}

-- A value in a byte and a float: byte 0 or 1 sure, 2 erased, 3 soft; the float is read only for 3, and is plus zero unless soft.
abbrev pub channel_of : ℕ → Float → Channel
channel_of t x = cond (eqb t 3) (Soft x) (cond (eqb t 2) Erased (Sure (eqb t 1)))

abbrev pub byte_for : Channel → ℕ
byte_for (Sure b) = one b
byte_for (Soft x) = 3
byte_for Erased = 2

abbrev pub float_for : Channel → Float
float_for (Sure b) = positive_zero
float_for (Soft x) = x
float_for Erased = positive_zero

-- value i of those that lists of bytes and floats hold
unfoldable pub message_at : List ℕ → List Float → ℕ → Channel
message_at ts xs i = channel_of (get_or ts i 0) (get_or xs i nan)

abbrev pub is_erased : Channel → Bool
is_erased (Sure b) = false
is_erased (Soft x) = false
is_erased Erased = true

abbrev pub is_soft : Channel → Bool
is_soft (Sure b) = false
is_soft (Soft x) = true
is_soft Erased = false

abbrev pub is_sure : Channel → Bool
is_sure (Sure b) = true
is_sure (Soft x) = false
is_sure Erased = false

-- a sure 1 and a negative value turn the sign
abbrev pub turns_sign : Channel → Bool
turns_sign (Sure b) = b
turns_sign (Soft x) = negative x
turns_sign Erased = false

-- one value more among those whose least magnitude is looked for
abbrev pub least_with : Float → Channel → Float
least_with a (Sure b) = a
least_with a (Soft x) = lesser a (magnitude x)
least_with a Erased = a

-- the least magnitude of the soft ones among f 0 .. f (n - 1), of those that pass the test
unfoldable pub least_soft : ℕ → (ℕ → Bool) → (ℕ → Channel) → Float
least_soft zero p f = infinite
least_soft (suc n) p f = cond (p n) (least_with (least_soft n p f) (f n)) (least_soft n p f)

-- whether an odd number of them turns the sign; where all are sure, this is their parity
unfoldable pub turns_odd : ℕ → (ℕ → Bool) → (ℕ → Channel) → Bool
turns_odd n p f = odd (count n (λ i. p i && turns_sign (f i)))

-- What a check sends to a bit, from what its other bits sent: of f 0 .. f (n - 1) those that pass the test.
-- Erased if one is erased; sure with their parity if all are sure; else the least magnitude among the soft ones, its sign turned once for each sure 1
-- and each negative value.
unfoldable pub check_sends : ℕ → (ℕ → Bool) → (ℕ → Channel) → Channel
check_sends n p f =
    cond (any n (λ i. p i && is_erased (f i))) Erased
    (cond (all n (λ i. not (p i) || is_sure (f i))) (Sure (turns_odd n p f))
    (Soft (turned (turns_odd n p f) (least_soft n p f))))

-- Two values in order: the first sure one, else the soft ones added, else erased. One rounding for each addition.
abbrev pub with_next : Channel → Channel → Channel
with_next (Sure a) v = Sure a
with_next (Soft s) (Sure b) = Sure b
with_next (Soft s) (Soft x) = Soft (add binary32 s x)
with_next (Soft s) Erased = Soft s
with_next Erased v = v

-- the channel value v, and then those of f 0 .. f (n - 1) that pass the test, by rising number
unfoldable pub gathered : Channel → ℕ → (ℕ → Bool) → (ℕ → Channel) → Channel
gathered v zero p f = v
gathered v (suc n) p f = cond (p n) (with_next (gathered v n p f) (f n)) (gathered v n p f)

-- Only the whole sum is cut, and zero leaves as plus zero.
abbrev pub settled : Channel → Channel
settled (Sure b) = Sure b
settled (Soft x) = Soft (plus_zero (cut x))
settled Erased = Erased

-- What a bit sends to a check, from its channel value v and what the other checks sent; its result uses all its checks.
unfoldable pub bit_sends : Channel → ℕ → (ℕ → Bool) → (ℕ → Channel) → Channel
unfolding gathered
bit_sends v n p f = settled (gathered v n p f)

-- every number but t
abbrev pub but : ℕ → ℕ → Bool
but t i = not (eqb i t)

-- Messages, by check and bit. N bits, M checks.
abbrev pub Messages : Type 0
Messages = ℕ → ℕ → Channel

-- what each check sends to each of its bits, from what its other bits sent
unfoldable pub to_bits : Matrix → ℕ → Messages → Messages
to_bits h N sent c b = check_sends N (λ a. h c a && but b a) (sent c)

-- what each bit sends to each of its checks, from its channel value and what the other checks sent
unfoldable pub to_checks : Matrix → ℕ → (ℕ → Channel) → Messages → Messages
to_checks h M channel heard c b = bit_sends (channel b) M (λ d. h d b && but c d) (λ d. heard d b)

-- What the bits send after r rounds, each all checks and then all bits; before the first they send their channel value.
unfoldable pub sent_after : Matrix → ℕ → ℕ → (ℕ → Channel) → ℕ → Messages
sent_after h N M channel zero = λ c b. channel b
sent_after h N M channel (suc r) = to_checks h M channel (to_bits h N (sent_after h N M channel r))

-- The result of bit b after r rounds, r at least 1: all its checks are used, as they sent in the last round.
unfoldable pub result_after : Matrix → ℕ → ℕ → (ℕ → Channel) → ℕ → ℕ → Channel
result_after h N M channel r b = bit_sends (channel b) M (λ d. h d b) (λ d. to_bits h N (sent_after h N M channel (r - 1)) d b)

-- a soft float is finite
abbrev pub sound : Channel → Bool
sound (Sure b) = true
sound (Soft x) = finite x
sound Erased = true
