-- One pass over a check's messages, and what it tells of each bit's others. Assumes nothing.
use Rattle.std.specs.Prelude.{ℕ, zero, suc, ◌+◌, Bool, false, not, cond, eqb, ltb, Float}
use Rattle.std.specs.Float.Ieee.{lt}
use Rattle.parity.specs.Finite.{one}
use Rattle.parity.specs.Floats.{magnitude, turned, infinite}
use Rattle.parity.specs.Soft.{is_erased, is_soft, turns_sign, check_sends, but}
use Rattle.parity.specs.declared.Channel.{Channel}
use Rattle.parity.specs.declared.Channel.TheVariants.{Sure, Soft, Erased}
use Rattle.check_node.specs.declared.Seen.{Seen}

-- nothing seen yet, of d messages
abbrev pub seen_none : ℕ → Seen
seen_none d = record { erased = 0; soft = 0; odd = false; least = infinite; next = infinite; at = d }

-- a magnitude more, at place i: the least so far with its place, and the least of the others
abbrev pub see_size : Seen → ℕ → Float → Bool → Seen
see_size s i x flip = cond (lt x s.least)
    (record { erased = s.erased; soft = s.soft + 1; odd = flip; least = x; next = s.least; at = i })
    (cond (lt x s.next)
    (record { erased = s.erased; soft = s.soft + 1; odd = flip; least = s.least; next = x; at = s.at })
    (record { erased = s.erased; soft = s.soft + 1; odd = flip; least = s.least; next = s.next; at = s.at }))

-- a message more
abbrev pub see_one : Seen → ℕ → Channel → Seen
see_one s i (Sure b) = record { erased = s.erased; soft = s.soft; odd = cond b (not s.odd) s.odd; least = s.least; next = s.next; at = s.at }
see_one s i (Soft x) = see_size s i (magnitude x) (cond (turns_sign (Soft x)) (not s.odd) s.odd)
see_one s i Erased = record { erased = s.erased + 1; soft = s.soft; odd = s.odd; least = s.least; next = s.next; at = s.at }

-- the first i of d messages
unfoldable pub seen : ℕ → (ℕ → Channel) → ℕ → Seen
seen d f zero = seen_none d
seen d f (suc i) = see_one (seen d f i) i (f i)

-- what the check sends to place t, which sent v
abbrev pub answer_to : Seen → ℕ → Channel → Channel
answer_to s t v =
    cond (ltb (one (is_erased v)) s.erased) Erased
    (cond (eqb s.soft (one (is_soft v))) (Sure (cond (turns_sign v) (not s.odd) s.odd))
    (Soft (turned (cond (turns_sign v) (not s.odd) s.odd) (cond (eqb s.at t) s.next s.least))))

-- A check's answers replace what its bits sent.
unfoldable pub check_answer : ℕ → (ℕ → Channel) → ℕ → Channel
check_answer d f t = check_sends d (but t) f
