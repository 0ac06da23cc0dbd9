-- What `mend` answers, and its output afterwards, for a text and an output of any length. Assumes nothing.
use Rattle.std.specs.Prelude.{ℕ, Bool, cond, List, ◌++◌, ltb, length, drop, Result, Ok, Err}
use Rattle.receiver.specs.declared.TooShort.{TooShort}

-- the output has no room for the text
abbrev pub too_short : List ℕ → List ℕ → Bool
too_short text out = ltb (length out) (length text)

-- the number of bytes written, or of those needed
unfoldable pub mending_answer : List ℕ → List ℕ → Result ℕ TooShort
mending_answer text out = cond (too_short text out) (Err (record { needed = length text })) (Ok (length text))

-- the text, and the bytes after it as they were; an output that is too short is left
unfoldable pub mending_output : List ℕ → List ℕ → List ℕ
mending_output text out = cond (too_short text out) out (text ++ drop (length text) out)
