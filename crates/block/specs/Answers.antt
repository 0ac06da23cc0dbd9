-- What mending a block answers, as the papers' number and values. Assumes nothing.
use Rattle.std.specs.Prelude.{ℕ, ◌≡◌, List, [], ◌∷◌, false, length, Option, Some, None, Result, Ok, Err}
use Rattle.parity.specs.Matrix.{cause}
use Rattle.parity.specs.Calls.{wrong_byte}
use Rattle.parity.specs.Causes.{refusal_of, Outcome}
use Rattle.parity.specs.Block.{mended, eliminating}
use Rattle.parity.specs.declared.Refusal.{Refusal}
use Rattle.block.specs.declared.Mended.{Mended}
use Rattle.block.specs.declared.Peeled.{Peeled}

-- an accepted matrix with k = 0, and a word for it
abbrev pub Admitted : List ℕ → ℕ → ℕ → List ℕ → Type 0
Admitted ws n m word = (cause ws n m 0 ≡ 0) × (length word ≡ n) × (wrong_byte 2 word ≡ false)

-- the last stage to run and the bits recovered, as the values carried
abbrev pub mended_values : Mended → List ℕ
mended_values x = x.stage ∷ x.recovered ∷ []

-- what mending comes to behind the peelings, with the word that they leave; if bits remain, elimination is still to come
abbrev pub finished : List ℕ → ℕ → ℕ → Option ℕ → ℕ → List ℕ → Outcome
finished ws n m (Some stage) recovered w = mended stage recovered w
finished ws n m None recovered w = eliminating ws n m w recovered

-- what the two peelings come to
abbrev pub staged : List ℕ → ℕ → ℕ → Result Peeled Refusal → List ℕ → Outcome
staged ws n m (Ok p) w = finished ws n m p.stage p.recovered w
staged ws n m (Err r) w = record { reply = refusal_of r; after = w }

-- if bits remain, the word is as it was received; else nothing is said here
abbrev pub KeptFor : Option ℕ → List ℕ → List ℕ → Type 0
KeptFor (Some stage) before after = Unit {0}
KeptFor None before after = after ≡ before

abbrev pub Kept : Result Peeled Refusal → List ℕ → List ℕ → Type 0
Kept (Ok p) before after = KeptFor p.stage before after
Kept (Err r) before after = Unit {0}

-- if bits remain, the word has n bytes of 0, 1 or 2; else nothing is asked
abbrev pub Ready : Option ℕ → ℕ → List ℕ → Type 0
Ready (Some stage) n w = Unit {0}
Ready None n w = (length w ≡ n) × (wrong_byte 2 w ≡ false)
