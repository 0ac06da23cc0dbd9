-- Document 02, M-108: solving checks in any order. A list of check numbers is a list of solving steps, one after the other, each on its check. A word is a
-- list of bytes; N bits and M checks are looked at. Assumes nothing.
use Rattle.std.specs.Prelude.{ℕ, Bool, true, not, cond, ◌&&◌, List, [], ◌∷◌, eqb, ltb, length}
use Rattle.parity.specs.Finite.{one, any, list_from}
use Rattle.parity.specs.Matrix.{Matrix}
use Rattle.parity.specs.Words.{erased, is_one, inside, odd}
use Rattle.parity.specs.Calls.{byte_of}

-- A check is ready if exactly one of its bits is erased.
unfoldable pub ready : Matrix → ℕ → List ℕ → ℕ → Bool
ready h N w c = eqb (inside h N c (erased (byte_of w))) 1

-- A solving step on check c writes, at its erased bit, the value that makes the check even: the sum modulo 2 of its other bits. Every other byte stays.
unfoldable pub solving : Matrix → ℕ → List ℕ → ℕ → List ℕ
solving h N w c =
    let value = one (odd (inside h N c (is_one (byte_of w)))) in
    list_from 0 (length w) (λ b. cond (h c b && erased (byte_of w) b) value (byte_of w b))

-- the word after a list of steps
unfoldable pub solving_all : Matrix → ℕ → List ℕ → List ℕ → List ℕ
solving_all h N w [] = w
solving_all h N w (c ∷ cs) = solving_all h N (solving h N w c) cs

-- A list is a run on a word if each of its steps is on one of the M checks, which is ready at its turn.
unfoldable pub is_run : Matrix → ℕ → ℕ → List ℕ → List ℕ → Bool
is_run h N M w [] = true
is_run h N M w (c ∷ cs) = ltb c M && ready h N w c && is_run h N M (solving h N w c) cs

-- A run is complete if it goes on until none is left: afterwards no check is ready.
unfoldable pub is_complete : Matrix → ℕ → ℕ → List ℕ → List ℕ → Bool
is_complete h N M w cs = is_run h N M w cs && not (any M (ready h N (solving_all h N w cs)))
