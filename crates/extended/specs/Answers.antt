-- What peeling with the orthogonalised copy answers and leaves. Assumes nothing.
use Rattle.std.specs.Prelude.{ℕ, ◌+◌, ◌-◌, ◌≡◌, Bool, true, false, cond, List, [], ◌∷◌, ◌++◌, eqb, get_or, length, take, replicate, Option, Some, None, Result, Ok, Err}
use Rattle.parity.specs.Causes.{Reply, answer, refusal, refusal_of}
use Rattle.parity.specs.Calls.{wrong_byte}
use Rattle.parity.specs.Block.{bits_recovered, copy_made, copy_peeled}
use Rattle.parity.specs.declared.Refusal.{Refusal}
use Rattle.extended.specs.declared.CopyPeeled.{CopyPeeled}

-- the received word of n bytes at the front of 512, with bytes of 2 behind it
pub record Longer (n : ℕ) (l : List ℕ) : Type 0 where
  pub size : length (take n l) ≡ n
  pub behind : l ≡ take n l ++ replicate (512 - n) 2
  pub bytes : wrong_byte 2 (take n l) ≡ false

-- the two numbers, as the values carried
abbrev pub copy_peeled_values : CopyPeeled → List ℕ
copy_peeled_values p = p.recovered ∷ p.left ∷ []

-- orthogonalising was refused 9
abbrev pub no_room : Result (Option CopyPeeled) Refusal → Bool
no_room (Ok None) = true
no_room (Ok (Some p)) = false
no_room (Err r) = false

abbrev pub copy_peeling_reply : Result (Option CopyPeeled) Refusal → Reply
copy_peeling_reply (Ok None) = refusal 9 []
copy_peeling_reply (Ok (Some p)) = answer (copy_peeled_values p)
copy_peeling_reply (Err r) = refusal_of r

-- a peeling's four numbers as two, sent and added bits together; a refusal stays
unfoldable pub in_all : Reply → Reply
in_all r = cond (eqb r.number 0) (answer (bits_recovered r ∷ (get_or r.values 2 0 + get_or r.values 3 0) ∷ [])) r

-- peeling the orthogonalised copy from the received word w, behind an orthogonalise that is refused 9
unfoldable pub copy_reply : List ℕ → ℕ → ℕ → List ℕ → Reply
copy_reply ws n m w = cond (eqb (copy_made ws n m).reply.number 9) (refusal 9 []) (in_all (copy_peeled ws n m w).reply)

-- the sent bytes afterwards
unfoldable pub copy_word : List ℕ → ℕ → ℕ → List ℕ → List ℕ
copy_word ws n m w = cond (eqb (copy_made ws n m).reply.number 9) w (take n (copy_peeled ws n m w).after)
