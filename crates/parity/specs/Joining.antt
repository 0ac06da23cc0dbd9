-- Document 02, M-111, 'Two senders' checks joined': the checks of two matrices with k = 0 over the same n bits. Assumes nothing.
use Rattle.std.specs.Prelude.{ℕ, zero, suc, Bool, cond, eqb}
use Rattle.std.specs.Bool.{beq}
use Rattle.parity.specs.Finite.{all, any}
use Rattle.parity.specs.Matrix.{Matrix}

-- Two checks are equal: each of the n bits is contained in both or in neither.
unfoldable pub same_check : ℕ → (ℕ → Bool) → (ℕ → Bool) → Bool
same_check n s t = all n (λ b. beq (s b) (t b))

-- the result: its matrix and the number of its checks
pub record Joined : Type 0 where
  pub matrix : Matrix
  pub checks : ℕ

-- A check equals an earlier check of the result.
unfoldable pub equals_earlier : ℕ → Joined → (ℕ → Bool) → Bool
equals_earlier n j s = any j.checks (λ d. same_check n (j.matrix d) s)

-- the result with a check behind those that it has
unfoldable pub with_check : Joined → (ℕ → Bool) → Joined
with_check j s = record { matrix = λ c b. cond (eqb c j.checks) (s b) (j.matrix c b); checks = suc j.checks }

-- A check of the second is added unless it equals an earlier check of the result.
unfoldable pub join_check : ℕ → Joined → (ℕ → Bool) → Joined
join_check n j s = cond (equals_earlier n j s) j (with_check j s)

-- The first's m checks, then those of the second that equal no earlier check of the result, in order. The last argument is how many of the second's
-- checks are looked at.
unfoldable pub joined : ℕ → Matrix → ℕ → Matrix → ℕ → Joined
joined n h m g zero = record { matrix = h; checks = m }
joined n h m g (suc c) = join_check n (joined n h m g c) (g c)
