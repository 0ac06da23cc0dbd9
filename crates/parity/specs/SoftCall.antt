-- Document 02, M-112: what the call on soft bits answers and leaves, for all inputs. Checks: 1 to 4, 22, 10, 11, 23. Assumes nothing.
use Rattle.std.specs.Prelude.{ℕ, zero, suc, ◌+◌, Bool, not, cond, ◌&&◌, ◌||◌, List, [], ◌∷◌, eqb, leb, get_or, length, replicate, Float}
use Rattle.std.specs.Float.{nan}
use Rattle.parity.specs.Finite.{any, least, list_from}
use Rattle.parity.specs.Matrix.{lent}
use Rattle.parity.specs.Causes.{Reply, answer, refusal, refuse, accepting}
use Rattle.parity.specs.Calls.{byte_of, wrong_byte, wrong_place}
use Rattle.parity.specs.Floats.{positive_zero, too_large}
use Rattle.parity.specs.Soft.{message_at, result_after, byte_for, float_for}

-- cause 22: rounds outside 1 to 512
abbrev pub wrong_rounds : ℕ → Bool
wrong_rounds r = not (leb 1 r && leb r 512)

-- cause 10: another length of any lent slice but the matrix
abbrev pub wrong_lengths : ℕ → List ℕ → List Float → List ℕ → List Float → Bool
wrong_lengths N word floats bytes values =
    not (eqb (length word) N) || not (eqb (length floats) N) || not (eqb (length bytes) 65536) || not (eqb (length values) 65536)

-- cause 23 at bit b: a soft float that is not finite or above 1,048,576 in magnitude
unfoldable pub wrong_float : List ℕ → List Float → ℕ → Bool
wrong_float word floats b = eqb (byte_of word b) 3 && too_large (get_or floats b nan)

-- the reply behind causes 1 to 4, for N bits
unfoldable pub soft_reply : ℕ → ℕ → List ℕ → List Float → List ℕ → List Float → Reply
soft_reply N rounds word floats bytes values =
    refuse (wrong_rounds rounds) (refusal 22 [])
    (refuse (wrong_lengths N word floats bytes values) (refusal 10 [])
    (refuse (wrong_byte 3 word) (refusal 11 (wrong_place 3 word ∷ []))
    (refuse (any N (wrong_float word floats)) (refusal 23 (least N (wrong_float word floats) ∷ []))
    (answer []))))

unfoldable pub min_sum_reply : List ℕ → ℕ → ℕ → ℕ → ℕ → List ℕ → List Float → List ℕ → List Float → Reply
min_sum_reply ws n m k rounds word floats bytes values = accepting ws n m k (soft_reply (n + k) rounds word floats bytes values)

-- the list f i, f (i + 1), .., of n floats
unfoldable pub floats_from : ℕ → ℕ → (ℕ → Float) → List Float
floats_from i zero f = []
floats_from i (suc n) f = f i ∷ floats_from (suc i) n f

-- What the call does: its reply, and the four lent lists afterwards: word and floats, and the bytes and floats for messages.
pub record SoftOutcome : Type 0 where
  pub reply : Reply
  pub word : List ℕ
  pub floats : List Float
  pub bytes_of_messages : List ℕ
  pub floats_of_messages : List Float

-- min_sum: an answer puts each bit's result, after the rounds, in place of the input, in the same form, and leaves the messages zero; a refusal
-- leaves everything.
unfoldable pub min_sum_outcome : List ℕ → ℕ → ℕ → ℕ → ℕ → List ℕ → List Float → List ℕ → List Float → SoftOutcome
min_sum_outcome ws n m k rounds word floats bytes values =
    let r = min_sum_reply ws n m k rounds word floats bytes values in
    let made = eqb r.number 0 in
    let result = result_after (lent 8 ws) (n + k) (m + k) (message_at word floats) rounds in
    record {
      reply = r;
      word = cond made (list_from 0 (n + k) (λ b. byte_for (result b))) word;
      floats = cond made (floats_from 0 (n + k) (λ b. float_for (result b))) floats;
      bytes_of_messages = cond made (replicate 65536 0) bytes;
      floats_of_messages = cond made (replicate 65536 positive_zero) values;
    }
