-- The computed test of a case: the definitions on the matrix itself, and peeling by steps. It is no part of the statement, which is
-- `AllHold table` of Case and Table; that a case whose test is true holds is `law` of proofs/Law. Assumes nothing.
use Rattle.std.specs.Prelude.{ℕ, ◌+◌, ◌-◌, Bool, true, false, not, ◌&&◌, List, [], ◌∷◌, eqb, ltb, leb, length}
use Rattle.std.specs.Bool.{beq}
use Rattle.parity.specs.Finite.{one, all, list_from}
use Rattle.parity.specs.Matrix.{Matrix, in_range, rule_a}
use Rattle.parity.specs.Cycles.{share, cycles, Orthogonalised, orthogonal}
use Rattle.parity.specs.Words.{is_one, steps, agrees, losses}
use Rattle.parity.specs.Record.{Loaded, faulty, loaded, loading}
use Rattle.parity.specs.Encoding.{rank_of, encoded}
use Rattle.parity.specs.Calls.{byte_of, not_pair, wrong_byte}
use Rattle.bench.specs.Case.{listed, Case, counting, orthogonalising, splitting_no_pair, splitting_below_two, peeling, peeling_contradiction, ranking, encoding, loading_faulty}

unfoldable pub same_list : List ℕ → List ℕ → Bool
same_list [] [] = true
same_list [] (y ∷ ys) = false
same_list (x ∷ xs) [] = false
same_list (x ∷ xs) (y ∷ ys) = eqb x y && same_list xs ys

-- all listed bits are below N
unfoldable pub bits_below : ℕ → List ℕ → Bool
bits_below N [] = true
bits_below N (b ∷ bs) = ltb b N && bits_below N bs

unfoldable pub all_below : ℕ → List (List ℕ) → Bool
all_below N [] = true
all_below N (r ∷ rs) = bits_below N r && all_below N rs

-- checks that no cause refuses
unfoldable pub fits : ℕ → ℕ → ℕ → List (List ℕ) → Bool
fits n m k checks = in_range n m k && all_below (n + k) checks && leb (length checks) (m + k) && rule_a (listed checks) n m k

-- two matrices agree on N bits and M checks
unfoldable pub agree : ℕ → ℕ → Matrix → Matrix → Bool
agree N M g h = all M (λ c. all N (λ b. beq (g c b) (h c b)))

unfoldable pub orthogonalises : Orthogonalised → ℕ → ℕ → ℕ → ℕ → ℕ → List ℕ → List (List ℕ) → Bool
orthogonalises o n m splits total k held after =
    o.finished && eqb o.splits splits && eqb o.sum total && eqb o.k k && same_list o.held held && agree (n + k) (m + k) o.matrix (listed after)
    && fits n m k after

-- a word of N bytes up to top
unfoldable pub is_word : ℕ → ℕ → List ℕ → Bool
is_word N top w = eqb (length w) N && not (wrong_byte top w)

unfoldable pub peels_to : Matrix → ℕ → ℕ → ℕ → List ℕ → List ℕ → List ℕ → Bool
peels_to h n m k w numbers after =
    let end = steps (n + k) h (n + k) (m + k) (byte_of w) in
    agrees h (n + k) (m + k) end && same_list (losses n k (byte_of w) end) numbers && same_list (list_from 0 (n + k) end) after

unfoldable pub faulty_at : Loaded → ℕ → Bool
faulty_at (faulty p) place = eqb p place
faulty_at (loaded n m k h) place = false

unfoldable pub test : Case → Bool
test (counting g c) = fits g.n g.m g.k g.checks && eqb (cycles (listed g.checks) (g.n + g.k) (g.m + g.k)) c
test (orthogonalising g splits total k held after) =
    fits g.n g.m g.k g.checks
    && orthogonalises (orthogonal (393 - g.k) (listed g.checks) g.n g.m g.k 0 0 []) g.n g.m splits total k held after
test (splitting_no_pair g u v) = fits g.n g.m g.k g.checks && not_pair (g.n + g.k) u v
test (splitting_below_two g u v s) =
    fits g.n g.m g.k g.checks && not (not_pair (g.n + g.k) u v) && eqb (share (listed g.checks) (g.m + g.k) u v) s && ltb s 2
test (peeling g w numbers after) =
    fits g.n g.m g.k g.checks && is_word (g.n + g.k) 2 w
    && peels_to (listed g.checks) g.n g.m g.k w numbers after
test (peeling_contradiction g w) =
    fits g.n g.m g.k g.checks && is_word (g.n + g.k) 2 w
    && not (agrees (listed g.checks) (g.n + g.k) (g.m + g.k) (steps (g.n + g.k) (listed g.checks) (g.n + g.k) (g.m + g.k) (byte_of w)))
test (ranking g r) = fits g.n g.m g.k g.checks && eqb g.k 0 && eqb (rank_of (listed g.checks) g.n g.m) r
test (encoding g message w) =
    fits g.n g.m g.k g.checks && eqb g.k 0 && is_word (g.n - rank_of (listed g.checks) g.n g.m) 1 message
    && same_list (list_from 0 g.n (λ b. one (encoded (listed g.checks) g.n g.m (is_one (byte_of message)) b))) w
test (loading_faulty source place) = faulty_at (loading source) place

-- the test of a table
unfoldable pub tests : List Case → Bool
tests [] = true
tests (c ∷ cs) = test c && tests cs
