-- What a worked case of document 01 says of a call. Assumes nothing.
use Rattle.std.specs.Prelude.{ℕ, zero, suc, ◌≡◌, Bool, false, ◌||◌, List, [], ◌∷◌, eqb, length}
use Rattle.parity.specs.Matrix.{Matrix, pack}
use Rattle.parity.specs.Causes.{answer, refusal}
use Rattle.parity.specs.Calls.{load_outcome, count_reply, split_outcome, orthogonalise_outcome, peel_outcome, rank_reply, encode_outcome}

-- a bit is in a list
unfoldable pub among : List ℕ → ℕ → Bool
among [] b = false
among (x ∷ xs) b = eqb x b || among xs b

-- the matrix whose checks contain the bits listed
unfoldable pub listed : List (List ℕ) → Matrix
listed [] c b = false
listed (r ∷ rs) zero b = among r b
listed (r ∷ rs) (suc c) b = listed rs c b

-- n, m and k, and the bits of each check
pub record Lent : Type 0 where
  pub n : ℕ
  pub m : ℕ
  pub k : ℕ
  pub checks : List (List ℕ)

-- its 4,096 words
unfoldable pub words_of : List (List ℕ) → List ℕ
words_of checks = pack 8 (listed checks)

-- A call on a matrix, and what it answers and leaves.
pub data Case : Type 0 where
  -- counting answers the cycle count
  counting : Lent → ℕ → Case
  -- orthogonalising answers splits, sum and k, and the lowest and the highest check that held the final pair, and leaves these checks
  orthogonalising : Lent → ℕ → ℕ → ℕ → List ℕ → List (List ℕ) → Case
  -- splitting u and v is refused 7
  splitting_no_pair : Lent → ℕ → ℕ → Case
  -- splitting u and v is refused 8 with the share
  splitting_below_two : Lent → ℕ → ℕ → ℕ → Case
  -- peeling a word answers how many sent and added bits were recovered and how many of each are left, and leaves a word
  peeling : Lent → List ℕ → List ℕ → List ℕ → Case
  -- peeling a word is refused 12
  peeling_contradiction : Lent → List ℕ → Case
  -- the rank
  ranking : Lent → ℕ → Case
  -- encoding a message writes a word
  encoding : Lent → List ℕ → List ℕ → Case
  -- loading a record is refused 5 at a place
  loading_faulty : List ℕ → ℕ → Case

-- What a case says, in the calls' own definitions. A refusal leaves what was lent as it was.
abbrev pub Holds : Case → Type 0
Holds (counting g cycles) = count_reply (words_of g.checks) g.n g.m g.k ≡ answer (cycles ∷ [])
Holds (orthogonalising g splits total k held after) =
    orthogonalise_outcome (words_of g.checks) g.n g.m g.k ≡ record { reply = answer (splits ∷ total ∷ k ∷ held); after = words_of after }
Holds (splitting_no_pair g u v) =
    split_outcome (words_of g.checks) g.n g.m g.k u v ≡ record { reply = refusal 7 []; after = words_of g.checks }
Holds (splitting_below_two g u v s) =
    split_outcome (words_of g.checks) g.n g.m g.k u v ≡ record { reply = refusal 8 (s ∷ []); after = words_of g.checks }
Holds (peeling g w numbers after) =
    peel_outcome (words_of g.checks) g.n g.m g.k w ≡ record { reply = answer numbers; after = after }
Holds (peeling_contradiction g w) =
    peel_outcome (words_of g.checks) g.n g.m g.k w ≡ record { reply = refusal 12 []; after = w }
Holds (ranking g r) = rank_reply (words_of g.checks) g.n g.m g.k ≡ answer (r ∷ [])
Holds (encoding g message w) =
    (held : List ℕ) → length held ≡ g.n
    → encode_outcome (words_of g.checks) g.n g.m g.k message held ≡ record { reply = answer []; after = w }
Holds (loading_faulty source place) =
    (ws : List ℕ) → length ws ≡ 4096 → load_outcome source ws ≡ record { reply = refusal 5 (place ∷ []); after = ws }

-- all cases of a table
abbrev pub AllHold : List Case → Type 0
AllHold [] = Unit {0}
AllHold (c ∷ cs) = Holds c × AllHold cs
