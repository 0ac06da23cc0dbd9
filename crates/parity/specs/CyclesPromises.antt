-- Document 02, M-101 and M-106: what is promised of taking back a split and of the checks that hold a pair, over what the calls answer and leave.
-- Assumes nothing.
use Rattle.std.specs.Prelude.{ℕ, ◌+◌, ◌<◌, ◌-◌, ◌≡◌, Bool, true, false, not, ◌&&◌, List, [], ◌∷◌, eqb}
use Rattle.parity.specs.Causes.{answer}
use Rattle.parity.specs.Matrix.{lent, cause, Matrix}
use Rattle.parity.specs.Calls.{split_outcome, take_back_outcome, share_reply, orthogonalise_outcome}

-- M-101: a split that is made, followed by taking back, gives the same words and k; both answer the same s.
abbrev pub SplitTakenBack : Type 0
SplitTakenBack = (ws : List ℕ) (n m k u v s k' : ℕ) (held : List ℕ) → (split_outcome ws n m k u v).reply ≡ answer (s ∷ k' ∷ held)
    → take_back_outcome (split_outcome ws n m k u v).after n m k' ≡ record { reply = answer (s ∷ k ∷ []); after = ws }

-- M-106: the carried values are the lowest and the highest check, of M, of a set: both are in it, and none of it is below or above.
pub record Names (M : ℕ) (set : ℕ → Bool) (held : List ℕ) : Type 0 where
  pub lowest : ℕ
  pub highest : ℕ
  pub both : held ≡ lowest ∷ highest ∷ []
  pub lowest_in : (lowest < M) × (set lowest ≡ true)
  pub highest_in : (highest < M) × (set highest ≡ true)
  pub none_below : (c : ℕ) → c < lowest → set c ≡ false
  pub none_above : (c : ℕ) → highest < c → c < M → set c ≡ false

-- the checks that contain two bits
abbrev pub holding : Matrix → ℕ → ℕ → ℕ → Bool
holding h u v c = h c u && h c v

-- the checks, other than check c₀, that contain a bit
abbrev pub holding_beside : Matrix → ℕ → ℕ → ℕ → Bool
holding_beside h c₀ b c = not (eqb c c₀) && h c b

-- The share call gives the lowest and the highest check that contain both bits, or none of either when the share is 0.
abbrev pub ShareHolders : Type 0
ShareHolders = (ws : List ℕ) (n m k u v s : ℕ) (held : List ℕ) → share_reply ws n m k u v ≡ answer (s ∷ held)
    → (s ≡ 0 → held ≡ []) × (0 < s → Names (m + k) (holding (lent 8 ws) u v) held)

-- A made split carries both; they are the lowest and the highest check, other than its own, that contain the new bit afterwards.
abbrev pub SplitHolders : Type 0
SplitHolders = (ws : List ℕ) (n m k u v s k' : ℕ) (held : List ℕ) → (split_outcome ws n m k u v).reply ≡ answer (s ∷ k' ∷ held)
    → Names (m + k) (holding (lent 8 ws) u v) held × Names (m + k') (holding_beside (lent 8 (split_outcome ws n m k u v).after) (m + k) (n + k)) held

-- An orthogonalise, finished or refused 9, carries those of its final split: they are the lowest and the highest check, other than its own, that contain
-- the newest added bit afterwards. If it made none, it carries none of either.
abbrev pub OrthogonaliseHolders : Type 0
OrthogonaliseHolders = (ws : List ℕ) (n m k splits total k' : ℕ) (held : List ℕ) → cause ws n m k ≡ 0
    → (orthogonalise_outcome ws n m k).reply.values ≡ splits ∷ total ∷ k' ∷ held
    → (splits ≡ 0 → held ≡ [])
    × (0 < splits → Names (m + k') (holding_beside (lent 8 (orthogonalise_outcome ws n m k).after) (m + (k' - 1)) (n + (k' - 1))) held)
