-- Document 000, the article: its Theorem 1, Corollary 2, Lemma 3 and Theorems 4 to 6, in its own terms for matrices of any size, and then as the calls
-- answer. Assumes nothing.
-- H has n bits (the article's variables x) and m checks (its equations S), numbered from 0. What is in double quotes is the article's own sentence.
use Rattle.std.specs.Prelude.{ℕ, ◌≤◌, ◌+◌, ◌*◌, ◌<◌, ◌≡◌, Bool, true, false, ◌&&◌, List, [], ◌∷◌, ◌++◌, ltb, get_or, length, take}
use Rattle.std.specs.Bool.{xor, beq}
use Rattle.parity.specs.Finite.{one, sum, any}
use Rattle.parity.specs.Causes.{answer}
use Rattle.parity.specs.Matrix.{Matrix, lent, cause}
use Rattle.parity.specs.Cycles.{pairs, cycles}
use Rattle.parity.specs.Splits.{Pair, split_all}
use Rattle.parity.specs.Words.{even_checks, stopping}
use Rattle.parity.specs.Calls.{byte_of, count_reply, split_outcome, orthogonalise_outcome, is_stopping_reply}
use Rattle.parity.specs.Demand3.{Call, runs, start}

-- A four-cycle x_i - S_c - x_j - S_d - x_i of the graph: two bits i < j and two checks c < d with all four ones.
abbrev pub four_cycle : Matrix → ℕ → ℕ → ℕ → ℕ → Bool
four_cycle h i j c d = h c i && h c j && h d i && h d j

-- ψ(G), "The total number of four-cycles in G": of all i < j < n and c < d < m, those that are one.
unfoldable pub four_cycles : Matrix → ℕ → ℕ → ℕ
four_cycles h n m = sum n (λ j. sum j (λ i. sum m (λ d. sum d (λ c. one (four_cycle h i j c d)))))

-- Theorem 1: "the total number of four-cycles ψ(G) is given by" the sum over all i < j of (HᵀH)_ij choose 2, which is `cycles`, document 01's cycle count.
abbrev pub Theorem1 : Type 0
Theorem1 = (h : Matrix) (n m : ℕ) → four_cycles h n m ≡ cycles h n m

-- Corollary 2: "In a complete bipartite graph K_{m,n}, the total number of four-cycles is" n choose 2 times m choose 2; no matrix has more.
abbrev pub Corollary2 : Type 0
Corollary2 = (n m : ℕ) → (four_cycles (λ c b. true) n m ≡ pairs n * pairs m) × ((h : Matrix) → four_cycles h n m ≤ pairs n * pairs m)

-- "Let x_u and x_v be a pair of variables involved in a four-cycle": the lower and the higher bit of a pair are.
unfoldable pub in_four_cycle : Matrix → ℕ → ℕ → Pair → Bool
in_four_cycle h n m p = ltb p.lower p.higher && ltb p.higher n && any m (λ d. any d (λ c. four_cycle h p.lower p.higher c d))

-- Iterations of the algorithm, each of any such pair, the newest first: H_l is `split_all h n m ps` for a list of l pairs.
unfoldable pub iterations : Matrix → ℕ → ℕ → List Pair → Bool
iterations h n m [] = true
iterations h n m (p ∷ ps) = iterations h n m ps && in_four_cycle (split_all h n m ps) (n + length ps) (m + length ps) p

-- ψ(G_l)
abbrev pub four_cycles_after : Matrix → ℕ → ℕ → List Pair → ℕ
four_cycles_after h n m ps = four_cycles (split_all h n m ps) (n + length ps) (m + length ps)

-- Lemma 3: "ψ(G_l) < ψ(G_{l-1})".
abbrev pub Lemma3 : Type 0
Lemma3 = (h : Matrix) (n m : ℕ) (p : Pair) (ps : List Pair) → iterations h n m (p ∷ ps) ≡ true → four_cycles_after h n m (p ∷ ps) < four_cycles_after h n m ps

-- the auxiliary variable of each iteration is the sum x_u + x_v of its pair
unfoldable pub are_sums : ℕ → List Pair → (ℕ → Bool) → Bool
are_sums n [] x = true
are_sums n (p ∷ ps) x = are_sums n ps x && beq (x (n + length ps)) (xor (x p.lower) (x p.higher))

-- Theorem 4: "Any linear binary block code C has an equivalent bipartite graph representation G' that is free of four-cycles." Whichever pairs were taken,
-- going on leads to it, and the iterations are at most ψ(G) (section II: the auxiliary variables are "upper-bounded by the total number of four-cycles").
-- It is equivalent: a word is in C_l exactly if it begins with one of C, and its auxiliary variables are the sums; these are the one way to extend it.
pub record FourCycleFree (h : Matrix) (n m : ℕ) : Type 0 where
  pub goes_on : (ps : List Pair) → iterations h n m ps ≡ true
      → (more : List Pair) × (iterations h n m (more ++ ps) ≡ true) × (four_cycles_after h n m (more ++ ps) ≡ 0)
  pub bounded : (ps : List Pair) → iterations h n m ps ≡ true → length ps + four_cycles_after h n m ps ≤ four_cycles h n m
  pub equivalent : (ps : List Pair) → iterations h n m ps ≡ true → (x : ℕ → Bool)
      → even_checks (split_all h n m ps) (n + length ps) (m + length ps) x ≡ (even_checks h n m x && are_sums n ps x)

abbrev pub Theorem4 : Type 0
Theorem4 = (h : Matrix) (n m : ℕ) → FourCycleFree h n m

-- Theorem 5: "No subset of auxiliary variables is a stopping set." As its proof says, of nonempty ones: a stopping set without standard variables is empty.
abbrev pub Theorem5 : Type 0
Theorem5 = (h : Matrix) (n m : ℕ) (ps : List Pair) → iterations h n m ps ≡ true → (s : ℕ → Bool)
    → stopping (split_all h n m ps) (n + length ps) (m + length ps) s ≡ true
    → ((b : ℕ) → b < n → s b ≡ false) → (b : ℕ) → b < n + length ps → s b ≡ false

-- Theorem 6: "For any stopping set S' in H', define a set V such that V := {x_v ∈ S' and v ≤ n}. Now, V is a stopping set in H."
abbrev pub Theorem6 : Type 0
Theorem6 = (h : Matrix) (n m : ℕ) (ps : List Pair) → iterations h n m ps ≡ true → (s : ℕ → Bool)
    → stopping (split_all h n m ps) (n + length ps) (m + length ps) s ≡ true → stopping h n m (λ b. ltb b n && s b) ≡ true

-- As the calls answer. Theorem 1: counting answers the number of four-cycles of the matrix, added bits and checks among them.
abbrev pub CountsFourCycles : Type 0
CountsFourCycles = (ws : List ℕ) (n m k : ℕ) → cause ws n m k ≡ 0 → count_reply ws n m k ≡ answer (four_cycles (lent 8 ws) (n + k) (m + k) ∷ [])

-- Lemma 3: after a split that is made, counting answers less, by s (s - 1) / 2 at least.
abbrev pub CountsFewer : Type 0
CountsFewer = (ws : List ℕ) (n m k u v s k' : ℕ) (held : List ℕ) → (split_outcome ws n m k u v).reply ≡ answer (s ∷ k' ∷ held)
    → (before : ℕ) × (after : ℕ) × (count_reply ws n m k ≡ answer (before ∷ [])) × (count_reply (split_outcome ws n m k u v).after n m k' ≡ answer (after ∷ []))
    × (after + pairs s ≤ before) × (after < before)

-- Theorem 4: where 392 added bits leave room for as many splits as counting answers, orthogonalising finishes with at most so many, and counting then answers 0.
abbrev pub OrthogonalisingFinishes : Type 0
OrthogonalisingFinishes = (ws : List ℕ) (n m k before : ℕ) → count_reply ws n m k ≡ answer (before ∷ []) → k + before ≤ 392
    → let o = orthogonalise_outcome ws n m k in
    (o.reply.number ≡ 0) × (get_or o.reply.values 0 0 ≤ before) × (count_reply o.after n m (get_or o.reply.values 2 0) ≡ answer (0 ∷ []))

-- Theorem 5: of every accepted matrix, also one that no splits made, a stopping set without a sent bit has no bit.
abbrev pub AddedBitsDoNotStop : Type 0
AddedBitsDoNotStop = (ws : List ℕ) (n m k : ℕ) → cause ws n m k ≡ 0 → (t : List ℕ) → is_stopping_reply ws n m k t ≡ answer (1 ∷ [])
    → ((b : ℕ) → b < n → byte_of t b ≡ 0) → (b : ℕ) → b < n + k → byte_of t b ≡ 0

-- Theorem 6: after every list of demand 3's calls, the sent bits of a stopping set of the extended matrix are one of the given matrix.
abbrev pub SentBitsStop : Type 0
SentBitsStop = (given : List ℕ) (n m : ℕ) → cause given n m 0 ≡ 0 → (cs : List Call)
    → let s = runs n m (start given) cs in
    (t : List ℕ) → is_stopping_reply s.words n m s.k t ≡ answer (1 ∷ []) → is_stopping_reply given n m 0 (take n t) ≡ answer (1 ∷ [])
