-- What every call answers and leaves, for all inputs: document 01's definitions behind its causes, in the order of the checks.
-- A call that changes nothing has a reply; one that is lent a list to change has an outcome. Assumes nothing.
use Rattle.std.specs.Prelude.{ℕ, suc, ◌+◌, ◌-◌, Bool, not, cond, ◌&&◌, ◌||◌, List, [], ◌∷◌, ◌++◌, eqb, ltb, leb, get_or, length, drop}
use Rattle.parity.specs.Finite.{one, any, least, list_from}
use Rattle.parity.specs.Matrix.{lent, pack, in_range, clean, rule_a, cause}
use Rattle.parity.specs.Cycles.{share, held_by, cycles, split_of, taken_back, others, Orthogonalised, orthogonal}
use Rattle.parity.specs.Splits.{not_built}
use Rattle.parity.specs.Words.{is_one, codeword, extended, stopping, peels, peeled, losses}
use Rattle.parity.specs.Determining.{some_agrees, determined}
use Rattle.parity.specs.StoppingSets.{stopping_sets, flat}
use Rattle.parity.specs.Record.{Loaded, faulty, loaded, loading, written}
use Rattle.parity.specs.Encoding.{rank_of, encoded}
use Rattle.parity.specs.House.{house_code, known}
use Rattle.parity.specs.Joining.{Joined, joined}
use Rattle.parity.specs.Causes.{Reply, answer, refusal, refuse, accepting, Outcome, leaving}

-- the byte of each bit of a word that is a list
abbrev pub byte_of : List ℕ → ℕ → ℕ
byte_of w b = get_or w b 0

-- cause 7: u = v, or either at N or above
unfoldable pub not_pair : ℕ → ℕ → ℕ → Bool
not_pair N u v = eqb u v || not (ltb u N && ltb v N)

-- cause 10: another length
abbrev pub wrong_length : ℕ → List ℕ → Bool
wrong_length N w = not (eqb (length w) N)

-- cause 11: a byte above the values named, and its lowest place
unfoldable pub wrong_byte : ℕ → List ℕ → Bool
wrong_byte top w = any (length w) (λ b. ltb top (byte_of w b))

unfoldable pub wrong_place : ℕ → List ℕ → ℕ
wrong_place top w = least (length w) (λ b. ltb top (byte_of w b))

-- causes 10 and 11 of a word of N bytes up to `top`
abbrev pub checking_bytes : ℕ → ℕ → List ℕ → Reply → Reply
checking_bytes N top w after = refuse (wrong_length N w) (refusal 10 []) (refuse (wrong_byte top w) (refusal 11 (wrong_place top w ∷ [])) after)

-- accepting alone: causes 1 to 4
unfoldable pub accept_reply : List ℕ → ℕ → ℕ → ℕ → Reply
accept_reply ws n m k = accepting ws n m k (answer [])

-- load: answers n, m and k, and writes all 4,096 words
unfoldable pub loaded_reply : Loaded → Reply
loaded_reply (faulty place) = refusal 5 (place ∷ [])
loaded_reply (loaded n m k h) = answer (n ∷ m ∷ k ∷ [])

-- of a faulty record this is discarded: the refusal leaves the words
unfoldable pub loaded_words : Loaded → List ℕ
loaded_words (faulty place) = []
loaded_words (loaded n m k h) = pack 8 h

unfoldable pub load_outcome : List ℕ → List ℕ → Outcome
load_outcome source ws =
    leaving ws (refuse (wrong_length 4096 ws) (refusal 1 []) (loaded_reply (loading source))) (loaded_words (loading source))

-- write: answers the number of words used; the others are left
unfoldable pub write_outcome : List ℕ → ℕ → ℕ → ℕ → List ℕ → Outcome
write_outcome ws n m k target =
    let out = written (lent 8 ws) n m k in
    leaving target
    (accepting ws n m k
    (refuse (not_built (lent 8 ws) n m k) (refusal 16 [])
    (refuse (ltb (length target) (length out)) (refusal 6 (length out ∷ []))
    (answer (length out ∷ [])))))
    (out ++ drop (length out) target)

-- share: answers the share of two different bits, and the lowest and the highest check that contain both
unfoldable pub share_reply : List ℕ → ℕ → ℕ → ℕ → ℕ → ℕ → Reply
share_reply ws n m k u v =
    accepting ws n m k (refuse (not_pair (n + k) u v) (refusal 7 []) (answer (share (lent 8 ws) (m + k) u v ∷ held_by (lent 8 ws) (m + k) u v)))

-- count: answers the cycle count
unfoldable pub count_reply : List ℕ → ℕ → ℕ → ℕ → Reply
count_reply ws n m k = accepting ws n m k (answer (cycles (lent 8 ws) (n + k) (m + k) ∷ []))

-- split: answers the share, the new k, and the lowest and the highest check that contained both bits
unfoldable pub split_reply : List ℕ → ℕ → ℕ → ℕ → ℕ → ℕ → Reply
split_reply ws n m k u v =
    accepting ws n m k
    (refuse (not_pair (n + k) u v) (refusal 7 [])
    (refuse (ltb (share (lent 8 ws) (m + k) u v) 2) (refusal 8 (share (lent 8 ws) (m + k) u v ∷ []))
    (refuse (eqb k 392) (refusal 9 [])
    (answer (share (lent 8 ws) (m + k) u v ∷ suc k ∷ held_by (lent 8 ws) (m + k) u v)))))

unfoldable pub split_outcome : List ℕ → ℕ → ℕ → ℕ → ℕ → ℕ → Outcome
split_outcome ws n m k u v = leaving ws (split_reply ws n m k u v) (pack 8 (split_of (lent 8 ws) (n + k) (m + k) u v))

-- take_back: takes back the newest added bit, n + k - 1, whose check is m + k - 1; answers the number s of other checks that contained it, and
-- the new k
unfoldable pub take_back_reply : List ℕ → ℕ → ℕ → ℕ → Reply
take_back_reply ws n m k =
    accepting ws n m k
    (refuse (eqb k 0) (refusal 15 [])
    (refuse (not (rule_a (taken_back (lent 8 ws) (n + (k - 1)) (m + (k - 1))) n m (k - 1))) (refusal 16 [])
    (answer (others (lent 8 ws) (n + (k - 1)) (m + (k - 1)) ∷ (k - 1) ∷ []))))

unfoldable pub take_back_outcome : List ℕ → ℕ → ℕ → ℕ → Outcome
take_back_outcome ws n m k = leaving ws (take_back_reply ws n m k) (pack 8 (taken_back (lent 8 ws) (n + (k - 1)) (m + (k - 1))))

-- orthogonalise: answers the number of splits, their sum and k, and the lowest and the highest check that held the pair of the final split, or is
-- refused 9 with them; either way the matrix stands after the splits made
abbrev pub orthogonalising : List ℕ → ℕ → ℕ → ℕ → Orthogonalised
orthogonalising ws n m k = orthogonal (393 - k) (lent 8 ws) n m k 0 0 []

unfoldable pub orthogonalised_reply : Orthogonalised → Reply
orthogonalised_reply o = cond o.finished (answer (o.splits ∷ o.sum ∷ o.k ∷ o.held)) (refusal 9 (o.splits ∷ o.sum ∷ o.k ∷ o.held))

unfoldable pub orthogonalise_outcome : List ℕ → ℕ → ℕ → ℕ → Outcome
orthogonalise_outcome ws n m k =
    let o = orthogonalising ws n m k in
    record { reply = accepting ws n m k (orthogonalised_reply o); after = cond (eqb (cause ws n m k) 0) (pack 8 o.matrix) ws }

-- verify: answers yes exactly for codewords
unfoldable pub verify_reply : List ℕ → ℕ → ℕ → ℕ → List ℕ → Reply
verify_reply ws n m k w =
    accepting ws n m k (checking_bytes (n + k) 2 w (answer (one (codeword (lent 8 ws) (n + k) (m + k) (byte_of w)) ∷ [])))

-- extend: writes the n sent bytes and then the k added bits
unfoldable pub extend_reply : List ℕ → ℕ → ℕ → ℕ → List ℕ → List ℕ → Reply
extend_reply ws n m k sent w = accepting ws n m k (refuse (wrong_length (n + k) w) (refusal 10 []) (checking_bytes n 1 sent (answer [])))

unfoldable pub extend_outcome : List ℕ → ℕ → ℕ → ℕ → List ℕ → List ℕ → Outcome
extend_outcome ws n m k sent w =
    leaving w (extend_reply ws n m k sent w) (list_from 0 (n + k) (λ b. one (extended (lent 8 ws) n m k (is_one (byte_of sent)) b)))

-- is_stopping: answers yes exactly for stopping sets
unfoldable pub is_stopping_reply : List ℕ → ℕ → ℕ → ℕ → List ℕ → Reply
is_stopping_reply ws n m k set =
    accepting ws n m k (checking_bytes (n + k) 1 set (answer (one (stopping (lent 8 ws) (n + k) (m + k) (is_one (byte_of set))) ∷ [])))

-- peel: answers how many sent bits and how many added bits were recovered, and how many of each are left
unfoldable pub peel_reply : List ℕ → ℕ → ℕ → ℕ → List ℕ → Reply
peel_reply ws n m k w =
    accepting ws n m k
    (checking_bytes (n + k) 2 w
    (refuse (not (peels (lent 8 ws) (n + k) (m + k) (byte_of w))) (refusal 12 [])
    (answer (losses n k (byte_of w) (peeled (lent 8 ws) (n + k) (m + k) (byte_of w))))))

unfoldable pub peel_outcome : List ℕ → ℕ → ℕ → ℕ → List ℕ → Outcome
peel_outcome ws n m k w = leaving w (peel_reply ws n m k w) (list_from 0 (n + k) (peeled (lent 8 ws) (n + k) (m + k) (byte_of w)))

-- determine: answers how many sent bits and how many added bits were recovered, peeled and eliminated ones together, and how many of each are left
unfoldable pub determine_reply : List ℕ → ℕ → ℕ → ℕ → List ℕ → Reply
determine_reply ws n m k w =
    accepting ws n m k
    (checking_bytes (n + k) 2 w
    (refuse (not (some_agrees (lent 8 ws) (n + k) (m + k) (byte_of w))) (refusal 12 [])
    (answer (losses n k (byte_of w) (determined (lent 8 ws) (n + k) (m + k) (byte_of w))))))

unfoldable pub determine_outcome : List ℕ → ℕ → ℕ → ℕ → List ℕ → Outcome
determine_outcome ws n m k w = leaving w (determine_reply ws n m k w) (list_from 0 (n + k) (determined (lent 8 ws) (n + k) (m + k) (byte_of w)))

-- rank: answers the rank
unfoldable pub rank_reply : List ℕ → ℕ → ℕ → ℕ → Reply
rank_reply ws n m k = accepting ws n m k (refuse (ltb 0 k) (refusal 13 []) (answer (rank_of (lent 8 ws) n m ∷ [])))

-- encode: writes the codeword of the message
unfoldable pub encode_reply : List ℕ → ℕ → ℕ → ℕ → List ℕ → List ℕ → Reply
encode_reply ws n m k message w =
    accepting ws n m k
    (refuse (ltb 0 k) (refusal 13 [])
    (refuse (wrong_length n w) (refusal 10 [])
    (checking_bytes (n - rank_of (lent 8 ws) n m) 1 message (answer []))))

unfoldable pub encode_outcome : List ℕ → ℕ → ℕ → ℕ → List ℕ → List ℕ → Outcome
encode_outcome ws n m k message w =
    leaving w (encode_reply ws n m k message w) (list_from 0 n (λ b. one (encoded (lent 8 ws) n m (is_one (byte_of message)) b)))

-- house code (M-104): copies the code of a name into all 4,096 words; answers n and m
unfoldable pub house_outcome : ℕ → List ℕ → Outcome
house_outcome name ws =
    leaving ws
    (refuse (wrong_length 4096 ws) (refusal 1 [])
    (refuse (not (known name)) (refusal 17 [])
    (answer ((house_code name).n ∷ (house_code name).m ∷ []))))
    (pack 8 (house_code name).matrix)

-- cause 18: a set size outside 1 to 4
unfoldable pub wrong_size : ℕ → Bool
wrong_size t = not (leb 1 t && leb t 4)

-- stopping sets (M-109): lists every stopping set of exactly t sent bits and answers how many there are; the further places are left
unfoldable pub stopping_sets_outcome : List ℕ → ℕ → ℕ → ℕ → ℕ → List ℕ → Outcome
stopping_sets_outcome ws n m k t target =
    let found = stopping_sets (lent 8 ws) n (n + k) (m + k) t in
    leaving target
    (accepting ws n m k
    (refuse (wrong_size t) (refusal 18 [])
    (refuse (ltb (length target) (length (flat found))) (refusal 19 (length (flat found) ∷ []))
    (answer (length found ∷ [])))))
    (flat found ++ drop (length (flat found)) target)

-- joining (M-111): causes 1, 2, 3, 4, 13 and 20 of two matrices, each over both before the next
unfoldable pub accepting_both : List ℕ → ℕ → ℕ → ℕ → List ℕ → ℕ → ℕ → ℕ → Reply → Reply
accepting_both ws₁ n₁ m₁ k₁ ws₂ n₂ m₂ k₂ after =
    refuse (wrong_length 4096 ws₁ || wrong_length 4096 ws₂) (refusal 1 [])
    (refuse (not (in_range n₁ m₁ k₁) || not (in_range n₂ m₂ k₂)) (refusal 2 [])
    (refuse (not (clean 8 (n₁ + k₁) (m₁ + k₁) 0 ws₁) || not (clean 8 (n₂ + k₂) (m₂ + k₂) 0 ws₂)) (refusal 3 [])
    (refuse (not (rule_a (lent 8 ws₁) n₁ m₁ k₁) || not (rule_a (lent 8 ws₂) n₂ m₂ k₂)) (refusal 4 [])
    (refuse (ltb 0 k₁ || ltb 0 k₂) (refusal 13 [])
    (refuse (not (eqb n₁ n₂)) (refusal 20 []) after)))))

-- join: cause 1 over the third slice too; joins the two matrices into all 4,096 words of the third, and answers the number of checks
abbrev pub joining : List ℕ → ℕ → ℕ → List ℕ → ℕ → Joined
joining ws₁ n m₁ ws₂ m₂ = joined n (lent 8 ws₁) m₁ (lent 8 ws₂) m₂

unfoldable pub join_reply : List ℕ → ℕ → ℕ → ℕ → List ℕ → ℕ → ℕ → ℕ → List ℕ → Reply
join_reply ws₁ n₁ m₁ k₁ ws₂ n₂ m₂ k₂ ws₃ =
    refuse (wrong_length 4096 ws₃) (refusal 1 [])
    (accepting_both ws₁ n₁ m₁ k₁ ws₂ n₂ m₂ k₂
    (refuse (ltb 120 (joining ws₁ n₁ m₁ ws₂ m₂).checks) (refusal 21 [])
    (answer ((joining ws₁ n₁ m₁ ws₂ m₂).checks ∷ []))))

unfoldable pub join_outcome : List ℕ → ℕ → ℕ → ℕ → List ℕ → ℕ → ℕ → ℕ → List ℕ → Outcome
join_outcome ws₁ n₁ m₁ k₁ ws₂ n₂ m₂ k₂ ws₃ =
    leaving ws₃ (join_reply ws₁ n₁ m₁ k₁ ws₂ n₂ m₂ k₂ ws₃) (pack 8 (joining ws₁ n₁ m₁ ws₂ m₂).matrix)
