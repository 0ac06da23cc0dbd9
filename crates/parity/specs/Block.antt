-- Document 02, M-110: one door for sample blocks, in its three stages, over what the calls of Calls come to. Assumes nothing.
use Rattle.std.specs.Prelude.{ℕ, ◌+◌, Bool, cond, List, [], ◌∷◌, ◌++◌, eqb, ltb, get_or, take, replicate}
use Rattle.parity.specs.Causes.{Reply, answer, refusal, refuse, accepting, Outcome, leaving}
use Rattle.parity.specs.Calls.{orthogonalise_outcome, peel_outcome, determine_outcome}

-- Of the four numbers that a peeling answers: how many bits it recovered, whether sent bits remain, and whether bits remain.
abbrev pub bits_recovered : Reply → ℕ
bits_recovered r = get_or r.values 0 0 + get_or r.values 1 0

abbrev pub sent_remain : Reply → Bool
sent_remain r = ltb 0 (get_or r.values 2 0)

abbrev pub bits_remain : Reply → Bool
bits_remain r = ltb 0 (get_or r.values 2 0 + get_or r.values 3 0)

-- The answer names the last stage to run, and how many bits the two peelings recovered together.
abbrev pub mended : ℕ → ℕ → List ℕ → Outcome
mended stage bits after = record { reply = answer (stage ∷ bits ∷ []); after = after }

-- Stage 3: it eliminates on the given matrix, from the received word; the peelings before recovered so many bits.
unfoldable pub eliminating : List ℕ → ℕ → ℕ → List ℕ → ℕ → Outcome
eliminating ws n m w bits =
    let d = determine_outcome ws n m 0 w in
    cond (eqb d.reply.number 0) (mended 3 bits d.after) d

-- The orthogonalise of its own copy, the k that it answers, and the peeling of that copy from the received word, with k bytes of 2 behind it.
abbrev pub copy_made : List ℕ → ℕ → ℕ → Outcome
copy_made ws n m = orthogonalise_outcome ws n m 0

abbrev pub copy_k : List ℕ → ℕ → ℕ → ℕ
copy_k ws n m = get_or (copy_made ws n m).reply.values 2 0

abbrev pub copy_peeled : List ℕ → ℕ → ℕ → List ℕ → Outcome
copy_peeled ws n m w = peel_outcome (copy_made ws n m).after n m (copy_k ws n m) (w ++ replicate (copy_k ws n m) 2)

-- Stage 2: it orthogonalises its own copy and peels that from the received word; if bits remain, stage 3 follows. An orthogonalise refused 9 moves to
-- elimination, its peeling counted as 0. The first peeling recovered so many bits.
unfoldable pub peeling_copy : List ℕ → ℕ → ℕ → List ℕ → ℕ → Outcome
peeling_copy ws n m w bits =
    let p = copy_peeled ws n m w in
    let both = bits + bits_recovered p.reply in
    cond (eqb (copy_made ws n m).reply.number 9) (eliminating ws n m w bits)
    (cond (eqb p.reply.number 0)
    (cond (bits_remain p.reply) (eliminating ws n m w both) (mended 2 both (take n p.after)))
    (record { reply = p.reply; after = w }))

-- Stage 1: it peels; if sent bits remain, stage 2 follows.
unfoldable pub peeling_given : List ℕ → ℕ → ℕ → List ℕ → Outcome
peeling_given ws n m w =
    let p = peel_outcome ws n m 0 w in
    cond (eqb p.reply.number 0)
    (cond (sent_remain p.reply) (peeling_copy ws n m w (bits_recovered p.reply)) (mended 1 (bits_recovered p.reply) p.after))
    p

-- mend_block: a matrix with k above 0 is 13, behind causes 1 to 4; causes 10, 11 and 12 are those of the stages
unfoldable pub block_outcome : List ℕ → ℕ → ℕ → ℕ → List ℕ → Outcome
block_outcome ws n m k w =
    let s = peeling_given ws n m w in
    leaving w (accepting ws n m k (refuse (ltb 0 k) (refusal 13 []) s.reply)) s.after
