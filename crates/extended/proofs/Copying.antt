-- What peeling with the orthogonalised copy comes to, from what the copy's orthogonalise and peeling come to. Assumes nothing.
use mathlib.Core.Path.{◌≡◌, refl, sym, ap, ◌∙◌}
use mathlib.Core.Bool.{true, false}
use mathlib.Core.List.{List, [], ◌∷◌, ◌++◌}
use Prim.Native.Nat.{ℕ, ◌+◌, ◌-◌, ◌≤◌}
use native.Mathlib.Nat.{zero-add}
use native.Mathlib.Omega.{arith}
use native.Mathlib.Decide.{ℕ_discrete, dec_lt}
use lib.Dec.{eqb}
use lib.ListN.{get_or, length, take, drop, replicate, length-replicate, replicate-append-replicate}
use lib.Seq.{ext_get_or, take-append-add, take_at, take-append-le}
use borrow.Author.Tests.{eq-eqb, ne_eqb}
use Rattle.parity.specs.Matrix.{cause, pack}
use Rattle.parity.specs.Cycles.{Orthogonalised}
use Rattle.parity.specs.Words.{erased}
use Rattle.parity.specs.Causes.{Reply, answer, refusal, refusal_of}
use Rattle.parity.specs.Calls.{byte_of, wrong_byte, orthogonalising, orthogonalised_reply, peel_outcome}
use Rattle.parity.specs.Block.{copy_made, copy_k}
use Rattle.parity.specs.declared.Refusal.{Refusal}
use Rattle.parity.proofs.Finite.Sums.{is_true, is_false, is, count_bound}
use Rattle.parity.proofs.Matrix.Accept.{Accepted, accepts}
use Rattle.parity.proofs.Causes.Refused.{refused_number}
use Rattle.parity.proofs.Splits.Splitting.{orthogonalises, orthogonal_accepted}
use Rattle.parity.proofs.Words.Bytes.{right_bytes, longer_sent, longer_added, longer_size}
use Rattle.parity.proofs.Words.Peeling.{peel_answered, after_size, losses_sent, losses_added}
use Rattle.parity.proofs.Lists.Answered.{recovered_most}
use Rattle.rows.specs.Whole.{Written, word_from}
use Rattle.extended.specs.Answers.{Longer, in_all, copy_reply, copy_word}

-- all words are copied
pub same_words : (n : ℕ) (ws before after : List ℕ) → length ws ≡ n → length after ≡ n → Written before after 0 (word_from ws 0) n → after ≡ ws
same_words n ws before after l q A = ext_get_or 0 after ws (q ∙ sym l) (λ i k. rw (zero-add i) at (A.done i (omega arith)))

-- Four numbers as two.
pub refused_in_all : (r : Refusal) (reply : Reply) → refusal_of r ≡ reply → refusal_of r ≡ in_all reply
unfolding in_all
refused_in_all r reply e = rw (← e, ne_eqb (refusal_of r).number 0 (refused_number r))

pub made_in_all : (rs ra ls la : ℕ) (reply : Reply) → answer (rs ∷ ra ∷ ls ∷ la ∷ []) ≡ reply → answer ((rs + ra) ∷ (ls + la) ∷ []) ≡ in_all reply
unfolding in_all
made_in_all rs ra ls la reply e = rw (← e)

module _ (ws : List ℕ) (n m k : ℕ) (w : List ℕ) where
  -- both sums are small,
  module _ (rs ra ls la : ℕ) (e : answer (rs ∷ ra ∷ ls ∷ la ∷ []) ≡ (peel_outcome ws n m k w).reply) where
    pub recovered_small : rs + ra ≤ n + k
    recovered_small = rw (← e) at (recovered_most ws n m k w (sym (ap (λ (r : Reply). r.number) e)))

    pub left_small : ls + la ≤ n + k
    left_small =
        let A = peel_answered ws n m k w (sym (ap (λ (r : Reply). r.number) e)) in
        let s = rw (← e) at (losses_sent ws n m k w A) in
        let a = rw (← e) at (losses_added ws n m k w A) in
        omega (arith, count_bound n (erased (byte_of w)), count_bound k (λ j. erased (byte_of w) (n + j)))

  -- and the word keeps its length
  peel_size : length w ≡ n + k → length (peel_outcome ws n m k w).after ≡ n + k
  peel_size l =
      elim (ℕ_discrete (peel_outcome ws n m k w).reply.number 0) [
        | yes q ↦ after_size ws n m k w (peel_answered ws n m k w q)
        | no q ↦ ap length (left q) ∙ l
      ]
    where
      left : ((peel_outcome ws n m k w).reply.number ≡ 0 → ⊥) → (peel_outcome ws n m k w).after ≡ w
      left q = unfold peel_outcome in rw (ne_eqb _ 0 q)

-- the first n + k of the bytes
module _ (n : ℕ) (l : List ℕ) (L : Longer n l) (k : ℕ) (few : n + k ≤ 512) where
  pub front_is : take (n + k) l ≡ take n l ++ replicate k 2
  front_is =
      let w = take n l in
      let e : replicate {A = ℕ} (512 - n) 2 ≡ replicate k 2 ++ replicate (512 - n - k) 2 = ap (λ (j : ℕ). replicate j 2) {x = 512 - n} {y = k + (512 - n - k)} (omega arith) ∙ sym (replicate-append-replicate {A = ℕ} k (512 - n - k) 2) in
      ap (take (n + k)) L.behind ∙ ap (λ (j : ℕ). take (j + k) (w ++ replicate (512 - n) 2)) (sym L.size) ∙ take-append-add w (replicate (512 - n) 2) k
      ∙ ap (λ (r : List ℕ). w ++ take k r) e ∙ ap (λ (r : List ℕ). w ++ r) (take_at (replicate k 2) (replicate (512 - n - k) 2) k (length-replicate {A = ℕ} k 2))

  pub front_room : n + k ≤ length l
  front_room = rw L.behind (omega (arith, longer_size n (take n l) L.size (512 - n)))

  front_size : length (take (n + k) l) ≡ n + k
  front_size = ap length front_is ∙ longer_size n (take n l) L.size k

  pub front_right : wrong_byte 2 (take (n + k) l) ≡ false
  front_right = (right_bytes 2 (take (n + k) l)).1 (λ b i. rw front_is (elim (dec_lt b n) [
    | yes q ↦ rw (longer_sent n (take n l) L.size k b q) ((right_bytes 2 (take n l)).0 L.bytes b (omega (arith, L.size)))
    | no q ↦ rw (longer_added n (take n l) L.size k b (omega arith) (omega (arith, front_size))) (omega arith)
  ]))

module _ (ws : List ℕ) (n m : ℕ) (a : cause ws n m 0 ≡ 0) where
  abbrev A : Accepted ws n m 0
  A = (accepts ws n m 0).0 a

  abbrev o : Orthogonalised
  o = orthogonalising ws n m 0

  -- an orthogonalise that is refused is refused 9
  no_room : (r : Refusal) → refusal_of r ≡ (copy_made ws n m).reply → (copy_made ws n m).reply.number ≡ 9
  unfolding orthogonalised_reply
  no_room r e =
      elim (is o.finished) [
        | is_true q ↦ absurd (refused_number r (ap (λ (x : Reply). x.number) e ∙ rw (orthogonalises ws n m 0 A, q)))
        | is_false q ↦ rw (orthogonalises ws n m 0 A, q)
      ]

  pub refused_copy : (r : Refusal) → refusal_of r ≡ (copy_made ws n m).reply → (w : List ℕ)
      → (true ≡ eqb (copy_made ws n m).reply.number 9) × (refusal 9 [] ≡ copy_reply ws n m w) × (w ≡ copy_word ws n m w)
  unfolding copy_reply copy_word
  refused_copy r e w =
      let q = eq-eqb (copy_made ws n m).reply.number 9 (no_room r e) in
      (sym q, rw q, rw q)

  module _ (splits total k : ℕ) (held : List ℕ) (e : answer (splits ∷ total ∷ k ∷ held) ≡ (copy_made ws n m).reply) where
    k_is : k ≡ copy_k ws n m
    k_is = ap (λ (r : Reply). get_or r.values 2 0) e

    copy_k_lem : k ≡ o.k
    unfolding orthogonalised_reply
    copy_k_lem = k_is ∙ rw (orthogonalises ws n m 0 A) (elim (is o.finished) [ is_true q ↦ rw q | is_false q ↦ rw q ])

    -- what it leaves is accepted
    pub copy_accepted : cause (copy_made ws n m).after n m k ≡ 0
    copy_accepted = rw (orthogonalises ws n m 0 A, copy_k_lem) ((accepts (pack 8 o.matrix) n m o.k).1 (orthogonal_accepted ws n m 0 A))

    pub copy_room : n + k ≤ 512
    copy_room = let S = ((accepts (copy_made ws n m).after n m k).0 copy_accepted).sound in omega (arith, S.n120, S.k392)

    pub peeled_copy : (own l : List ℕ) (r : Reply) (l' : List ℕ) → own ≡ (copy_made ws n m).after → Longer n l
        → r ≡ in_all (peel_outcome own n m k (take (n + k) l)).reply → l' ≡ (peel_outcome own n m k (take (n + k) l)).after ++ drop (n + k) l
        → (false ≡ eqb (copy_made ws n m).reply.number 9) × (r ≡ copy_reply ws n m (take n l)) × (take n l' ≡ copy_word ws n m (take n l))
    unfolding copy_reply copy_word
    peeled_copy own l r l' c L p q =
        let z : (copy_made ws n m).reply.number ≡ 0 = sym (ap (λ (x : Reply). x.number) e) in
        let f = front_is n l L k copy_room in
        let s = peel_size own n m k (take (n + k) l) (front_size n l L k copy_room) in
        let d = ap (take n) q ∙ take-append-le n (peel_outcome own n m k (take (n + k) l)).after (drop (n + k) l) (omega arith) in
        rw (z, ← k_is, ← c, ← f) (refl, p, d)
