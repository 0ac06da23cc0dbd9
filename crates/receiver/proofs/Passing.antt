-- Laws of the stages: what a refusal and an answer lead to. Assumes nothing.
use Prim.Native.Nat.{ℕ, ◌+◌, ◌-◌, ◌≤◌}
use mathlib.Core.Path.{◌≡◌, ◌∙◌, refl, sym, ap}
use mathlib.Core.Bool.{Bool, true, false, cond, ◌&&◌}
use mathlib.Core.List.{List, [], ◌∷◌, ◌++◌}
use native.Mathlib.Omega.{arith}
use native.Mathlib.Decide.{ℕ_discrete, dec_lt}
use borrow.Author.Tests.{eq-eqb, ne_eqb}
use lib.ListN.{length, get_or, take, replicate, length-append, length-replicate, replicate-append-replicate, get_or-eq_default}
use lib.Seq.{take_at, take-append-add}
use Rattle.parity.specs.Finite.{any_set, list_from}
use Rattle.parity.specs.Matrix.{Matrix, lent, pack, cause}
use Rattle.parity.specs.Words.{is_one, residue, erased, solves, peeled}
use Rattle.parity.specs.Causes.{Reply, answer, refusal, refusal_of, Outcome}
use Rattle.parity.specs.Calls.{byte_of, wrong_byte, wrong_place, load_outcome, orthogonalising, orthogonalised_reply, orthogonalise_outcome, peel_reply, peel_outcome}
use Rattle.parity.specs.Mend.{refused_line, report, unless_refused}
use Rattle.parity.specs.declared.Refusal.{Refusal}
use Rattle.parity.proofs.Finite.Lists.{length_list_from, at_list_from}
use Rattle.parity.proofs.Matrix.Accept.{Accepted, accepts, accepting_answers, accepting_refuses}
use Rattle.parity.proofs.Splits.Splitting.{orthogonalises, orthogonal_accepted}
use Rattle.parity.proofs.Record.RoundTrip.{load_accepted}
use Rattle.parity.proofs.Causes.Refused.{refused_number}
use Rattle.parity.specs.declared.Refusal.TheVariants.{WrongLength, WrongByte}
use Rattle.lines.specs.Lines.{Bytes}
use Rattle.receiver.specs.Stages.{peel_text, orthogonalise_text, load_into, load_text}
use Rattle.parity.proofs.Words.Bytes.{erasable_most}

-- a refusal's line
unless : (r : Refusal) (reply : Reply) (text : List ℕ) → refusal_of r ≡ reply → refused_line (refusal_of r).number ≡ unless_refused reply text
unfolding unless_refused
unless r reply text e = rw (← e, ne_eqb (refusal_of r).number 0 (refused_number r))

-- loading
module _ (ws source sent : List ℕ) where
  pub load_refused : (r : Refusal) → refusal_of r ≡ (load_outcome source ws).reply → refused_line (refusal_of r).number ≡ load_into ws source sent
  unfolding load_into
  load_refused r e = unless r _ _ e

  pub load_passes : (n m j : ℕ) → answer (n ∷ m ∷ j ∷ []) ≡ (load_outcome source ws).reply
      → orthogonalise_text (load_outcome source ws).after n m j sent ≡ load_into ws source sent
  unfolding load_into unless_refused
  load_passes n m j e = rw (← e)

  pub load_zero : ws ≡ replicate 4096 0 → load_into ws source sent ≡ load_text source sent
  unfolding load_text
  load_zero e = ap (λ (l : List ℕ). load_into l source sent) e

-- what it loads is accepted
pub load_cause : (ws source : List ℕ) (n m j : ℕ) → answer (n ∷ m ∷ j ∷ []) ≡ (load_outcome source ws).reply → cause (load_outcome source ws).after n m j ≡ 0
load_cause ws source n m j e = (accepts (load_outcome source ws).after n m j).1 (load_accepted source ws n m j (sym e))

-- orthogonalising: its reply carries the splits, their sum and k, whether it finishes or not
carried : (finished : Bool) (vs : List ℕ) → (cond finished (answer vs) (refusal 9 vs)).values ≡ vs
carried true vs = refl
carried false vs = refl

refused : (ws : List ℕ) (n m j : ℕ) → (cause ws n m j ≡ 0 → ⊥) → (orthogonalise_outcome ws n m j).reply ≡ refusal (cause ws n m j) []
unfolding orthogonalise_outcome
refused ws n m j q = accepting_refuses ws n m j _ q

-- the matrix that it answers is accepted
pub answered_accepted : (ws : List ℕ) (n m j : ℕ) → (orthogonalise_outcome ws n m j).reply.number ≡ 0 → Accepted ws n m j
answered_accepted ws n m j e =
    elim (ℕ_discrete (cause ws n m j) 0) [
      | yes q ↦ (accepts ws n m j).0 q
      | no q ↦ absurd (q (sym (ap (λ (r : Reply). r.number) (refused ws n m j q)) ∙ e))
    ]

pub orthogonalise_values : (ws : List ℕ) (n m j : ℕ) → Accepted ws n m j
    → let o = orthogonalising ws n m j in ((orthogonalise_outcome ws n m j).reply.values ≡ o.splits ∷ o.sum ∷ o.k ∷ o.held)
unfolding orthogonalised_reply
orthogonalise_values ws n m j A = ap (λ (y : Outcome). y.reply.values) (orthogonalises ws n m j A) ∙ carried (orthogonalising ws n m j).finished _

module _ (ws : List ℕ) (n m j : ℕ) where
  pub orthogonalise_refused : (sent : List ℕ) (r : Refusal) → refusal_of r ≡ (orthogonalise_outcome ws n m j).reply
      → refused_line (refusal_of r).number ≡ orthogonalise_text ws n m j sent
  unfolding orthogonalise_text
  orthogonalise_refused sent r e = unless r _ _ e

  module _ (splits total k : ℕ) (held : List ℕ) (e : answer (splits ∷ total ∷ k ∷ held) ≡ (orthogonalise_outcome ws n m j).reply) where
    pub orthogonalise_passes : (sent : List ℕ)
        → peel_text (orthogonalise_outcome ws n m j).after n m k splits total (sent ++ replicate k 2) ≡ orthogonalise_text ws n m j sent
    unfolding orthogonalise_text unless_refused
    orthogonalise_passes sent = rw (← e)

    -- what it leaves is accepted
    pub orthogonalise_accepted : cause (orthogonalise_outcome ws n m j).after n m k ≡ 0
    orthogonalise_accepted =
        let A = answered_accepted ws n m j (sym (ap (λ (r : Reply). r.number) e)) in
        let x = orthogonalising ws n m j in
        let l : k ≡ x.k = ap (λ (r : Reply). get_or r.values 2 0) e ∙ rw (orthogonalise_values ws n m j A) in
        rw (orthogonalises ws n m j A, l) ((accepts (pack 8 x.matrix) n m x.k).1 (orthogonal_accepted ws n m j A))

-- peeling: its bytes are at most 2
peeled_most : (h : Matrix) (N M : ℕ) (w : ℕ → ℕ) (b : ℕ) → peeled h N M w b ≤ 2
unfolding peeled
peeled_most h N M w b =
    let r = residue h N M (erased w) in
    erasable_most (r b) (any_set N (λ y. solves h N M (erased w) r (is_one w) y && y b))

list_from_most : (N top : ℕ) (f : ℕ → ℕ) → ((b : ℕ) → f b ≤ top) → Bytes top (list_from 0 N f)
list_from_most N top f h = record {
  most = λ b.
      elim (dec_lt b N) [
        | yes l ↦ rw (at_list_from 0 N f b l) (h (0 + b))
        | no l ↦ rw (get_or-eq_default (list_from 0 N f) 0 {n = b} (rw (length_list_from 0 N f) (omega arith))) (omega arith)
      ];
}

-- peeling
short : (ws : List ℕ) (n m k : ℕ) (w : List ℕ) → cause ws n m k ≡ 0 → (length w ≡ n + k → ⊥) → (peel_outcome ws n m k w).reply ≡ refusal 10 []
unfolding peel_outcome peel_reply
short ws n m k w q d = rw (accepting_answers ws n m k _ q, ne_eqb (length w) (n + k) d)

module _ (ws : List ℕ) (n m k splits total : ℕ) (w : List ℕ) where
  pub peel_refused : (r : Refusal) → refusal_of r ≡ (peel_outcome ws n m k w).reply → refused_line (refusal_of r).number ≡ peel_text ws n m k splits total w
  unfolding peel_text
  peel_refused r e = unless r _ _ e

  module _ (numbers : List ℕ) (e : answer numbers ≡ (peel_outcome ws n m k w).reply) where
    pub peel_passes : report n splits total (peel_outcome ws n m k w).after ≡ peel_text ws n m k splits total w
    unfolding peel_text unless_refused
    peel_passes = rw (← e)

    -- its bytes are at most 2
    pub peel_bytes : Bytes 2 (peel_outcome ws n m k w).after
    unfolding peel_outcome
    peel_bytes = rw (← e) (list_from_most (n + k) 2 (peeled (lent 8 ws) (n + k) (m + k) (byte_of w)) (peeled_most (lent 8 ws) (n + k) (m + k) (byte_of w)))

-- a byte above 2
wrong : (ws : List ℕ) (n m k : ℕ) (w : List ℕ) (place : ℕ) → cause ws n m k ≡ 0 → length w ≡ n + k → place ≡ wrong_place 2 w → wrong_byte 2 w ≡ true
    → (peel_outcome ws n m k w).reply ≡ refusal 11 (place ∷ [])
unfolding peel_outcome peel_reply
wrong ws n m k w place q l p e = rw (accepting_answers ws n m k _ q, eq-eqb (length w) (n + k) l, e, p)

pub peel_wrong : (ws : List ℕ) (n m k splits total : ℕ) (w : List ℕ) (place : ℕ) → cause ws n m k ≡ 0 → length w ≡ n + k → place ≡ wrong_place 2 w → wrong_byte 2 w ≡ true
    → refused_line 11 ≡ peel_text ws n m k splits total w
peel_wrong ws n m k splits total w place q l p e = peel_refused ws n m k splits total w (WrongByte place) (sym (wrong ws n m k w place q l p e))

-- a word of another length
pub peel_short : (ws : List ℕ) (n m k splits total : ℕ) (sent : List ℕ) → cause ws n m k ≡ 0 → (length sent ≡ n → ⊥)
    → refused_line 10 ≡ peel_text ws n m k splits total (sent ++ replicate k 2)
peel_short ws n m k splits total sent q d =
    let w = sent ++ replicate k 2 in
    let l : length w ≡ n + k → ⊥ = λ e. d (omega (arith, length-append sent (replicate k 2), length-replicate {A = ℕ} k 2)) in
    peel_refused ws n m k splits total w WrongLength (sym (short ws n m k w q l))

-- the sent bits and then added ones that are erased
pub erased_rest : (sent word : List ℕ) (n k N : ℕ) → length sent ≡ n → n + k ≤ N → word ≡ sent ++ replicate (N - length sent) 2 → take (n + k) word ≡ sent ++ replicate k 2
erased_rest sent word n k N e h z =
    let l : n + k ≡ length sent + k = omega arith in
    let r : N - length sent ≡ k + (N - (n + k)) = omega arith in
    rw (z, l) (take-append-add sent (replicate (N - length sent) 2) k ∙ ap (λ (t : List ℕ). sent ++ t)
    (rw (r, ← replicate-append-replicate {A = ℕ} k (N - (n + k)) 2) (take_at (replicate k 2) (replicate (N - (n + k)) 2) k (length-replicate {A = ℕ} k 2))))
