-- What determining promises of the lists that it is lent and leaves (M-105). Assumes nothing.
use mathlib.Core.Path.{◌≡◌, refl, sym, ap, ◌∙◌}
use mathlib.Core.Logic.{⊎_elim}
use mathlib.Core.List.{[], ◌∷◌}
use Prim.Native.Nat.{ℕ, ◌+◌}
use native.Mathlib.Omega.{arith}
use lib.ListN.{get_or}
use lib.Seq.{ext_get_or}
use Rattle.parity.specs.Finite.{count}
use Rattle.parity.specs.Matrix.{lent}
use Rattle.parity.specs.Words.{erased, losses}
use Rattle.parity.specs.Determining.{some_agrees, determined}
use Rattle.parity.specs.Causes.{Reply, answer, Outcome}
use Rattle.parity.specs.Calls.{byte_of, verify_reply}
use Rattle.parity.specs.Demand3.{Verifies, erasing}
use Rattle.parity.specs.DeterminingPromises.{Agreeing, WritesOneValue, RefusedIfNone, PeeledIsDetermined, RefusedWithPeeling, ErasedCodeword, DeterminedTwice, NothingErased}
use Rattle.parity.proofs.Finite.Sums.{is_true, is_false, is}
use Rattle.parity.proofs.Matrix.Accept.{Accepted}
use Rattle.parity.proofs.Causes.Admit.{accepted_number}
use Rattle.parity.proofs.Words.Agreeing.{some_of, some_at, none_of, peeled_determined}
use Rattle.parity.proofs.Words.Bytes.{erased_got, erased_size}
use Rattle.parity.proofs.Words.Verifying.{verifies}
use Rattle.parity.proofs.Words.Determine.{verify_taken, agreeing_at, listed, agreeing_of, agreeing_taken, answered, determine_made, determine_refused, after_at, determines, again, peel_answers, peel_after, peel_taken}

pub writes_one_value : WritesOneValue
writes_one_value ws n m k w e = let (T, s) = answered ws n m k w e in determines ws n m k w T s

pub refused_if_none : RefusedIfNone
refused_if_none ws n m k w e =
    let T = verify_taken ws n m k w e in (
      λ q x a. absurd (omega (
        arith,
        ap (λ (r : Reply). r.number) (sym (ap (λ (o : Outcome). o.reply) (determine_made ws n m k w T
            (some_of (lent 8 ws) (n + k) (m + k) (byte_of w) _ (agreeing_at ws n m k w T.accepted x a)))) ∙ q),
      )),
      λ f. ap (λ (o : Outcome). o.reply) (determine_refused ws n m k w T
          (none_of (lent 8 ws) (n + k) (m + k) (byte_of w) (λ y a. f (listed ws n m k w y) (agreeing_of ws n m k w T y a)))),
    )

pub peeled_is_determined : PeeledIsDetermined
peeled_is_determined ws n m k w x size a b l r =
    let T = agreeing_taken ws n m k w size x a in
    let s = some_of (lent 8 ws) (n + k) (m + k) (byte_of w) _ (agreeing_at ws n m k w T.accepted x a) in
    let p = peel_after ws n m k w T s b l in
    let e = after_at ws n m k w T s b l ∙ peeled_determined (lent 8 ws) (n + k) (m + k) (byte_of w) s b l (λ q. r.1 (p ∙ q)) ∙ sym p in
    ((r.0, λ q. r.1 (sym e ∙ q)), e)

-- peeling that is refused 12
pub refused_with_peeling : RefusedWithPeeling
refused_with_peeling ws n m k w e =
    let T = peel_taken ws n m k w e in
    elim (is (some_agrees (lent 8 ws) (n + k) (m + k) (byte_of w))) [
      | is_false q ↦ ap (λ (o : Outcome). o.reply) (determine_refused ws n m k w T q)
      | is_true q ↦ absurd (omega (arith, ap (λ (r : Reply). r.number) (sym e ∙ ap (λ (o : Outcome). o.reply) (peel_answers ws n m k w T q))))
    ]

pub erased_codeword : ErasedCodeword
unfolding verify_reply
erased_codeword ws n m k x v e =
    let A = accepted_number ws n m k _ (ap (λ (r : Reply). r.number) v) in
    let C = verifies ws n m k A x v in
    let w = erasing e x in
    let a : Agreeing ws n m k w x = record { codeword = v; known = λ b l d. ⊎_elim (λ q. absurd (d q)) (λ q. sym q) (erased_got (n + k) x C.word e b l) } in
    let T = agreeing_taken ws n m k w (erased_size (n + k) x C.word e) x a in
    let s = some_of (lent 8 ws) (n + k) (m + k) (byte_of w) _ (agreeing_at ws n m k w A x a) in
    (ap (λ (o : Outcome). o.reply.number) (determine_made ws n m k w T s), λ b l d. (determines ws n m k w T s).value b l d x a)

-- what is left, in the four numbers
losses_left : (n k : ℕ) (before after : ℕ → ℕ) (rs ra ls la : ℕ) → answer (losses n k before after) ≡ answer (rs ∷ ra ∷ ls ∷ la ∷ [])
    → (count n (erased after) ≡ ls) × (count k (λ j. erased after (n + j)) ≡ la)
unfolding losses
losses_left n k before after rs ra ls la e = (ap (λ (r : Reply). get_or r.values 2 0) e, ap (λ (r : Reply). get_or r.values 3 0) e)

pub determined_twice : DeterminedTwice
determined_twice ws n m k w rs ra ls la e =
    let (T, s) = answered ws n m k w (ap (λ (r : Reply). r.number) e) in
    let (p, q) = losses_left n k (byte_of w) (determined (lent 8 ws) (n + k) (m + k) (byte_of w)) rs ra ls la
    (sym (ap (λ (o : Outcome). o.reply) (determine_made ws n m k w T s)) ∙ e) in
    again ws n m k w T s ∙ rw (p, q)

pub nothing_erased : NothingErased
nothing_erased ws n m k w none = (
  λ e.
      let (T, s) = answered ws n m k w e in
      let (y, a) = some_at (lent 8 ws) (n + k) (m + k) (byte_of w) s in
      let g = agreeing_of ws n m k w T y a in
      let x = listed ws n m k w y in
      let C = verifies ws n m k T.accepted x g.codeword in
      rw (ext_get_or 0 w x (T.word.size ∙ sym C.word.size) (λ b l. sym (g.known b (omega (arith, T.word.size)) (none b (omega (arith, T.word.size)))))) g.codeword,
  λ v.
      let A = verifying v in
      let g : Agreeing ws n m k w w = record { codeword = v; known = λ b l d. refl } in
      let T = agreeing_taken ws n m k w (verifies ws n m k A w v).word.size w g in
      ap (λ (o : Outcome). o.reply.number) (determine_made ws n m k w T (some_of (lent 8 ws) (n + k) (m + k) (byte_of w) _ (agreeing_at ws n m k w A w g))),
)
  where
    verifying : Verifies ws n m k w → Accepted ws n m k
    verifying v = unfold verify_reply in accepted_number ws n m k _ (ap (λ (r : Reply). r.number) v)
