-- What document 01 promises of the rank and of encoding, on the lists that are lent and left. Assumes nothing.
use mathlib.Core.Path.{◌≡◌, sym, ap, ◌∙◌}
use mathlib.Core.Bool.{true≢false}
use mathlib.Core.List.{List, [], ◌∷◌}
use Prim.Native.Nat.{ℕ, ◌-◌}
use native.Mathlib.Nat.{add-zero}
use lib.ListN.{length, get_or}
use borrow.Author.Tests.{not-true}
use Rattle.parity.specs.Matrix.{lent}
use Rattle.parity.specs.Encoding.{dependent, rank_of}
use Rattle.parity.specs.Causes.{Reply, answer, Outcome}
use Rattle.parity.specs.Calls.{verify_reply, rank_reply, encode_reply, encode_outcome}
use Rattle.parity.specs.Demand3.{Verifies}
use Rattle.parity.specs.MessageBitsPromises.{at_marks}
use Rattle.parity.specs.EncodingPromises.{ParityBits, RankCountsParityBits, other_bits, EncodesMessage, OneMessageEach, EveryCodewordEncoded}
use Rattle.parity.proofs.Finite.Sums.{is_true, is_false, is}
use Rattle.parity.proofs.Matrix.Accept.{Accepted, accepts}
use Rattle.parity.proofs.Causes.Admit.{accepted_number}
use Rattle.parity.proofs.Words.Bytes.{Word, Codeword}
use Rattle.parity.proofs.Words.Verifying.{verifies}
use Rattle.parity.proofs.Encoding.Dependent.{depends_at, depends_of}
use Rattle.parity.proofs.Encoding.Messages.{ranks, encodes_list, encoded_verified, message_in, message_word, message_encodes}
use Rattle.parity.proofs.Encoding.MessageBits.{other_bits_hold}

pub parity_bits : ParityBits
parity_bits h m b = (
  λ e S. absurd (true≢false (sym (depends_of h m b S.0 S.1) ∙ not-true (dependent h m b) e)),
  λ f. elim (is (dependent h m b)) [ is_true d ↦ absurd (f (depends_at h m b d)) | is_false d ↦ rw d ],
)

pub rank_counts_parity_bits : RankCountsParityBits
unfolding rank_of
rank_counts_parity_bits ws n m e = ranks ws n m ((accepts ws n m 0).0 e)

-- a call that answers has an accepted matrix
rank_accepted : (ws : List ℕ) (n m r : ℕ) → rank_reply ws n m 0 ≡ answer (r ∷ []) → Accepted ws n m 0
unfolding rank_reply
rank_accepted ws n m r e = accepted_number ws n m 0 _ (ap (λ (r : Reply). r.number) e)

encode_accepted : (ws : List ℕ) (n m : ℕ) (message held : List ℕ) → encode_reply ws n m 0 message held ≡ answer [] → Accepted ws n m 0
unfolding encode_reply
encode_accepted ws n m message held e = accepted_number ws n m 0 _ (ap (λ (r : Reply). r.number) e)

verify_accepted : (ws : List ℕ) (n m : ℕ) (w : List ℕ) → Verifies ws n m 0 w → Accepted ws n m 0
unfolding verify_reply
verify_accepted ws n m w e = accepted_number ws n m 0 _ (ap (λ (r : Reply). r.number) e)

module _ (ws : List ℕ) (n m : ℕ) (A : Accepted ws n m 0) where
  codeword_list : (w : List ℕ) → Verifies ws n m 0 w → Codeword (lent 8 ws) n m w
  codeword_list w v = rw (add-zero n, add-zero m) at (verifies ws n m 0 A w v)

  -- the message that a word's other bits hold
  held_by : (message held : List ℕ) → (encode_outcome ws n m 0 message held).reply ≡ answer []
      → at_marks (other_bits ws n m) (encode_outcome ws n m 0 message held).after ≡ message
  held_by message held e = other_bits_hold ws n m A message held (unfold encode_outcome in ap (λ (r : Reply). r.number) e)

  -- each codeword is written for the message that its other bits hold
  written_for : (w held : List ℕ) → Verifies ws n m 0 w → length held ≡ n
      → encode_outcome ws n m 0 (at_marks (other_bits ws n m) w) held ≡ record { reply = answer []; after = w }
  written_for w held v l =
      let C = codeword_list w v in
      let p = message_in ws n m A w C in
      let made = encodes_list ws n m A p held (message_word ws n m A w C) l in
      let after : (encode_outcome ws n m 0 p held).after ≡ w = message_encodes ws n m A w C held l in
      let both : encode_outcome ws n m 0 p held ≡ record { reply = answer []; after = w } =
      made ∙ ap (λ (x : List ℕ). record { reply = answer []; after = x }) (sym (ap (λ (o : Outcome). o.after) made) ∙ after) in
      let same : at_marks (other_bits ws n m) w ≡ p = ap (at_marks (other_bits ws n m)) (sym after) ∙ held_by p held (ap (λ (o : Outcome). o.reply) both) in
      rw same both

pub encodes_message : EncodesMessage
encodes_message ws n m r message held e size bytes l =
    let A = rank_accepted ws n m r e in
    let s : rank_of (lent 8 ws) n m ≡ r = ap (λ (x : Reply). get_or x.values 0 0) (sym (ranks ws n m A) ∙ e) in
    let W : Word (n - rank_of (lent 8 ws) n m) 1 message = rw s record { size = size; bytes = bytes } in
    let a : (encode_outcome ws n m 0 message held).reply ≡ answer [] = ap (λ (o : Outcome). o.reply) (encodes_list ws n m A message held W l) in
    record {
      answers = a;
      codeword = encoded_verified ws n m A message W held l;
      held = held_by ws n m A message held a;
      only = λ w v q. sym (ap (λ (o : Outcome). o.after) (rw q at (written_for ws n m A w held v l)));
    }

pub one_message_each : OneMessageEach
one_message_each ws n m message other held e f q =
    let A = encode_accepted ws n m message held (unfold encode_outcome in e) in
    sym (held_by ws n m A message held e) ∙ ap (at_marks (other_bits ws n m)) q ∙ held_by ws n m A other held f

pub every_codeword_encoded : EveryCodewordEncoded
every_codeword_encoded ws n m w held v l = (at_marks (other_bits ws n m) w, written_for ws n m (verify_accepted ws n m w v) w held v l)
