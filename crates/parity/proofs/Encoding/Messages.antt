-- Messages and codewords: each message has exactly one codeword, each codeword is the encoding of exactly one message, verifying says yes
-- to what encoding writes, and the rank and the message's length make n. Assumes nothing.
use mathlib.Core.Path.{◌≡◌, refl, sym, ap, ◌∙◌}
use mathlib.Core.Bool.{Bool, true, false, ◌&&◌, and-eq-true_iff, false≢true}
use mathlib.Core.List.{List, [], ◌∷◌}
use Prim.Native.Nat.{ℕ, ◌+◌, ◌-◌, ◌<◌}
use native.Mathlib.Nat.{add-zero, zero-add}
use native.Mathlib.Omega.{arith}
use lib.Dec.{eqb}
use lib.ListN.{length}
use lib.Seq.{ext_get_or}
use borrow.Author.Tests.{eq-eqb, eqb-true}
use Rattle.parity.specs.Finite.{one, count, any, list_from}
use Rattle.parity.specs.Matrix.{Matrix, lent}
use Rattle.parity.specs.Words.{is_one}
use Rattle.parity.specs.Encoding.{dependent, rank_of, encoded}
use Rattle.parity.specs.Causes.{answer}
use Rattle.parity.specs.Calls.{byte_of, verify_reply, encode_reply, encode_outcome, rank_reply}
use Rattle.parity.proofs.Finite.Sums.{is_true, is_false, is, one≤1, any_of, any_at, byte_one, eqb_one}
use Rattle.parity.proofs.Finite.Lists.{length_list_from, at_list_from}
use Rattle.parity.proofs.Splits.Split.{Even}
use Rattle.parity.proofs.Words.Extend.{inside_cong}
use Rattle.parity.proofs.Matrix.Accept.{Accepted, passes}
use Rattle.parity.proofs.Encoding.Encode.{encodes, lengths}
use Rattle.parity.proofs.Words.Bytes.{Word, read_word, word_right, Codeword}
use Rattle.parity.proofs.Words.Verifying.{verified}
use Rattle.parity.proofs.Finite.Firsts.{nth_below, nth_only, nth_at}

module _ (h : Matrix) (n m : ℕ) where
  abbrev D : ℕ → Bool
  D = dependent h m

  -- what the bits of x that are no parity bits hold, rising
  unfoldable pub message_of : (ℕ → Bool) → ℕ → Bool
  message_of x i = any n (λ b. D b && (eqb (count b D) i && x b))

  pub message_at_lem : (x : ℕ → Bool) (b : ℕ) → b < n → D b ≡ true → message_of x (count b D) ≡ x b
  unfolding message_of
  message_at_lem x b k d = elim (is (x b)) [
    | is_true q ↦ any_of n _ b k (rw (d, eq-eqb (count b D) (count b D) refl) q) ∙ sym q
    | is_false q ↦ elim (is (any n (λ a. D a && (eqb (count a D) (count b D) && x a)))) [
      | is_false t ↦ t ∙ sym q
      | is_true t ↦
          let (a, l, u) = any_at n (λ a. D a && (eqb (count a D) (count b D) && x a)) t in
          let (u₁, u₂) = (and-eq-true_iff (D a) (eqb (count a D) (count b D) && x a)).0 u in
          let (u₃, u₄) = (and-eq-true_iff (eqb (count a D) (count b D)) (x a)).0 u₂ in
          let s : a ≡ b = nth_only D a b u₁ d (eqb-true (count a D) (count b D) u₃) in
          absurd (false≢true (sym q ∙ rw s at u₄))
    ]
  ]

  -- two messages of one codeword are the same
  pub message_only : (p q : ℕ → Bool) → ((b : ℕ) → b < n → encoded h n m p b ≡ encoded h n m q b) → (i : ℕ) → i < count n D → p i ≡ q i
  message_only p q f i k =
      let (b, l, d, e) = nth_at D n i k in
      rw (← e) (sym ((encodes h n m p).1 b l d) ∙ f b l ∙ (encodes h n m q).1 b l d)

  -- a codeword is the encoding of any message that its other bits hold
  pub codeword_of : (x : ℕ → Bool) → Even h n m x → (p : ℕ → Bool) → ((i : ℕ) → i < count n D → p i ≡ message_of x i) → (b : ℕ) → b < n → x b ≡ encoded h n m p b
  codeword_of x e p f = (encodes h n m p).2 x e (λ b k d. sym (message_at_lem x b k d) ∙ sym (f (count b D) (nth_below D b n k d)))

-- words of bytes up to 1 are the same if their ones are
word_only : (N : ℕ) (v w : List ℕ) → Word N 1 v → Word N 1 w → ((b : ℕ) → b < N → is_one (byte_of v) b ≡ is_one (byte_of w) b) → v ≡ w
word_only N v w U W f = ext_get_or 0 v w (U.size ∙ sym W.size) (λ b k.
    let l : b < N = omega (arith, U.size) in
    sym (byte_one (byte_of v b) (U.bytes b l)) ∙ ap one (f b l) ∙ byte_one (byte_of w b) (W.bytes b l))

-- the word of a set
set_bytes : ℕ → (ℕ → Bool) → List ℕ
set_bytes N x = list_from 0 N (λ b. one (x b))

set_word : (N : ℕ) (x : ℕ → Bool) → Word N 1 (set_bytes N x)
unfolding set_bytes
set_word N x = record {
  size = length_list_from 0 N _;
  bytes = λ b k. rw (at_list_from 0 N (λ b. one (x b)) b k) (one≤1 (x (0 + b)));
}

set_ones : (N : ℕ) (x : ℕ → Bool) (b : ℕ) → b < N → is_one (byte_of (set_bytes N x)) b ≡ x b
unfolding set_bytes
set_ones N x b k = rw (at_list_from 0 N (λ b. one (x b)) b k, zero-add b) (eqb_one (x b))

-- what the rank and encoding answer and write, with k = 0
module _ (ws : List ℕ) (n m : ℕ) (A : Accepted ws n m 0) where
  pub ranks : rank_reply ws n m 0 ≡ answer (rank_of (lent 8 ws) n m ∷ [])
  unfolding rank_reply
  ranks = passes ws n m 0 A _

  pub encodes_list : (message held : List ℕ) → Word (n - rank_of (lent 8 ws) n m) 1 message → length held ≡ n
      → encode_outcome ws n m 0 message held
      ≡ record { reply = answer []; after = list_from 0 n (λ b. one (encoded (lent 8 ws) n m (is_one (byte_of message)) b)) }
  unfolding encode_outcome encode_reply
  encodes_list message held W l =
      rw (passes ws n m 0 A, eq-eqb (length held) n l, eq-eqb (length message) (n - rank_of (lent 8 ws) n m) W.size, word_right (n - rank_of (lent 8 ws) n m) 1 message W)

module _ (ws : List ℕ) (n m : ℕ) (A : Accepted ws n m 0) where
  abbrev h : Matrix
  h = lent 8 ws

  abbrev r : ℕ
  r = rank_of h n m

  -- the bits that are no parity bits
  pub others : count n (dependent h m) ≡ n - r
  others = omega (arith, lengths h n m (λ b. false))

  -- a message that is encoded, and the word that it is encoded into
  pub encode_taken : (message held : List ℕ) → (encode_reply ws n m 0 message held).number ≡ 0 → Word (n - r) 1 message × (length held ≡ n)
  unfolding encode_reply
  encode_taken message held e =
      let f = rw (passes ws n m 0 A _) at e in
      elim (is (eqb (length held) n)) [
        | is_false p ↦ absurd (omega (arith, rw p at f))
        | is_true p ↦ ((read_word (n - r) 1 message (answer []) (rw p at f)).0, eqb-true (length held) n p)
      ]

  -- The rank and the length of a message that is encoded make n.
  pub message_length : (message held : List ℕ) → (encode_reply ws n m 0 message held).number ≡ 0 → r + length message ≡ n
  message_length message held e = omega (arith, (encode_taken message held e).0.size, lengths h n m (λ b. false))

  module _ (message : List ℕ) (W : Word (n - r) 1 message) (held : List ℕ) (l : length held ≡ n) where
    abbrev after : List ℕ
    after = (encode_outcome ws n m 0 message held).after

    after_is : after ≡ set_bytes n (encoded h n m (is_one (byte_of message)))
    unfolding set_bytes
    after_is = ap (λ o. o.after) (encodes_list ws n m A message held W l)

    -- Encoding writes a codeword,
    pub codeword_written : Codeword h n m after
    codeword_written = rw after_is record {
      word = set_word n (encoded h n m (is_one (byte_of message)));
      even = λ c k. rw (inside_cong h n c (set_ones n (encoded h n m (is_one (byte_of message))))) ((encodes h n m (is_one (byte_of message))).0 c k);
    }

    -- whose other bits, rising, hold the message;
    pub message_held : (b : ℕ) → b < n → dependent h m b ≡ true → is_one (byte_of after) b ≡ is_one (byte_of message) (count b (dependent h m))
    message_held b k d = rw after_is (set_ones n (encoded h n m (is_one (byte_of message))) b k ∙ (encodes h n m (is_one (byte_of message))).1 b k d)

    -- it is the only one,
    pub codeword_only : (w : List ℕ) → Codeword h n m w
        → ((b : ℕ) → b < n → dependent h m b ≡ true → is_one (byte_of w) b ≡ is_one (byte_of message) (count b (dependent h m))) → w ≡ after
    codeword_only w C f = word_only n w after C.word codeword_written.word (λ b k.
        (encodes h n m (is_one (byte_of message))).2 (is_one (byte_of w)) C.even f b k
        ∙ sym (rw after_is (set_ones n (encoded h n m (is_one (byte_of message))) b k)))

    -- and verifying says yes to it.
    pub encoded_verified : verify_reply ws n m 0 after ≡ answer (1 ∷ [])
    encoded_verified = verified ws n m 0 A after (rw (add-zero n, add-zero m) codeword_written)

  -- Each codeword is the encoding of exactly one message.
  module _ (w : List ℕ) (C : Codeword h n m w) where
    pub message_in : List ℕ
    message_in = set_bytes (n - r) (message_of h n m (is_one (byte_of w)))

    pub message_word : Word (n - r) 1 message_in
    unfolding message_in
    message_word = set_word (n - r) (message_of h n m (is_one (byte_of w)))

    pub message_encodes : (held : List ℕ) → length held ≡ n → (encode_outcome ws n m 0 message_in held).after ≡ w
    unfolding message_in
    message_encodes held l =
        let p = is_one (byte_of message_in) in
        after_is message_in message_word held l
        ∙ word_only n (set_bytes n (encoded h n m p)) w (set_word n (encoded h n m p)) C.word (λ b k.
        set_ones n (encoded h n m p) b k
        ∙ sym (codeword_of h n m (is_one (byte_of w)) C.even p (λ i j. set_ones (n - r) (message_of h n m (is_one (byte_of w))) i (omega (arith, others))) b k))

    pub one_message : (message held : List ℕ) → Word (n - r) 1 message → length held ≡ n → (encode_outcome ws n m 0 message held).after ≡ w → message ≡ message_in
    one_message message held W l e =
        let p = is_one (byte_of message) in
        let q = is_one (byte_of message_in) in
        let s : set_bytes n (encoded h n m p) ≡ set_bytes n (encoded h n m q) =
        sym (after_is message W held l) ∙ e ∙ sym (message_encodes held l) ∙ after_is message_in message_word held l in
        word_only (n - r) message message_in W message_word (λ i k.
        message_only h n m p q (λ b j.
        sym (set_ones n (encoded h n m p) b j) ∙ ap (λ v. is_one (byte_of v) b) s ∙ set_ones n (encoded h n m q) b j) i (omega (arith, others)))
