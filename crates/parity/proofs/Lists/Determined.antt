-- Determining with the extended matrix of any list of demand 3's calls determines of the sent bits what the given matrix does (M-105). Assumes nothing.
use mathlib.Core.Path.{◌≡◌, sym, ap, ◌∙◌}
use mathlib.Core.Bool.{true, false, true≢false}
use mathlib.Core.List.{List, ◌++◌}
use Prim.Native.Nat.{ℕ, ◌+◌, ◌≤◌, ◌<◌}
use native.Mathlib.Nat.{add-zero}
use native.Mathlib.Omega.{arith}
use native.Mathlib.Decide.{ℕ_discrete, dec_lt}
use lib.ListN.{length, take, replicate, length-replicate}
use lib.Seq.{get_or-take, ext_get_or, length-take-le}
use Rattle.parity.specs.Matrix.{lent, cause}
use Rattle.parity.specs.Determining.{some_agrees}
use Rattle.parity.specs.Causes.{Outcome}
use Rattle.parity.specs.Calls.{byte_of, extend_outcome, determine_outcome}
use Rattle.parity.specs.Demand3.{Stand, runs, start, Keeps}
use Rattle.parity.specs.DeterminingPromises.{Agreeing, DeterminedAlike}
use Rattle.parity.proofs.Finite.Sums.{is_true, is_false, is}
use Rattle.parity.proofs.Matrix.Accept.{accepts}
use Rattle.parity.proofs.Words.Agreeing.{some_of, some_at, none_of}
use Rattle.parity.proofs.Words.Bytes.{longer_sent, longer_added, longer_size}
use Rattle.parity.proofs.Words.Determine.{Taken, agreeing_at, listed, agreeing_of, determine_made, determine_refused, after_size, determines}
use Rattle.parity.proofs.Lists.Demand3.{demand3}

module _ (given : List ℕ) (n m : ℕ) (a₀ : cause given n m 0 ≡ 0) (s : Stand) (K : Keeps given n m s) (w : List ℕ) (size : length w ≡ n) (small : (b : ℕ) → b < n → byte_of w b ≤ 2) where
  abbrev ws : List ℕ
  ws = s.words

  abbrev k : ℕ
  k = s.k

  abbrev more : List ℕ
  more = w ++ replicate k 2

  taken : Taken given n m 0 w
  taken = record { accepted = (accepts given n m 0).0 a₀; word = record { size = rw (add-zero n) size; bytes = λ b l. small b (omega arith) } }

  pub taken_more : Taken ws n m k more
  taken_more = record {
    accepted = (accepts ws n m k).0 K.accepted;
    word = record {
      size = longer_size n w size k;
      bytes = λ b l. elim (dec_lt b n) [
        | yes q ↦ rw (longer_sent n w size k b q) (small b q)
        | no q ↦ rw (longer_added n w size k b (omega arith) l) (omega arith)
      ];
    };
  }

  -- a codeword that agrees begins one that agrees with the longer word,
  begins : (x : List ℕ) → Agreeing given n m 0 w x → (y : List ℕ) × Agreeing ws n m k more y × ((b : ℕ) → b < n → byte_of y b ≡ byte_of x b)
  begins x a =
      let B = K.each_codeword x (replicate (n + k) 0) a.codeword (length-replicate (n + k) 0) in
      let y = (extend_outcome ws n m k x (replicate (n + k) 0)).after in
      let same : (b : ℕ) → b < n → byte_of y b ≡ byte_of x b = λ b l. sym (get_or-take n y b 0 l) ∙ ap (λ (v : List ℕ). byte_of v b) B.begun in (
        y,
        record {
          codeword = B.verified;
          known = λ b l d. elim (dec_lt b n) [
            | yes q ↦ same b q ∙ a.known b (omega arith) (λ z. d (longer_sent n w size k b q ∙ z)) ∙ sym (longer_sent n w size k b q)
            | no q ↦ absurd (d (longer_added n w size k b (omega arith) l))
          ];
        },
        same,
      )

  -- and each of these begins with one
  begun : (y : List ℕ) → Agreeing ws n m k more y → Agreeing given n m 0 w (take n y)
  begun y a = record {
    codeword = K.each_extended y a.codeword;
    known = λ b l d.
        let q : b < n = omega arith in
        get_or-take n y b 0 q ∙ a.known b (omega arith) (λ z. d (sym (longer_sent n w size k b q) ∙ z)) ∙ longer_sent n w size k b q;
  }

  abbrev by_given : Outcome
  by_given = determine_outcome given n m 0 w

  abbrev by_extended : Outcome
  by_extended = determine_outcome ws n m k more

  take_more : take n more ≡ w
  take_more =
      let t : length (take n more) ≡ n = length-take-le n more (omega (arith, longer_size n w size k)) in
      ext_get_or 0 (take n more) w (t ∙ sym size) (λ b l. get_or-take n more b 0 (omega arith) ∙ longer_sent n w size k b (omega arith))

  pub alike : (by_extended.reply.number ≡ by_given.reply.number) × (take n by_extended.after ≡ by_given.after)
  alike = elim (is (some_agrees (lent 8 given) (n + 0) (m + 0) (byte_of w))) [
    | is_true q ↦ go q
    | is_false q ↦
        let e = determine_refused given n m 0 w taken q in
        let f = determine_refused ws n m k more taken_more (none_of (lent 8 ws) (n + k) (m + k) (byte_of more) (λ y a.
        none q (take n (listed ws n m k more y)) (begun (listed ws n m k more y) (agreeing_of ws n m k more taken_more y a)))) in (
          ap (λ (o : Outcome). o.reply.number) f ∙ sym (ap (λ (o : Outcome). o.reply.number) e),
          ap (λ (o : Outcome). take n o.after) f ∙ take_more ∙ sym (ap (λ (o : Outcome). o.after) e),
        )
  ]
    where
      none : some_agrees (lent 8 given) (n + 0) (m + 0) (byte_of w) ≡ false → (x : List ℕ) → Agreeing given n m 0 w x → ⊥
      none q x a = true≢false (sym (some_of (lent 8 given) (n + 0) (m + 0) (byte_of w) _ (agreeing_at given n m 0 w taken.accepted x a)) ∙ q)

      go : some_agrees (lent 8 given) (n + 0) (m + 0) (byte_of w) ≡ true → (by_extended.reply.number ≡ by_given.reply.number) × (take n by_extended.after ≡ by_given.after)
      go q =
          let (y₀, a₁) = some_at (lent 8 given) (n + 0) (m + 0) (byte_of w) q in
          let x = listed given n m 0 w y₀ in
          let a = agreeing_of given n m 0 w taken y₀ a₁ in
          let (y, d, same) = begins x a in
          let r = some_of (lent 8 ws) (n + k) (m + k) (byte_of more) _ (agreeing_at ws n m k more taken_more.accepted y d) in
          let G = determines given n m 0 w taken q in
          let E = determines ws n m k more taken_more r in
          let long : length by_given.after ≡ n = after_size given n m 0 w taken q ∙ add-zero n in
          let t : length (take n by_extended.after) ≡ n = length-take-le n by_extended.after (omega (arith, after_size ws n m k more taken_more r)) in (
            ap (λ (o : Outcome). o.reply.number) (determine_made ws n m k more taken_more r)
                ∙ sym (ap (λ (o : Outcome). o.reply.number) (determine_made given n m 0 w taken q)),
            ext_get_or 0 (take n by_extended.after) by_given.after (t ∙ sym long) (λ b l.
                let i : b < n = omega arith in
                get_or-take n by_extended.after b 0 i ∙ elim (ℕ_discrete (byte_of by_given.after b) 2) [
                  | yes z ↦
                      let (x₁, x₂, b₁, b₂, apart) = G.differ b (omega arith) z in
                      let (y₁, d₁, s₁) = begins x₁ b₁ in
                      let (y₂, d₂, s₂) = begins x₂ b₂ in
                      elim (ℕ_discrete (byte_of by_extended.after b) 2) [
                        | yes u ↦ u ∙ sym z
                        | no u ↦ absurd (apart (sym (s₁ b i) ∙ sym (E.value b (omega arith) u y₁ d₁) ∙ E.value b (omega arith) u y₂ d₂ ∙ s₂ b i))
                      ]
                  | no z ↦ elim (ℕ_discrete (byte_of by_extended.after b) 2) [
                    | no u ↦ E.value b (omega arith) u y d ∙ same b i ∙ sym (G.value b (omega arith) z x a)
                    | yes u ↦
                        let (y₁, y₂, d₁, d₂, apart) = E.differ b (omega arith) u in
                        absurd (apart (sym (get_or-take n y₁ b 0 i) ∙ sym (G.value b (omega arith) z (take n y₁) (begun y₁ d₁))
                        ∙ G.value b (omega arith) z (take n y₂) (begun y₂ d₂) ∙ get_or-take n y₂ b 0 i))
                  ]
                ]),
          )

pub determined_alike : DeterminedAlike
determined_alike given n m a cs w size small = alike given n m a (runs n m (start given) cs) (demand3 given n m a cs) w size small
