-- What an answered listing of stopping sets tells and leaves (M-109). Assumes nothing.
use mathlib.Core.Path.{◌≡◌, refl, sym, ap, ◌∙◌}
use mathlib.Core.Bool.{Bool, true, false, not}
use mathlib.Core.List.{List, [], ◌∷◌, ◌++◌, Memᴰ}
use Prim.Native.Nat.{ℕ, ◌+◌, ◌*◌, ◌-◌, ◌≤◌, ◌<◌}
use native.Mathlib.Nat.{zero-add}
use native.Mathlib.Omega.{arith}
use native.Mathlib.Decide.{ℕ_discrete, dec_lt}
use lib.Dec.{eqb}
use lib.ListN.{get_or, length, drop}
use lib.Seq.{ext_get_or}
use borrow.Author.Tests.{ne_eqb, lt-ltb, le-ltb}
use Rattle.parity.specs.Finite.{one, count}
use Rattle.parity.specs.Matrix.{Matrix, lent, cause}
use Rattle.parity.specs.Words.{is_one, stopping}
use Rattle.parity.specs.StoppingSets.{is_in, flat, stopping_sets}
use Rattle.parity.specs.Causes.{Reply, answer, refusal, refusal_of, Outcome}
use Rattle.parity.specs.Calls.{byte_of, accept_reply, is_stopping_reply, wrong_size, stopping_sets_outcome}
use Rattle.parity.specs.declared.Refusal.{Refusal}
use Rattle.parity.specs.StoppingSetsPromises.{bytes_of, SmallStoppingSets, LengthNeeded}
use Rattle.parity.proofs.Finite.Sums.{is_true, is_false, is, one≤1, eqb_one, byte_one, count_pos}
use Rattle.parity.proofs.Finite.Firsts.{all_cong}
use Rattle.parity.proofs.Finite.Lists.{length_list_from, at_list_from}
use Rattle.parity.proofs.Matrix.Accept.{Accepted, accepts, accepting_answers, accepting_refuses}
use Rattle.parity.proofs.Causes.Refused.{refused_number, refused_same}
use Rattle.parity.proofs.Splits.Split.{stops}
use Rattle.parity.proofs.Words.Extend.{inside_cong}
use Rattle.parity.proofs.Words.Bytes.{Word}
use Rattle.parity.proofs.Words.Verifying.{list_stops, stops_list}
use Rattle.parity.proofs.Words.StoppingSets.{rising_out, members, members_rise, members_in, each_listed, every_listed, listed_ordered, ordered_once, flat_length}

-- a set as bytes
module _ (N : ℕ) (s : List ℕ) where
  byte_at : (b : ℕ) → b < N → byte_of (bytes_of N s) b ≡ one (is_in s b)
  byte_at b k = at_list_from 0 N (λ b. one (is_in s b)) b k ∙ ap (λ (a : ℕ). one (is_in s a)) (zero-add b)

  bytes_word : Word N 1 (bytes_of N s)
  bytes_word = record { size = length_list_from 0 N (λ b. one (is_in s b)); bytes = λ b k. rw (byte_at b k) (one≤1 (is_in s b)) }

  bytes_is : (b : ℕ) → b < N → is_one (byte_of (bytes_of N s)) b ≡ is_in s b
  bytes_is b k = ap (λ (a : ℕ). eqb a 1) (byte_at b k) ∙ eqb_one (is_in s b)

-- two sets with the same bits below N
stopping_cong : (h : Matrix) (N M : ℕ) (s u : ℕ → Bool) → ((b : ℕ) → b < N → s b ≡ u b) → stopping h N M s ≡ stopping h N M u
unfolding stopping
stopping_cong h N M s u e = all_cong M (λ c k. ap (λ (a : ℕ). not (eqb a 1)) (inside_cong h N c e))

-- the sets of the call
abbrev pub found : List ℕ → ℕ → ℕ → ℕ → ℕ → List (List ℕ)
found ws n m k t = stopping_sets (lent 8 ws) n (n + k) (m + k) t

-- as many places as t for each
pub found_places : (ws : List ℕ) (n m k t : ℕ) → length (flat (found ws n m k t)) ≡ length (found ws n m k t) * t
found_places ws n m k t = flat_length t (found ws n m k t) (λ s i. (each_listed (lent 8 ws) n (n + k) (m + k) t s i).0)

-- what the call comes to, by the cause that decides
module _ (ws : List ℕ) (n m k t : ℕ) (target : List ℕ) where
  pub list_refused : (r : Refusal) → refusal_of r ≡ accept_reply ws n m k → stopping_sets_outcome ws n m k t target ≡ record { reply = refusal_of r; after = target }
  unfolding stopping_sets_outcome
  list_refused r e = rw (← refused_same ws n m k r _ e, ne_eqb (refusal_of r).number 0 (refused_number r))

  list_unaccepted : (cause ws n m k ≡ 0 → ⊥) → (stopping_sets_outcome ws n m k t target).reply ≡ refusal (cause ws n m k) []
  unfolding stopping_sets_outcome
  list_unaccepted q = accepting_refuses ws n m k _ q

  module _ (a : cause ws n m k ≡ 0) where
    pub list_size : wrong_size t ≡ true → stopping_sets_outcome ws n m k t target ≡ record { reply = refusal 18 []; after = target }
    unfolding stopping_sets_outcome
    list_size e = rw (accepting_answers ws n m k _ a, e)

    module _ (e : wrong_size t ≡ false) where
      pub list_short : length target < length (flat (found ws n m k t))
          → stopping_sets_outcome ws n m k t target ≡ record { reply = refusal 19 (length (flat (found ws n m k t)) ∷ []); after = target }
      unfolding stopping_sets_outcome
      list_short l = rw (accepting_answers ws n m k _ a, e, lt-ltb (length target) (length (flat (found ws n m k t))) l)

      pub list_made : length (flat (found ws n m k t)) ≤ length target
          → stopping_sets_outcome ws n m k t target ≡ record {
            reply = answer (length (found ws n m k t) ∷ []);
            after = flat (found ws n m k t) ++ drop (length (flat (found ws n m k t))) target;
          }
      unfolding stopping_sets_outcome
      list_made l = rw (accepting_answers ws n m k _ a, e, le-ltb (length target) (length (flat (found ws n m k t))) l) refl

  -- an answer: no cause refuses
  answered : (stopping_sets_outcome ws n m k t target).reply.number ≡ 0 → (cause ws n m k ≡ 0) × (wrong_size t ≡ false) × (length (flat (found ws n m k t)) ≤ length target)
  answered e =
      elim (ℕ_discrete (cause ws n m k) 0) [
        | no q ↦ absurd (q (sym (ap (λ (r : Reply). r.number) (list_unaccepted q)) ∙ e))
        | yes a ↦ elim (is (wrong_size t)) [
          | is_true w ↦ absurd (omega (arith, ap (λ (o : Outcome). o.reply.number) (list_size a w), e))
          | is_false w ↦ elim (dec_lt (length target) (length (flat (found ws n m k t)))) [
            | yes l ↦ absurd (omega (arith, ap (λ (o : Outcome). o.reply.number) (list_short a w l), e))
            | no l ↦ (a, w, omega arith)
          ]
        ]
      ]

  -- refusal 19: the slice is too short
  too_short : (needed : ℕ) → (stopping_sets_outcome ws n m k t target).reply ≡ refusal 19 (needed ∷ [])
      → (cause ws n m k ≡ 0) × (wrong_size t ≡ false) × (length target < length (flat (found ws n m k t))) × (needed ≡ length (flat (found ws n m k t)))
  too_short needed e =
      elim (ℕ_discrete (cause ws n m k) 0) [
        | no q ↦ absurd (omega (arith, ap (λ (r : Reply). length r.values) (list_unaccepted q), ap (λ (r : Reply). length r.values) e))
        | yes a ↦ elim (is (wrong_size t)) [
          | is_true w ↦ absurd (omega (arith, ap (λ (o : Outcome). o.reply.number) (list_size a w), ap (λ (r : Reply). r.number) e))
          | is_false w ↦ elim (dec_lt (length target) (length (flat (found ws n m k t)))) [
            | yes l ↦ (a, w, l, ap (λ (r : Reply). get_or r.values 0 0) (sym e ∙ ap (λ (o : Outcome). o.reply) (list_short a w l)))
            | no l ↦ absurd (omega (arith, ap (λ (o : Outcome). o.reply.number) (list_made a w (omega arith)), ap (λ (r : Reply). r.number) e))
          ]
        ]
      ]

-- Every set of t sent bits, given as bytes, that the stopping test says yes to is listed.
tested : (ws : List ℕ) (n m k t : ℕ) → Accepted ws n m k → (w : List ℕ) → is_stopping_reply ws n m k w ≡ answer (1 ∷ []) → count n (is_one (byte_of w)) ≡ t
    → count k (λ j. is_one (byte_of w) (n + j)) ≡ 0 → (s : List ℕ) × Memᴰ s (found ws n m k t) × (bytes_of (n + k) s ≡ w)
tested ws n m k t A w e c d =
    let (W, S) = stops_list ws n m k A w e in
    let x = is_one (byte_of w) in
    let s = members x n 0 in
    let z : 0 + n ≡ n = omega arith in
    let none : (b : ℕ) → n ≤ b → b < n + k → x b ≡ false = λ b l u. elim (is (x b)) [
      | is_false q ↦ q
      | is_true q ↦
          let r : n + (b - n) ≡ b = omega arith in
          absurd (omega (arith, d, count_pos k (λ j. x (n + j)) (b - n) (omega arith) (rw r q)))
    ] in
    let same : (b : ℕ) → b < n + k → is_in s b ≡ x b = λ b u. elim (dec_lt b n) [
      | yes l ↦ members_in x n 0 b (omega arith) (omega arith)
      | no l ↦ rising_out 0 n b s (rw z at (members_rise x n 0)) (omega arith) ∙ sym (none b (omega arith) u)
    ] in (
      s,
      every_listed (lent 8 ws) n (n + k) (m + k) t x c
          (stopping_cong (lent 8 ws) (n + k) (m + k) (is_in s) x same ∙ (stops (lent 8 ws) (n + k) (m + k) x).1 S),
      ext_get_or 0 (bytes_of (n + k) s) w (length_list_from 0 (n + k) (λ b. one (is_in s b)) ∙ sym W.size) (λ b l.
          let u : b < n + k = omega (arith, length_list_from 0 (n + k) (λ b. one (is_in s b))) in
          byte_at (n + k) s b u ∙ ap one (same b u) ∙ byte_one (byte_of w b) (W.bytes b u)),
    )

-- The promise.
pub small_stopping_sets : SmallStoppingSets
small_stopping_sets ws n m k t target e =
    let (a, w, l) = answered ws n m k t target e in
    let o = list_made ws n m k t target a w l in
    let f = found_places ws n m k t in
    let h = lent 8 ws in
    let A = (accepts ws n m k).0 a in (
      found ws n m k t,
      record {
        told = ap (λ (x : Outcome). x.reply) o;
        places = f;
        left = rw (← f) (ap (λ (x : Outcome). x.after) o);
        each = λ s i.
            let (x, y, z) = each_listed h n (n + k) (m + k) t s i in (
              x,
              y,
              list_stops ws n m k A (bytes_of (n + k) s) (bytes_word (n + k) s)
                  ((stops h (n + k) (m + k) _).0 (stopping_cong h (n + k) (m + k) _ (is_in s) (bytes_is (n + k) s) ∙ z)),
            );
        every = λ u i c d. tested ws n m k t A u i c d;
        order = listed_ordered h n (n + k) (m + k) t;
        once = ordered_once (found ws n m k t) (listed_ordered h n (n + k) (m + k) t);
      },
    )

-- Refusal 19 carries the length needed.
pub length_needed : LengthNeeded
length_needed ws n m k t short needed e =
    let (a, w, l, q) = too_short ws n m k t short needed e in (
      ap (λ (x : Outcome). x.after) (list_short ws n m k t short a w l),
      λ target. (
        λ f. omega (arith, q, (answered ws n m k t target f).2),
        λ f. ap (λ (x : Outcome). x.reply.number) (list_made ws n m k t target a w (omega (arith, q))),
      ),
    )
