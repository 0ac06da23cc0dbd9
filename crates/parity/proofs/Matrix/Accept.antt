-- An accepted matrix: what acceptance says of it, and which test refuses. Assumes nothing.
use mathlib.Core.Path.{◌≡◌, refl, sym, ◌∙◌}
use mathlib.Core.Logic.{◌↔◌}
use mathlib.Core.Bool.{Bool, true, false, not, cond, ◌&&◌, and-eq-true_iff, true≢false}
use mathlib.Core.List.{List, []}
use Prim.Native.Nat.{ℕ, suc, ◌+◌, ◌^◌, ◌≤◌, ◌<◌}
use native.Mathlib.Omega.{arith}
use native.Mathlib.Decide.{dec_lt}
use lib.Dec.{eqb, leb, lit<}
use lib.ListN.{get_or, length}
use borrow.Author.Tests.{eq-eqb, ne_eqb, eqb-true, leb-true, le-leb}
use Rattle.parity.specs.Matrix.{Matrix, lent, pack, in_range, clean, rule_a, cause}
use Rattle.parity.specs.Causes.{Reply, answer, refusal, accepting}
use Rattle.parity.specs.Calls.{accept_reply}
use Rattle.parity.specs.Sound.{Sound}
use Rattle.parity.proofs.Matrix.Packing.{pack_length, pack_lt, pack_lent, lent_packed}
use Rattle.parity.proofs.Matrix.Clean.{cleans}
use Rattle.parity.proofs.Matrix.Sound.{sound_rule}

-- What acceptance says of the lent words: 4,096 words of 64 bits that hold a matrix which causes 2 to 4 do not refuse.
pub record Accepted (ws : List ℕ) (n m k : ℕ) : Type 0 where
  pub words : length ws ≡ 4096
  pub machine : (i : ℕ) → get_or ws i 0 < 2 ^ 64
  pub sound : Sound (lent 8 ws) n m k

four_true : (a b c d : Bool) → a && b && c && d ≡ true → (a ≡ true) × (b ≡ true) × (c ≡ true) × (d ≡ true)
four_true a b c d e =
    let (p, s) = (and-eq-true_iff (a && b && c) d).0 e in
    let (q, r) = (and-eq-true_iff (a && b) c).0 p in
    let (x, y) = (and-eq-true_iff a b).0 q in
    (x, y, r, s)

pub ranges : (n m k : ℕ) → (in_range n m k ≡ true) ↔ ((1 ≤ n) × (n ≤ 120) × (m ≤ 120) × (k ≤ 392))
unfolding in_range
ranges n m k = (
  λ e.
      let (a, b, c, d) = four_true (leb 1 n) (leb n 120) (leb m 120) (leb k 392) e in
      (leb-true 1 n a, leb-true n 120 b, leb-true m 120 c, leb-true k 392 d),
  λ r. rw (le-leb 1 n r.0, le-leb n 120 r.1, le-leb m 120 r.2, le-leb k 392 r.3),
)

-- which test decides
module _ (ws : List ℕ) (n m k : ℕ) where
  pub cause_1 : (length ws ≡ 4096 → ⊥) → cause ws n m k ≡ 1
  unfolding cause
  cause_1 d = rw (ne_eqb (length ws) 4096 d)

  module _ (e : length ws ≡ 4096) where
    pub cause_2 : in_range n m k ≡ false → cause ws n m k ≡ 2
    unfolding cause
    cause_2 a = rw (eq-eqb (length ws) 4096 e, a)

    pub cause_3 : in_range n m k ≡ true → clean 8 (n + k) (m + k) 0 ws ≡ false → cause ws n m k ≡ 3
    unfolding cause
    cause_3 a b = rw (eq-eqb (length ws) 4096 e, a, b)

    pub cause_4 : in_range n m k ≡ true → clean 8 (n + k) (m + k) 0 ws ≡ true → rule_a (lent 8 ws) n m k ≡ false → cause ws n m k ≡ 4
    unfolding cause
    cause_4 a b c = rw (eq-eqb (length ws) 4096 e, a, b, c)

    pub cause_0 : in_range n m k ≡ true → clean 8 (n + k) (m + k) 0 ws ≡ true → rule_a (lent 8 ws) n m k ≡ true → cause ws n m k ≡ 0
    unfolding cause
    cause_0 a b c = rw (eq-eqb (length ws) 4096 e, a, b, c)

four : (a b c d : Bool) → ◌≡◌ {A = ℕ} (cond (not a) 1 (cond (not b) 2 (cond (not c) 3 (cond (not d) 4 0)))) 0
    → (a ≡ true) × (b ≡ true) × (c ≡ true) × (d ≡ true)
four true true true true e = (refl, refl, refl, refl)
four true true true false e = absurd (omega arith)
four true true false d e = absurd (omega arith)
four true false c d e = absurd (omega arith)
four false b c d e = absurd (omega arith)

pub accepts : (ws : List ℕ) (n m k : ℕ) → (cause ws n m k ≡ 0) ↔ Accepted ws n m k
accepts ws n m k = (
  λ e.
      let (a, b, c, d) = four (eqb (length ws) 4096) (in_range n m k) (clean 8 (n + k) (m + k) 0 ws) (rule_a (lent 8 ws) n m k) (unfold cause in e) in
      let (n1, n120, m120, k392) = (ranges n m k).0 b in
      let (f, g) = (cleans 8 (n + k) (m + k) (lit< tt) ws).0 c in
      record {
        words = eqb-true (length ws) 4096 a;
        machine = f;
        sound = record { n1 = n1; n120 = n120; m120 = m120; k392 = k392; clean = g; rule = d };
      },
  λ r.
      let S = r.sound in
      cause_0 ws n m k r.words ((ranges n m k).1 (S.n1, S.n120, S.m120, S.k392))
      ((cleans 8 (n + k) (m + k) (lit< tt) ws).1 (r.machine, S.clean)) S.rule,
)

-- a matrix that causes 2 to 4 do not refuse, packed: its words hold it, and are accepted
pub pack_same : (h : Matrix) (n m k : ℕ) → Sound h n m k → lent 8 (pack 8 h) ≡ h
pack_same h n m k S =
    lent_packed 8 h (λ c i l. S.clean.checks c i (omega (arith, S.m120, S.k392))) (λ c i l. S.clean.bits c i (omega (arith, S.n120, S.k392)))

pub pack_accepted : (h : Matrix) (n m k : ℕ) → Sound h n m k → Accepted (pack 8 h) n m k
pack_accepted h n m k S = record { words = pack_length 8 h; machine = pack_lt 8 h; sound = rw (pack_same h n m k S) S }

-- the words of an accepted matrix are those that hold it
pub pack_words : (ws : List ℕ) (n m k : ℕ) → Accepted ws n m k → pack 8 (lent 8 ws) ≡ ws
pack_words ws n m k A = pack_lent 8 (lit< tt) ws A.words A.machine

-- The words accepted with one k are refused with every other.
not_larger : (ws : List ℕ) (n m k k' : ℕ) → Accepted ws n m k → Accepted ws n m k' → k < k' → ⊥
not_larger ws n m k k' A B l =
    true≢false (sym (sound_rule (lent 8 ws) n m k' k B.sound l).own ∙ A.sound.clean.checks (m + k) (n + k) (omega arith))

pub other_k : (ws : List ℕ) (n m k : ℕ) → Accepted ws n m k → (k' : ℕ) → (k' ≡ k → ⊥) → cause ws n m k' ≡ 0 → ⊥
other_k ws n m k A k' d e =
    let B = (accepts ws n m k').0 e in
    elim (dec_lt k k') [ yes l ↦ not_larger ws n m k k' A B l | no l ↦ not_larger ws n m k' k B A (omega arith) ]

-- what a call does behind causes 1 to 4
pub accepting_answers : (ws : List ℕ) (n m k : ℕ) (after : Reply) → cause ws n m k ≡ 0 → accepting ws n m k after ≡ after
unfolding accepting
accepting_answers ws n m k after e = rw e

pub passes : (ws : List ℕ) (n m k : ℕ) → Accepted ws n m k → (after : Reply) → accepting ws n m k after ≡ after
passes ws n m k A after = accepting_answers ws n m k after ((accepts ws n m k).1 A)

pub accepting_refuses : (ws : List ℕ) (n m k : ℕ) (after : Reply) → (cause ws n m k ≡ 0 → ⊥) → accepting ws n m k after ≡ refusal (cause ws n m k) []
unfolding accepting
accepting_refuses ws n m k after d = rw (ne_eqb (cause ws n m k) 0 d)

-- the reply of acceptance alone
pub accept_refuses : (ws : List ℕ) (n m k c : ℕ) → cause ws n m k ≡ suc c → accept_reply ws n m k ≡ refusal (suc c) []
unfolding accept_reply
accept_refuses ws n m k c e = accepting_refuses ws n m k (answer []) (λ q. omega arith) ∙ rw e

pub accept_answers : (ws : List ℕ) (n m k : ℕ) → cause ws n m k ≡ 0 → accept_reply ws n m k ≡ answer []
unfolding accept_reply
accept_answers ws n m k e = accepting_answers ws n m k (answer []) e
