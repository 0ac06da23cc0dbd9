-- Words of sure and erased bits, got from a codeword, end as peeling ends, once there were as many rounds as bits. Assumes nothing.
use mathlib.Core.Path.{◌≡◌, refl, sym, ◌∙◌}
use mathlib.Core.Logic.{◌⊎◌, inl, inr}
use mathlib.Core.Bool.{Bool, true, false, ◌&&◌, and-eq-true_iff, true≢false, false≢true}
use Prim.Native.Nat.{ℕ, zero, suc, ◌+◌, ◌-◌, ◌%◌, ◌<◌, ◌≤◌}
use native.Mathlib.Decide.{ℕ_discrete}
use native.Mathlib.Omega.{arith}
use lib.Dec.{eqb}
use borrow.Author.Tests.{eq-eqb, eqb-true}
use Rattle.parity.specs.Finite.{count, any}
use Rattle.parity.specs.Matrix.{Matrix}
use Rattle.parity.specs.Words.{inside, residue, erased, is_one, peeled}
use Rattle.parity.proofs.Finite.Sums.{is_true, is_false, is, any_of, any_at, count_cong, count_at, count_pos, count_le, count_bound}
use Rattle.parity.proofs.Splits.Split.{Stops}
use Rattle.parity.proofs.Words.Residue.{Within, inside_le, inside_pos, residue_of, residue_within, residue_stops, Solves}
use Rattle.parity.proofs.Words.Peel.{peeled_left, peeled_value}
use Rattle.parity.specs.Floats.{positive_zero}
use Rattle.parity.specs.Soft.{is_erased, bit_sends, Messages, to_bits, to_checks, sent_after, result_after, byte_for, float_for, but}
use Rattle.parity.specs.declared.Channel.{Channel}
use Rattle.parity.specs.declared.Channel.TheVariants.{Sure, Soft, Erased}
use Rattle.parity.proofs.Soft.Counts.{but_at, but_other, count_but}
use Rattle.parity.proofs.Soft.Right.{Right, unknown, known, right_sure, right_settled, of_sure, gathered_right, gathered_sure, sure_first, all_erased, check_erased, check_sure}

-- ---- the rounds
module _ (h : Matrix) (N M : ℕ) (e x : ℕ → Bool) (channel : ℕ → Channel)
    (gone : (b : ℕ) → b < N → e b ≡ true → channel b ≡ Erased)
    (given : (b : ℕ) → b < N → e b ≡ false → channel b ≡ Sure (x b))
    (even : (c : ℕ) → c < M → inside h N c x % 2 ≡ 0) where
  abbrev sent : ℕ → Messages
  sent r = sent_after h N M channel r

  abbrev heard : ℕ → Messages
  heard r = to_bits h N (sent r)

  channel_right : (b : ℕ) → b < N → Right (x b) (channel b)
  channel_right b k = elim (is (e b)) [ is_true q ↦ rw (gone b k q) unknown | is_false q ↦ rw (given b k q) known ]

  -- What is sent and heard is erased, or sure and right.
  heard_right : (m : Messages) (c b : ℕ) → c < M → b < N → h c b ≡ true → ((a : ℕ) → a < N → h c a ≡ true → Right (x a) (m c a)) → Right (x b) (to_bits h N m c b)
  unfolding to_bits
  heard_right m c b k l hb S =
      elim (is (any N (λ a. (h c a && but b a) && is_erased (m c a)))) [
        | is_true q ↦
            let (a, j, t) = any_at N (λ a. (h c a && but b a) && is_erased (m c a)) q in
            let (t₁, t₂) = (and-eq-true_iff (h c a && but b a) (is_erased (m c a))).0 t in
            let (t₃, t₄) = (and-eq-true_iff (h c a) (but b a)).0 t₁ in
            rw (check_erased h N c x (even c k) b l hb (m c) a j (λ z. true≢false (sym t₄ ∙ (rw z (but_at b)))) t₃ (erased_is (m c a) t₂)) unknown
        | is_false q ↦ of_sure (check_sure h N c x (even c k) b l hb (m c) (λ a j n ha. right_sure (S a j ha) (plain q a j n ha)))
      ]
    where
      erased_is : (v : Channel) → is_erased v ≡ true → v ≡ Erased
      erased_is (Sure y) t = absurd (false≢true t)
      erased_is (Soft y) t = absurd (false≢true t)
      erased_is Erased t = refl

      plain : any N (λ a. (h c a && but b a) && is_erased (m c a)) ≡ false → (a : ℕ) → a < N → (a ≡ b → ⊥) → h c a ≡ true → is_erased (m c a) ≡ false
      plain q a j n ha = elim (is (is_erased (m c a))) [
        | is_false t ↦ t
        | is_true t ↦ absurd (true≢false (sym (any_of N (λ a. (h c a && but b a) && is_erased (m c a)) a j (rw (ha, but_other b a n, t))) ∙ q))
      ]

  sent_right : (r c b : ℕ) → c < M → b < N → h c b ≡ true → Right (x b) (sent r c b)
  unfolding sent_after to_checks bit_sends
  sent_right zero c b k l hb = channel_right b l
  sent_right (suc r) c b k l hb =
      right_settled (gathered_right (x b) (channel b) (channel_right b l) (λ d. heard r d b) (λ d. h d b && but c d) M
      (λ d j t. heard_right (sent r) d b j l ((and-eq-true_iff (h d b) (but c d)).0 t).0 (λ a i ha. sent_right r d a j i ha)))

  heard_right' : (r c b : ℕ) → c < M → b < N → h c b ≡ true → Right (x b) (heard r c b)
  heard_right' r c b k l hb = heard_right (sent r) c b k l hb (λ a i ha. sent_right r c a k i ha)

  -- A bit that the channel knows is sent to every check.
  sent_given : (r c b : ℕ) → b < N → e b ≡ false → sent r c b ≡ Sure (x b)
  unfolding sent_after to_checks bit_sends
  sent_given zero c b l q = given b l q
  sent_given (suc r) c b l q = rw (given b l q, sure_first (x b) (λ d. heard r d b) (λ d. h d b && but c d) M)

  -- A bit that one check gave is sent to every other check.
  sent_solved : (r c d b : ℕ) → d < M → b < N → h d b ≡ true → (d ≡ c → ⊥) → heard r d b ≡ Sure (x b) → sent (suc r) c b ≡ Sure (x b)
  unfolding sent_after to_checks bit_sends
  sent_solved r c d b k l hd n q =
      rw (gathered_sure (x b) (channel b) (channel_right b l) (λ d. heard r d b) (λ d. h d b && but c d) M
      (λ i j t. heard_right' r i b j l ((and-eq-true_iff (h i b) (but c i)).0 t).0) d k (rw (hd, but_other c d n)) q)

  -- ---- the residue stays erased
  residue_erased : (c b : ℕ) → c < M → b < N → h c b ≡ true → residue h N M e b ≡ true → (m : Messages)
      → ((a : ℕ) → a < N → h c a ≡ true → residue h N M e a ≡ true → m c a ≡ Erased) → to_bits h N m c b ≡ Erased
  unfolding to_bits inside
  residue_erased c b k l hb q m S =
      let t = residue_stops h N M e c k in
      let p = inside_pos h N c (residue h N M e) b l hb q in
      let z = count_but N b (λ a. h c a && residue h N M e a) l in
      let (a, j, u) = count_at N (λ a. but b a && (h c a && residue h N M e a)) (omega (arith, rw (hb, q) at z)) in
      let (u₁, u₂) = (and-eq-true_iff (but b a) (h c a && residue h N M e a)).0 u in
      let (u₃, u₄) = (and-eq-true_iff (h c a) (residue h N M e a)).0 u₂ in
      check_erased h N c x (even c k) b l hb (m c) a j (λ z. true≢false (sym u₁ ∙ (rw z (but_at b)))) u₃ (S a j u₃ u₄)

  sent_residue : (r c b : ℕ) → c < M → b < N → h c b ≡ true → residue h N M e b ≡ true → sent r c b ≡ Erased
  unfolding sent_after to_checks bit_sends
  sent_residue zero c b k l hb q = gone b l (residue_within h N M e b l q)
  sent_residue (suc r) c b k l hb q =
      rw (
        gone b l (residue_within h N M e b l q),
        all_erased (λ d. heard r d b) (λ d. h d b && but c d) M
            (λ d j t. residue_erased d b j l ((and-eq-true_iff (h d b) (but c d)).0 t).0 q (sent r) (λ a i ha s. sent_residue r d a j i ha s)),
      )

  result_residue : (r b : ℕ) → b < N → residue h N M e b ≡ true → result_after h N M channel r b ≡ Erased
  unfolding result_after bit_sends
  result_residue r b l q =
      rw (
        gone b l (residue_within h N M e b l q),
        all_erased (λ d. heard (r - 1) d b) (λ d. h d b) M
            (λ d j t. residue_erased d b j l t q (sent (r - 1)) (λ a i ha s. sent_residue (r - 1) d a j i ha s)),
      )

  -- ---- every other bit is recovered: after i steps of peeling, with the bits e' still erased, each bit that was recovered has a check
  -- without erased bits that gives it from round i on
  record Solver (i : ℕ) (e' : ℕ → Bool) (b : ℕ) : Type 0 where
    check : ℕ
    below : check < M
    has : h check b ≡ true
    clear : inside h N check e' ≡ 0
    some : 1 ≤ i
    gives : (r : ℕ) → i ≤ suc r → heard r check b ≡ Sure (x b)

  abbrev Known : ℕ → (ℕ → Bool) → Type 0
  Known i e' = (b : ℕ) → b < N → e' b ≡ false → (e b ≡ false) ⊎ Solver i e' b

  later : (i j : ℕ) (e' : ℕ → Bool) → i ≤ j → Known i e' → Known j e'
  later i j e' m K b l q = elim (K b l q) [
    | inl g ↦ inl g
    | inr s ↦ inr record { check = s.check; below = s.below; has = s.has; clear = s.clear; some = omega (arith, s.some); gives = λ r k. s.gives r (omega arith) }
  ]

  -- a bit that is known after i steps is sent in round i and later to each check that still has an erased bit
  sent_known : (i : ℕ) (e' : ℕ → Bool) → Known i e' → (c a : ℕ) → a < N → e' a ≡ false → (inside h N c e' ≡ 0 → ⊥) → (r : ℕ) → i ≤ r → sent r c a ≡ Sure (x a)
  sent_known i e' K c a l q n r k = elim (K a l q) [
    | inl g ↦ sent_given r c a l g
    | inr s ↦ go r k s
  ]
    where
      go : (r : ℕ) → i ≤ r → Solver i e' a → sent r c a ≡ Sure (x a)
      go zero k s = absurd (omega (arith, s.some))
      go (suc r) k s = sent_solved r c s.check a s.below l s.has (λ z. n (rw z at s.clear)) (s.gives r k)

  -- the bits without b
  abbrev without : (ℕ → Bool) → ℕ → ℕ → Bool
  without e' b a = but b a && e' a

  one_step : (i : ℕ) (e' : ℕ → Bool) → Known i e' → (c b : ℕ) → c < M → b < N → h c b ≡ true → e' b ≡ true → inside h N c e' ≡ 1 → Known (suc i) (without e' b)
  unfolding inside
  one_step i e' K c b k l hb eb alone a j q = elim (ℕ_discrete a b) [
    | yes z ↦ rw z (inr record {
      check = c;
      below = k;
      has = hb;
      clear = empty;
      some = omega arith;
      gives = λ r m. gives r (omega arith);
    })
    | no z ↦ elim (K a j (rw (but_other b a z) at q)) [
      | inl g ↦ inl g
      | inr s ↦ inr record {
        check = s.check;
        below = s.below;
        has = s.has;
        clear = shrinks s.check s.clear;
        some = omega arith;
        gives = λ r m. s.gives r (omega arith);
      }
    ]
  ]
    where
      lone : count N (λ a. but b a && (h c a && e' a)) ≡ 0
      lone = omega (arith, rw (hb, eb) at (count_but N b (λ a. h c a && e' a) l), alone)

      swap : (p q r : Bool) → p && (q && r) ≡ q && (p && r)
      swap true q r = refl
      swap false true r = refl
      swap false false r = refl

      empty : count N (λ a. h c a && without e' b a) ≡ 0
      empty = count_cong N (λ a j. swap (h c a) (but b a) (e' a)) ∙ lone

      shrinks : (d : ℕ) → inside h N d e' ≡ 0 → inside h N d (without e' b) ≡ 0
      shrinks d g = omega (arith, inside_le h N d (without e' b) e' (λ a j t. ((and-eq-true_iff (but b a) (e' a)).0 t).1))

      other : (a : ℕ) → a < N → (a ≡ b → ⊥) → h c a ≡ true → e' a ≡ false
      other a j n ha = elim (is (e' a)) [
        | is_false t ↦ t
        | is_true t ↦ absurd (omega (arith, lone, count_pos N (λ a. but b a && (h c a && e' a)) a j (rw (but_other b a n, ha, t))))
      ]

      gives : (r : ℕ) → i ≤ r → heard r c b ≡ Sure (x b)
      gives r m = unfold to_bits in check_sure h N c x (even c k) b l hb (sent r c)
          (λ a j n ha. sent_known i e' K c a j (other a j n ha) (λ z. omega arith) r m)

  -- steps until no check has exactly one erased bit
  record End (i : ℕ) : Type 0 where
    left : ℕ → Bool
    stops : Stops h N M left
    inner : Within N left e
    known : Known i left

  few : (c : ℕ) (e' : ℕ → Bool) → inside h N c e' ≤ count N e'
  unfolding inside
  few c e' = count_le N (λ b. h c b && e' b) e' (λ b l q. ((and-eq-true_iff (h c b) (e' b)).0 q).1)

  single : (c : ℕ) (e' : ℕ → Bool) → inside h N c e' ≡ 1 → (b : ℕ) × (b < N) × (h c b ≡ true) × (e' b ≡ true)
  unfolding inside
  single c e' q =
      let (b, l, t) = count_at N (λ b. h c b && e' b) (omega arith) in
      let (t₁, t₂) = (and-eq-true_iff (h c b) (e' b)).0 t in
      (b, l, t₁, t₂)

  finish : (fuel i j : ℕ) (e' : ℕ → Bool) → Within N e' e → Known i e' → count N e' ≤ fuel → fuel + i ≤ j → End j
  finish zero i j e' w K k m = record { left = e'; stops = λ c l q. omega (arith, few c e'); inner = w; known = later i j e' (omega arith) K }
  finish (suc fuel) i j e' w K k m =
      elim (is (any M (λ c. eqb (inside h N c e') 1))) [
        | is_false q ↦ record {
          left = e';
          stops = λ c l t. true≢false (sym (any_of M (λ c. eqb (inside h N c e') 1) c l (eq-eqb (inside h N c e') 1 t)) ∙ q);
          inner = w;
          known = later i j e' (omega arith) K;
        }
        | is_true q ↦
            let (c, cm, t) = any_at M (λ c. eqb (inside h N c e') 1) q in
            let (b, bn, hb, eb) = single c e' (eqb-true (inside h N c e') 1 t) in
            finish fuel (suc i) j (without e' b) (λ a l u. w a l ((and-eq-true_iff (but b a) (e' a)).0 u).1)
            (one_step i e' K c b cm bn hb eb (eqb-true (inside h N c e') 1 t))
            (omega (arith, rw eb at (count_but N b e' bn))) (omega arith)
      ]

  end : (j : ℕ) → N ≤ j → End j
  end j k = finish N 0 j e (λ b l q. q) (λ b l q. inl q) (count_bound N e) (omega arith)

  -- A bit outside the residue is right after as many rounds as there are bits.
  result_known : (r b : ℕ) → 1 ≤ r → N ≤ r → b < N → residue h N M e b ≡ false → result_after h N M channel r b ≡ Sure (x b)
  unfolding result_after bit_sends
  result_known r b o k l q =
      let E = end r k in
      let clear : E.left b ≡ false = elim (is (E.left b)) [
        | is_false t ↦ t
        | is_true t ↦ absurd (true≢false (sym (residue_of h N M e E.left E.stops E.inner b l t) ∙ q))
      ] in
      elim (E.known b l clear) [
        | inl g ↦ rw (given b l g, sure_first (x b) (λ d. heard (r - 1) d b) (λ d. h d b) M)
        | inr s ↦ rw (gathered_sure (x b) (channel b) (channel_right b l) (λ d. heard (r - 1) d b) (λ d. h d b) M
            (λ i j t. heard_right' (r - 1) i b j l t) s.check s.below s.has (s.gives (r - 1) (omega arith)))
      ]

-- A word of bytes up to 2 got from a codeword x by erasing bits: after r rounds, at least as many as bits, each bit's byte is the peeled one.
pub ends_as_peeling : (h : Matrix) (N M : ℕ) (w : ℕ → ℕ) (x : ℕ → Bool) (channel : ℕ → Channel)
    → ((b : ℕ) → b < N → erased w b ≡ true → channel b ≡ Erased)
    → ((b : ℕ) → b < N → erased w b ≡ false → channel b ≡ Sure (x b))
    → ((b : ℕ) → b < N → erased w b ≡ false → x b ≡ is_one w b)
    → ((c : ℕ) → c < M → inside h N c x % 2 ≡ 0)
    → (r : ℕ) → 1 ≤ r → N ≤ r → (b : ℕ) → b < N → byte_for (result_after h N M channel r b) ≡ peeled h N M w b
ends_as_peeling h N M w x channel gone given agree even r o k b l =
    let S : Solves h N M (erased w) (residue h N M (erased w)) (is_one w) x = record { known = agree; even = λ c j q. even c j } in
    elim (is (residue h N M (erased w) b)) [
      | is_true q ↦ rw (result_residue h N M (erased w) x channel gone given even r b l q) (sym (peeled_left h N M w x S b q))
      | is_false q ↦ rw (result_known h N M (erased w) x channel gone given even r b o k l q) (sym (peeled_value h N M w x S b l q))
    ]

-- Its float is plus zero.
pub ends_without_float : (h : Matrix) (N M : ℕ) (w : ℕ → ℕ) (x : ℕ → Bool) (channel : ℕ → Channel)
    → ((b : ℕ) → b < N → erased w b ≡ true → channel b ≡ Erased)
    → ((b : ℕ) → b < N → erased w b ≡ false → channel b ≡ Sure (x b))
    → ((c : ℕ) → c < M → inside h N c x % 2 ≡ 0)
    → (r : ℕ) → 1 ≤ r → N ≤ r → (b : ℕ) → b < N → float_for (result_after h N M channel r b) ≡ positive_zero
ends_without_float h N M w x channel gone given even r o k b l =
    elim (is (residue h N M (erased w) b)) [
      | is_true q ↦ rw (result_residue h N M (erased w) x channel gone given even r b l q)
      | is_false q ↦ rw (result_known h N M (erased w) x channel gone given even r b o k l q)
    ]
