-- Added checks that pass one after the other, with the table of their lower bits, and rule A from them. Assumes nothing.
use mathlib.Core.Path.{◌≡◌, sym, ap, ◌∙◌}
use mathlib.Core.Bool.{Bool, true, false, ◌&&◌, and-eq-true_iff, true≢false, false≢true}
use mathlib.Core.List.{List}
use Prim.Native.Nat.{ℕ, ◌+◌, ◌*◌, ◌-◌, ◌≤◌, ◌<◌}
use native.Mathlib.Omega.{arith}
use native.Mathlib.Decide.{ℕ_discrete, dec_lt}
use lib.ListN.{replicate}
use Rattle.parity.specs.Matrix.{Matrix, rule_at, rule_a}
use Rattle.parity.proofs.Finite.Sums.{is_true, is_false, is, all_of}
use Rattle.parity.proofs.Matrix.Lent.{lent_empty}
use Rattle.parity.proofs.Matrix.Rule.{first, second, new}
use Rattle.columns.specs.Three.{two, NoneIn}
use Rattle.columns.proofs.Apart.{two_false, two_none}
use Rattle.matrix.specs.Three.{OnlyIn, Three, NoneOf, Passed, row_of, place_of, paired, PairIn, Seen, Passing, Fresh, Judged}
use Rattle.matrix.proofs.Three.{one_of_three, three_rule, rule_three}

-- no check contains both bits where it contains not both
both_false : (h : Matrix) (c p q : ℕ) → (h c p ≡ true → h c q ≡ true → ⊥) → (h c p && h c q) ≡ false
both_false h c p q f =
    elim (is (h c p && h c q)) [
      | is_false e ↦ e
      | is_true e ↦ let (a, b) = (and-eq-true_iff (h c p) (h c q)).0 e in absurd (f a b)
    ]

-- two bits of a check that are below its highest are its lower two
module _ (h : Matrix) (c x y z : ℕ) (T : Three h c x y z) (p q : ℕ) (pq : p < q) (hp : h c p ≡ true) (hq : h c q ≡ true) where
  pub lower_pair : (q ≡ z → ⊥) → (p ≡ x) × (q ≡ y)
  lower_pair d =
      elim (one_of_three h c x y z T q hq) [
        | first t ↦ elim (one_of_three h c x y z T p hp) [
          | first s ↦ absurd (omega arith)
          | second s ↦ absurd (omega (arith, T.xy))
          | new s ↦ absurd (omega (arith, T.xy, T.yz))
        ]
        | second t ↦ elim (one_of_three h c x y z T p hp) [
          | first s ↦ (s, t)
          | second s ↦ absurd (omega arith)
          | new s ↦ absurd (omega (arith, T.yz))
        ]
        | new t ↦ absurd (d t)
      ]

-- the table at the start
pub passing_none : (W : ℕ) (h : Matrix) (n m N : ℕ) (ps : List ℕ) → ps ≡ replicate N 0 → Passing W h n m 0 ps
unfolding paired
passing_none W h n m N ps e = record {
  passed = λ i l. absurd (omega arith);
  seen = record {
    there = λ i x y l T. absurd (omega arith);
    found = λ a b l k O. lent_empty W N ps e (row_of W b) (place_of W a b);
  };
}

module _ (W : ℕ) (h : Matrix) (n m j x y : ℕ) (ps : List ℕ) (T : Three h (m + j) x y (n + j)) (P : Passing W h n m j ps) (top : n + j < 64 * W) where
  -- neither the check whose own bit y is contains x, nor is the pair in the table
  pub none_before : (n ≤ y → h (m + (y - n)) x ≡ false) → paired W ps x y ≡ false → NoneOf h m j x y
  none_before own out = record {
    none = λ i l. both_false h (m + i) x y (λ hx hy. elim (ℕ_discrete y (n + i)) [
      | yes q ↦
          let e : y - n ≡ i = omega arith in
          false≢true (sym (rw e at (own (omega arith))) ∙ hx)
      | no d ↦
          let I = P.passed i l in
          let (s, t) = lower_pair h (m + i) I.x I.y (n + i) I.three x y T.xy hx hy d in
          false≢true (sym out ∙ rw (s, t) (P.seen.there i I.x I.y l I.three))
    ]);
  }

  -- that check is one before
  pub own_before : n ≤ y → h (m + (y - n)) x ≡ true → NoneOf h m j x y → ⊥
  own_before k e N =
      let l : y - n < j = omega (arith, T.yz) in
      let s : n + (y - n) ≡ y = omega arith in
      let z : h (m + (y - n)) y ≡ true = rw s at (P.passed (y - n) l).three.in_z in
      true≢false (sym (rw (e, z)) ∙ N.none (y - n) l)

  pub pair_before : paired W ps x y ≡ true → NoneOf h m j x y → ⊥
  pair_before e N = true≢false (sym e ∙ P.seen.found x y T.xy (omega (arith, T.yz)) N)

  -- the pair is put into the table
  pub seen_next : (qs : List ℕ) → PairIn W ps qs x y → Seen W h n m (j + 1) qs
  seen_next qs Q = record {
    there = λ i a b l U. elim (ℕ_discrete i j) [
      | yes q ↦
          let A : Three h (m + j) a b (n + j) = rw q at U in
          let (s, t) = lower_pair h (m + j) x y (n + j) T a b A.xy A.in_x A.in_y (λ r. omega (arith, A.yz)) in
          rw (s, t) Q.here
      | no d ↦ elim (ℕ_discrete a x) [
        | no r ↦ Q.other a b U.xy (omega (arith, U.yz)) (λ s. r s.0) ∙ P.seen.there i a b (omega arith) U
        | yes r ↦ elim (ℕ_discrete b y) [
          | no u ↦ Q.other a b U.xy (omega (arith, U.yz)) (λ s. u s.1) ∙ P.seen.there i a b (omega arith) U
          | yes u ↦ rw (r, u) Q.here
        ]
      ]
    ];
    found = λ a b ab bl N.
        let M : NoneOf h m j a b = record { none = λ i l. N.none i (omega arith) } in
        Q.other a b ab bl (λ s. true≢false (sym (rw (T.in_x, T.in_y)) ∙ sym (ap (λ (t : ℕ). h (m + j) t && h (m + j) y) s.0) ∙ sym (ap (λ (t : ℕ). h (m + j) a && h (m + j) t) s.1) ∙ N.none j (omega arith)))
        ∙ P.seen.found a b ab bl M;
  }

  -- the check passes
  pub passing_next : NoneIn h m x y (n + j) → NoneOf h m j x y → (qs : List ℕ) → Seen W h n m (j + 1) qs → Passing W h n m (j + 1) qs
  passing_next G N qs S = record {
    passed = λ i l. elim (ℕ_discrete i j) [
      | yes q ↦ rw q (record { x = x; y = y; three = T; given = G; before = N })
      | no d ↦ P.passed i (omega arith)
    ];
    seen = S;
  }

-- by the rule no check before contains two of the three
module _ (h : Matrix) (n m k j x y : ℕ) (jk : j < k) (T : Three h (m + j) x y (n + j)) (e : rule_at h n m k j ≡ true) where
  pub rule_given : NoneIn h m x y (n + j)
  rule_given = record { none = λ d l. (rule_three h n m k j jk x y T e).only d (omega arith) (λ q. omega arith) }

  pub rule_before : NoneOf h m j x y
  rule_before = record {
    none = λ i l. (two_false (h (m + i) x) (h (m + i) y) (h (m + i) (n + j)) ((rule_three h n m k j jk x y T e).only (m + i) (omega arith) (λ q. omega arith))).0;
  }

-- a test that holds only where another one does
pub unless : (a b : Bool) → (a ≡ true → b ≡ true) → b ≡ false → a ≡ false
unless a b f e = elim (is a) [ is_false q ↦ q | is_true q ↦ absurd (true≢false (sym (f q) ∙ e)) ]

pub judged_no : (W : ℕ) (h : Matrix) (n m k j : ℕ) (ps : List ℕ) → rule_at h n m k j ≡ false → Judged W h n m k j ps false
judged_no W h n m k j ps e = record { yes = λ q. absurd (false≢true q); no = λ q. e }

pub judged : (W : ℕ) (h : Matrix) (n m k j x y : ℕ) (ps qs : List ℕ) (r : Bool) → j < k → n + j < 64 * W → Three h (m + j) x y (n + j) → Passing W h n m j ps
    → NoneIn h m x y (n + j) → Fresh W h n m j x y qs r → Judged W h n m k j qs r
judged W h n m k j x y ps qs r jk top T P G F = record {
  yes = λ q. passing_next W h n m j x y ps T P top G (F.yes_none q) qs (F.yes_seen q);
  no = unless (rule_at h n m k j) r (λ t. F.none_yes (rule_before h n m k j x y jk T t));
}

-- Where all added checks pass, rule A holds.
module _ (h : Matrix) (n m k : ℕ) (P : (i : ℕ) → i < k → Passed h n m i) where
  -- two bits of an added check are not both in a later one
  later : (i j p q : ℕ) → i < j → j < k → p < q → q < n + j → h (m + i) p ≡ true → h (m + i) q ≡ true → (h (m + j) p && h (m + j) q) ≡ false
  later i j p q ij jk pq ql hp hq =
      both_false h (m + j) p q (λ a b.
      let J = P j jk in
      let (s, t) = lower_pair h (m + j) J.x J.y (n + j) J.three p q pq a b (λ r. omega arith) in
      let N = rw (← s, ← t) at (J.before.none i ij) in
      true≢false (sym (rw (hp, hq)) ∙ N))

  only : (j : ℕ) → (l : j < k) → OnlyIn h (m + k) (m + j) (P j l).x (P j l).y (n + j)
  only j l =
      let J = P j l in
      let T = J.three in
      record {
        only = λ d dl r. elim (dec_lt d m) [
          | yes u ↦ J.given.none d u
          | no u ↦
              let e : d ≡ m + (d - m) = omega arith in
              let f : two h J.x J.y (n + j) (m + (d - m)) ≡ false = elim (dec_lt (d - m) j) [
                | yes v ↦
                    let I = (P (d - m) (omega arith)).three in
                    let z : h (m + (d - m)) (n + j) ≡ false = I.others (n + j) (λ q. omega (arith, I.xy, I.yz)) (λ q. omega (arith, I.yz)) (λ q. omega arith) in
                    two_none (h (m + (d - m)) J.x) (h (m + (d - m)) J.y) (h (m + (d - m)) (n + j)) (J.before.none (d - m) v)
                    (both_false h (m + (d - m)) J.x (n + j) (λ a b. false≢true (sym z ∙ b)))
                    (both_false h (m + (d - m)) J.y (n + j) (λ a b. false≢true (sym z ∙ b)))
                | no v ↦
                    let w : j < d - m = omega arith in
                    let g : d - m < k = omega arith in
                    two_none (h (m + (d - m)) J.x) (h (m + (d - m)) J.y) (h (m + (d - m)) (n + j))
                    (later j (d - m) J.x J.y w g T.xy (omega (arith, T.yz)) T.in_x T.in_y)
                    (later j (d - m) J.x (n + j) w g (omega (arith, T.xy, T.yz)) (omega arith) T.in_x T.in_z)
                    (later j (d - m) J.y (n + j) w g T.yz (omega arith) T.in_y T.in_z)
              ] in
              ap (two h J.x J.y (n + j)) e ∙ f
        ];
      }

  pub passed_rule : rule_a h n m k ≡ true
  unfolding rule_a
  passed_rule = all_of k _ (λ j l. three_rule h n m k j l (P j l).x (P j l).y (P j l).three (only j l))
