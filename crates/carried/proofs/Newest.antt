-- The newest added check of a matrix whose splits are taken back: its bits, what the code reads of it, and one split fewer. Assumes nothing.
use mathlib.Core.Path.{◌≡◌, sym, ap, ◌∙◌}
use mathlib.Core.Bool.{Bool, true, false, ◌&&◌, or-false, true≢false, false≢true}
use Prim.Native.Nat.{ℕ, suc, ◌+◌, ◌-◌, ◌≤◌, ◌<◌}
use native.Mathlib.Nat.{add-suc}
use native.Mathlib.Omega.{arith}
use native.Mathlib.Decide.{ℕ_discrete, dec_lt}
use borrow.Author.Tests.{lt-ltb, le-ltb}
use Rattle.parity.specs.Finite.{count}
use Rattle.parity.specs.Matrix.{Matrix}
use Rattle.parity.specs.Cycles.{share, taken_back, others, lower_of, higher_of}
use Rattle.parity.specs.Sound.{Clean, Sound, Newest}
use Rattle.parity.proofs.Finite.Sums.{is_true, is_false, is, count_cong, count_suc, count_mono, count_end, count_pos}
use Rattle.parity.proofs.Matrix.Sound.{sound_rule}
use Rattle.parity.proofs.Splits.Back.{back_at, back_bit, back_clean}
use Rattle.parity.proofs.Splits.Undo.{no_third, lower_at, higher_at, pair_own}
use Rattle.rows.specs.Rows.{NextOne}
use Rattle.columns.specs.Columns.{Columns}
use Rattle.columns.specs.Three.{Apart}
use Rattle.columns.proofs.Apart.{none_columns, columns_none, none_shares, shares_none}
use Rattle.exchange.specs.Back.{Newer}
use Rattle.exchange.proofs.ReadPair.{first_one, second_one}
use Rattle.carried.specs.Recover.{Raw, BackOne}

-- columns of the first m checks have no other place
pub columns_end : (m : ℕ) (h g : Matrix) → Columns m h g → (b d : ℕ) → m ≤ d → g b d ≡ false
columns_end m h g C b d l = C.at b d ∙ rw (le-ltb d m l)

-- an added check of an accepted matrix contains no bit above its own
above_own : (h : Matrix) (n m k i b : ℕ) → Sound h n m k → i < k → n + i < b → h (m + i) b ≡ false
above_own h n m k i b S l t =
    let R = sound_rule h n m k i S l in
    elim (dec_lt b (n + k)) [
      | no q ↦ S.clean.bits (m + i) b (omega arith)
      | yes q ↦ elim (is (h (m + i) b)) [
        | is_false e ↦ e
        | is_true e ↦ absurd (omega (
          arith,
          R.two,
          R.all3,
          rw R.own at (count_suc (n + i) (h (m + i))),
          rw e at (count_suc b (h (m + i))),
          count_mono (suc (n + i)) b (h (m + i)) (omega arith),
          count_mono (suc b) (n + k) (h (m + i)) (omega arith),
        ))
      ]
    ]

-- two bits that share check M alone are in no lower one together
elsewhere : (h : Matrix) (M K a b : ℕ) → share h K a b ≡ 1 → h M a ≡ true → h M b ≡ true → M < K → (c : ℕ) → c < M → (h c a && h c b) ≡ false
unfolding share
elsewhere h M K a b o x y l c t =
    elim (is (h c a && h c b)) [
      | is_false e ↦ e
      | is_true e ↦ absurd (omega (
        arith,
        count_pos M (λ c. h c a && h c b) c t e,
        rw (x, y) at (count_suc M (λ c. h c a && h c b)),
        count_mono (suc M) K (λ c. h c a && h c b) (omega arith),
      ))
    ]

module _ (g : Matrix) (n m j : ℕ) (R : Raw g n m (suc j)) where
  abbrev N : ℕ
  N = n + j

  abbrev M : ℕ
  M = m + j

  abbrev pub h : Matrix
  h = R.origin

  rule_own : g M N ≡ true
  rule_own = R.added j N (omega arith) ∙ (sound_rule h n m R.size j R.sound (omega (arith, R.less))).own

  rule_two : count N (g M) ≡ 2
  rule_two =
      count_cong N {p = g M} {q = h M} (λ b l. R.added j b (omega arith)) ∙ (sound_rule h n m R.size j R.sound (omega (arith, R.less))).two

  pub raw_small : N < 512
  raw_small = omega (arith, R.sound.n120, R.sound.k392, R.less)

  pub raw_clean : Clean g (suc N) (suc M)
  raw_clean = rw (add-suc n j, add-suc m j) at R.clean

  abbrev pub u : ℕ
  u = lower_of g N M

  abbrev pub v : ℕ
  v = higher_of g N M

  -- two bits of the newest check share no other added check
  module _ (a b : ℕ) (ab : a < b) (bn : b < suc N) (p : g M a ≡ true) (q : g M b ≡ true) where
    none_added : (c : ℕ) → m ≤ c → c < M → (g c a && g c b) ≡ false
    none_added c l t =
        let s = R.size in
        let e : m + (c - m) ≡ c = omega arith in
        let ga : g c a ≡ h c a = rw e at (R.added (c - m) a (omega arith)) in
        let gb : g c b ≡ h c b = rw e at (R.added (c - m) b (omega arith)) in
        let ha : h M a ≡ true = sym (R.added j a (omega arith)) ∙ p in
        let hb : h M b ≡ true = sym (R.added j b (omega arith)) ∙ q in
        let o = (sound_rule h n m s j R.sound (omega (arith, R.less))).alone a b ab (omega (arith, R.less)) ha hb in
        rw (ga, gb) (elsewhere h M (m + s) a b o ha hb (omega (arith, R.less)) c t)

    -- so that they share one check, their own, exactly if they share no given one
    share_own : share g (suc M) a b ≡ suc (share g m a b)
    unfolding share
    share_own =
        let e = rw (p, q) at (count_suc M (λ c. g c a && g c b)) in
        omega (arith, count_end m M (λ c. g c a && g c b) (omega arith) none_added)

  two_bits : (u < v) × (v < N) × (g M u ≡ true) × (g M v ≡ true)
  unfolding lower_of higher_of
  two_bits =
      let (a, b, c) = higher_at N (g M) rule_two in
      (a, b, (lower_at N (g M) rule_two).1, c)

  only_bits : (b : ℕ) → g M b ≡ true → (b ≡ u → ⊥) → (b ≡ v → ⊥) → b ≡ N
  unfolding lower_of higher_of
  only_bits b e du dv =
      elim (ℕ_discrete b N) [
        | yes q ↦ q
        | no d ↦ elim (dec_lt b N) [
          | yes l ↦ absurd (true≢false (sym e ∙ no_third N (g M) rule_two b l du dv))
          | no l ↦ absurd (true≢false (sym e ∙ raw_clean.bits M b (omega arith)))
        ]
      ]

  -- what the code reads: the two lower bits
  pub reads_lower : (x : ℕ) → NextOne 512 (g M) 0 x → x ≡ u
  unfolding lower_of higher_of
  reads_lower x F = first_one (g M) N rule_two raw_small x F

  pub reads_higher : (x y : ℕ) → x ≡ u → NextOne 512 (g M) (x + 1) y → y ≡ v
  unfolding lower_of higher_of
  reads_higher x y e F = second_one (g M) N rule_two raw_small y (rw e at F)

  pub bits_below : (u < v) × (v < N)
  bits_below = let (x, y, z, w) = two_bits in (x, y)

  -- no other added check contains the newest bit
  newest_alone : (c : ℕ) → m ≤ c → (c ≡ M → ⊥) → g c N ≡ false
  newest_alone c l d =
      elim (dec_lt c M) [
        | no q ↦ raw_clean.checks c N (omega arith)
        | yes q ↦
            let e : m + (c - m) ≡ c = omega arith in
            let i : c - m < R.size = omega (arith, R.less) in
            rw e at (R.added (c - m) N (omega arith) ∙ above_own h n m R.size (c - m) N R.sound i (omega arith))
      ]

  pub newer : Newest g N M → Newer g m N M u v
  newer A = record {
    behind = omega arith;
    below = (let (x, y) = bits_below in omega arith, bits_below.1);
    own = pair_own g N M A;
    alone = newest_alone;
  }

  -- one split fewer
  pub raw_back : Raw (taken_back g N M) n m j
  raw_back = record {
    origin = h;
    size = R.size;
    sound = R.sound;
    less = omega (arith, R.less);
    clean = back_clean g N M raw_clean;
    added = λ i b l. elim (ℕ_discrete b N) [
      | yes q ↦ rw q (back_bit g N M (m + i) ∙ sym (above_own h n m R.size i N R.sound (omega (arith, R.less)) (omega arith)))
      | no d ↦ back_at g N M (m + i) b (λ q. omega arith) d ∙ rw (newest_alone (m + i) (omega arith) (λ q. omega arith), or-false) (R.added i b (omega arith))
    ];
  }

  -- q has the columns of the given checks
  module _ (q : Matrix) (C : Columns m g q) where
    few : m ≤ 128
    few = omega (arith, R.sound.m120)

    -- the three bits share no given check: the newest check keeps rule A
    module _ (r : Bool) (E : Apart 128 q u v N r) (t : r ≡ true) where
      none_given : (share g m u v ≡ 0) × (share g m u N ≡ 0) × (share g m v N ≡ 0)
      none_given = none_shares g m u v N (none_columns 128 g q m u v N C few (E.yes_none t))

      one_share : (a b : ℕ) → a < b → b < suc N → g M a ≡ true → g M b ≡ true → share g m a b ≡ 0
      one_share a b ab bn p q =
          let (x, y, z, w) = two_bits in
          let (l, r, s) = none_given in
          elim (ℕ_discrete a u) [
            | yes i ↦ elim (ℕ_discrete b v) [
              | yes k ↦ rw (i, k) l
              | no k ↦ let e : b ≡ N = only_bits b q (λ o. omega arith) k in rw (i, e) r
            ]
            | no i ↦ elim (ℕ_discrete a v) [
              | yes k ↦ let e : b ≡ N = only_bits b q (λ o. omega arith) (λ o. omega arith) in rw (k, e) s
              | no k ↦ let e : a ≡ N = only_bits a p i k in absurd (omega arith)
            ]
          ]

      keeps_rule : Newest g N M
      keeps_rule = record {
        clean = raw_clean;
        own = rule_own;
        two = rule_two;
        alone = λ a b ab bn p q. share_own a b ab bn p q ∙ ap suc (one_share a b ab bn p q);
      }

    breaks_rule : (r : Bool) → Apart 128 q u v N r → r ≡ false → Newest g N M → ⊥
    breaks_rule r E t A =
        let (x, y, z, w) = two_bits in
        let none : (a b : ℕ) → a < b → b < suc N → g M a ≡ true → g M b ≡ true → share g m a b ≡ 0 =
        λ a b ab bn p q. let e = share_own a b ab bn p q in let f = A.alone a b ab bn p q in omega arith in
        true≢false (sym (E.none_yes (columns_none 128 g q m u v N C few (shares_none g m u v N
        (none u v x (omega arith) z w)
        (none u N (omega arith) (omega arith) z rule_own)
        (none v N y (omega arith) w rule_own)))) ∙ t)

    -- the other checks that contain the newest bit are those of its column
    others_weight : (s : ℕ) → s ≡ count 128 (q N) → others g N M ≡ s
    unfolding others
    others_weight s e =
        let a = count_end m M (λ c. g c N) (omega arith) (λ c l t. newest_alone c l (λ i. omega arith)) in
        let b = count_end m 128 (q N) (omega (arith, R.sound.m120)) (λ c l t. columns_end m g q C N c l) in
        a ∙ count_cong m {p = λ c. g c N} {q = q N} (λ c l. sym (C.at N c ∙ rw (lt-ltb c m l))) ∙ sym (e ∙ b)

    -- what one step answers, from the two bits x and y that it reads
    module _ (x y : ℕ) (r : Bool) (a : x ≡ u) (b : y ≡ v) (E : Apart 128 q x y N r) where
      pub one_stops : r ≡ false → (g' : Matrix) → BackOne g g' N M false
      one_stops f g' = record {
        newest = λ q. absurd (false≢true q);
        two = λ q. absurd (false≢true q);
        matrix = λ q. absurd (false≢true q);
        stops = λ q A. absurd (breaks_rule r (rw (a, b) at E) f A);
      }

      pub one_keeps : r ≡ true → Newest g N M
      one_keeps f = keeps_rule r (rw (a, b) at E) f

    pub one_few : (s : ℕ) → s ≡ count 128 (q N) → s < 2 → (g' : Matrix) → BackOne g g' N M false
    one_few s e l g' = record {
      newest = λ q. absurd (false≢true q);
      two = λ q. absurd (false≢true q);
      matrix = λ q. absurd (false≢true q);
      stops = λ q A. rw (others_weight s e) l;
    }

    pub one_made : Newest g N M → (s : ℕ) → s ≡ count 128 (q N) → 2 ≤ s → (g' : Matrix) → g' ≡ taken_back g N M → BackOne g g' N M true
    one_made A s e l g' t = record {
      newest = λ q. A;
      two = λ q. rw (others_weight s e) l;
      matrix = λ q. t;
      stops = λ q A. absurd (true≢false q);
    }
