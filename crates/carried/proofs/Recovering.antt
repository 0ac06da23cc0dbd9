-- Taking all splits back: the rule of the newest added check alone decides, at each step, whether splits made the matrix. Assumes nothing.
use mathlib.Core.Path.{◌≡◌, refl, sym, ap, ◌∙◌, fun_ext}
use mathlib.Core.Bool.{Bool, true, false, not, and-false, false≢true}
use Prim.Native.Nat.{ℕ, suc, ◌+◌, ◌-◌, ◌/◌, ◌≤◌, ◌<◌}
use native.Mathlib.Omega.{arith}
use native.Mathlib.Decide.{dec_lt}
use borrow.Author.Tests.{lt-ltb, le-ltb}
use Rattle.parity.specs.Matrix.{Matrix}
use Rattle.parity.specs.Cycles.{others, lower_of, higher_of}
use Rattle.parity.specs.Splits.{all_back, not_built}
use Rattle.parity.specs.Sound.{Clean, Sound}
use Rattle.parity.proofs.Finite.Sums.{is_true, is_false, is}
use Rattle.parity.proofs.Splits.Back.{split_others}
use Rattle.parity.proofs.Splits.Undo.{newest, pair_lower, pair_higher, back_split, back_share}
use Rattle.parity.proofs.Lists.Built.{Built, given, more, good, undone}
use Rattle.parity.proofs.Lists.Rebuilt.{all_sound, built_written, written_built}
use Rattle.columns.specs.Columns.{Columns, ColumnsOf}
use Rattle.carried.specs.Recover.{standing, Raw, BackOne, AllBack}
use Rattle.carried.proofs.Standing.{standing_given}
use Rattle.carried.proofs.Newest.{columns_end, raw_back}

-- With j splits left in g, of k in h: g is built exactly if h is.
pub record Taking (h g : Matrix) (n m k j : ℕ) : Type 0 where
  pub raw : Raw g n m j
  pub same : all_back h n m k ≡ all_back g n m j
  pub up : (t : ℕ) → Built (all_back h n m k) n m g j t → (s : ℕ) × Built (all_back h n m k) n m h k s
  pub down : (t : ℕ) → Built (all_back h n m k) n m h k t → (s : ℕ) × Built (all_back h n m k) n m g j s

pub taking_start : (h : Matrix) (n m k : ℕ) → Sound h n m k → Taking h h n m k k
taking_start h n m k S = record {
  raw = record { origin = h; size = k; sound = S; less = omega arith; clean = S.clean; added = λ i b l. refl };
  same = refl;
  up = λ t B. (t, B);
  down = λ t B. (t, B);
}

-- a built matrix with splits has a newest check that keeps rule A, and its bit is in two other checks
built_two : (f : Matrix) (n m : ℕ) {g : Matrix} {k t : ℕ} → Built f n m g k t → (j : ℕ) → k ≡ suc j → 2 ≤ others g (n + j) (m + j)
built_two f n m given j e = absurd (omega arith)
built_two f n m (more {h = h} {k = k} B u v un vn uv s l) j e =
    let q : k ≡ j = omega arith in
    rw (← q, split_others h (n + k) (m + k) u v un vn) s

module _ (h g : Matrix) (n m k j : ℕ) (S : Sound h n m k) (T : Taking h g n m k (suc j)) (g' : Matrix) (r : Bool) (B : BackOne g g' (n + j) (m + j) r) where
  abbrev f : Matrix
  f = all_back h n m k

  pub taking_next : r ≡ true → Taking h g' n m k j
  unfolding all_back
  taking_next p =
      let A = B.newest p in
      let a = pair_lower g (n + j) (m + j) A in
      let b = pair_higher g (n + j) (m + j) A in
      let s = back_share g (n + j) (m + j) A in
      let two = B.two p in
      let l = T.raw.less in
      let few : j < 392 = omega (arith, T.raw.sound.k392) in
      rw (B.matrix p) record {
        raw = raw_back g n m j T.raw;
        same = T.same;
        up = λ t C.
            T.up _ (rw (back_split g (n + j) (m + j) A) at (more C (lower_of g (n + j) (m + j)) (higher_of g (n + j) (m + j)) (omega arith) b (λ e. omega arith) (rw s two) few));
        down = λ t C.
            let (x, D) = T.down t C in
            let e : suc j - 1 ≡ j = omega arith in
            (_, rw e at (undone f n m (all_sound n m k h S) D (omega arith)).built);
      }

  pub taking_stops : r ≡ false → (g'' : Matrix) → AllBack h g'' n m k false
  taking_stops p g'' = record {
    decides = elim (is (not_built h n m k)) [
      | is_true e ↦ e
      | is_false e ↦
          let (x, D) = T.down _ (written_built n m k h S e) in
          let G = (good f n m (all_sound n m k h S) D).ok in
          absurd (omega (arith, B.stops p (newest g n m j G), built_two f n m D j refl))
    ];
    matrix = λ e. absurd (false≢true e);
  }

pub taking_ends : (h g : Matrix) (n m k j : ℕ) → j ≡ 0 → Sound h n m k → Taking h g n m k j → AllBack h g n m k true
unfolding all_back
taking_ends h g n m k j z S T =
    let e : all_back h n m k ≡ g = rw z at T.same in
    let U : (t : ℕ) → Built g n m g 0 t → (s : ℕ) × Built g n m h k s = rw (e, z) at T.up in
    let (s, B) = U 0 given in
    record { decides = built_written g n m (rw e at (all_sound n m k h S)) B; matrix = λ q. sym e }

-- The rows of the bits below n, from the columns, are the checks before the splits.
pub rows_made : (h g r : Matrix) (n m k : ℕ) → Sound h n m k → Columns m (standing h g m 0) g → ColumnsOf 2 n g r → (t : Bool)
    → AllBack h (standing h g m 0) n m k t → t ≡ true → AllBack h r n m k true
rows_made h g r n m k S C F t A f =
    let e = A.matrix f in
    let K : Clean (standing h g m 0) (n + 0) (m + 0) = rw e (all_sound n m k h S).clean in
    let same : (c b : ℕ) → r c b ≡ standing h g m 0 c b =
    λ c b. F.at c b ∙ elim (dec_lt b n) [
      | no l ↦ rw (le-ltb b n (omega arith)) (sym (K.bits c b (omega arith)))
      | yes l ↦ rw (lt-ltb b n l) (elim (dec_lt c m) [
        | yes t ↦ rw (lt-ltb (c / 64) 2 (omega (arith, S.m120))) (sym (standing_given h g m 0 c b t))
        | no t ↦ rw (columns_end m (standing h g m 0) g C b c (omega arith), and-false) (sym (K.checks c b (omega arith)))
      ])
    ] in
    record { decides = A.decides ∙ ap not f; matrix = λ q. fun_ext (λ c. fun_ext (λ b. same c b)) ∙ e }
