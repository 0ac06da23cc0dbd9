-- Numbers stored one after another, if they are written at all. Assumes nothing.
use mathlib.Core.Path.{◌≡◌, refl, sym, ap, ◌∙◌}
use mathlib.Core.Bool.{Bool, true, false, cond}
use mathlib.Core.List.{List, [], ◌∷◌, ◌++◌}
use Prim.Native.Nat.{ℕ, ◌+◌, ◌≤◌, ◌<◌}
use native.Mathlib.Nat.{add-zero, zero-add}
use native.Mathlib.Numerals.{add-one}
use native.Mathlib.Omega.{arith}
use native.Mathlib.Decide.{ℕ_discrete, dec_lt}
use lib.Dec.{ltb}
use lib.ListN.{get_or, length, set, take, drop, length-set, length-append}
use lib.Seq.{sets, length-sets, sets-eq, take-suc, length-take-le, take_all, get_or-set_same, get_or-set_other, get_or-take, ext_get_or, take-take, take-append_seam, take-set-le, take-suc-set}
use borrow.Author.Tests.{lt-ltb, le-ltb}
use Rattle.parity.proofs.Finite.Lists.{sets_append}
use Rattle.enumeration.specs.Search.{Longer, Put}

-- one more of a list that is copied
copy_next : (l : List ℕ) (p i : ℕ) (s : List ℕ) → i < length s → sets l p (take (i + 1) s) ≡ set (sets l p (take i s)) (p + i) (get_or s i 0)
copy_next l p i s k =
    rw (add-one i, take-suc s i 0 k) (sets_append l p (take i s) (get_or s i 0 ∷ []) ∙ rw (length-take-le i s (omega arith)))

-- or none, where there is no more
pub copy_if : (l : List ℕ) (p i : ℕ) (s : List ℕ) → sets l p (take (i + 1) s) ≡ cond (ltb i (length s)) (set (sets l p (take i s)) (p + i) (get_or s i 0)) (sets l p (take i s))
copy_if l p i s =
    elim (dec_lt i (length s)) [
      | yes k ↦ rw (lt-ltb i (length s) k) (copy_next l p i s k)
      | no k ↦ rw (le-ltb i (length s) (omega arith), take_all i s (omega arith), take_all (i + 1) s (omega arith))
    ]

-- and the number behind it
pub copy_last : (l : List ℕ) (p : ℕ) (s : List ℕ) (d : ℕ) → set (sets l p s) (p + length s) d ≡ sets l p (s ++ (d ∷ []))
copy_last l p s d = sym (sets_append l p s (d ∷ []))

-- the first i of n numbers are those of f
pub record Filled (n : ℕ) (f : ℕ → ℕ) (i : ℕ) (r : List ℕ) : Type 0 where
  pub size : length r ≡ n
  pub at : (p : ℕ) → p < i → get_or r p 0 ≡ f p

pub filled_none : (n : ℕ) (f : ℕ → ℕ) (r : List ℕ) → length r ≡ n → Filled n f 0 r
filled_none n f r e = record { size = e; at = λ p k. absurd (omega arith) }

pub filled_more : (n : ℕ) (f : ℕ → ℕ) (i : ℕ) (r : List ℕ) (x : ℕ) → i < n → Filled n f i r → x ≡ f i → Filled n f (i + 1) (set r i x)
filled_more n f i r x k F e = record {
  size = length-set r i x ∙ F.size;
  at = λ p l. elim (ℕ_discrete p i) [
    | yes q ↦ rw (q, get_or-set_same r i x 0 (omega (arith, F.size))) e
    | no d ↦ rw (get_or-set_other r i p x 0 d) (F.at p (omega arith))
  ];
}

-- the members and one more behind them
abbrev pub member_at : List ℕ → ℕ → ℕ → ℕ
member_at s d i = get_or (s ++ (d ∷ [])) i 0

pub longer_law : (s : List ℕ) (d : ℕ) (r : List ℕ) → length s < 4 → Filled 4 (member_at s d) 4 r → Longer s d r
longer_law s d r k F =
    let e : length (s ++ (d ∷ [])) ≡ length s + 1 = length-append s (d ∷ []) in
    let t : length (take (length s + 1) r) ≡ length s + 1 = length-take-le (length s + 1) r (omega (arith, F.size)) in
    record {
      size = F.size;
      front = ext_get_or 0 (take (length s + 1) r) (s ++ (d ∷ [])) (t ∙ sym e) (λ i l. get_or-take (length s + 1) r i 0 (omega arith) ∙ F.at i (omega arith));
    }

-- the array r begins with the members, and one more may be put behind them
pub record Begun (s r : List ℕ) : Type 0 where
  pub size : length r ≡ 4
  pub front : take (length s) r ≡ s

pub begun : (s : List ℕ) (d : ℕ) (r : List ℕ) → Longer s d r → Begun s r
begun s d r L = record {
  size = L.size;
  front = sym (take-take (length s) (length s + 1) r (omega arith)) ∙ rw L.front (take-append_seam s (d ∷ []));
}

module _ (s r : List ℕ) (d : ℕ) (B : Begun s r) where
  pub begun_set : Begun s (set r (length s) d)
  begun_set = record { size = length-set r (length s) d ∙ B.size; front = take-set-le (length s) r (length s) d (omega arith) ∙ B.front }

  pub begun_more : (e : ℕ) → d ≡ e → length s < 4 → take (length s + 1) (set r (length s) d) ≡ s ++ (e ∷ [])
  begun_more e f k = rw (add-one (length s), ← f) (take-suc-set r (length s) d (omega (arith, B.size)) ∙ rw B.front)

pub put_copied : (old new : List ℕ) (p : ℕ) (s : List ℕ) (d i r : ℕ) → length s ≤ i → new ≡ sets old p (take i s) → r ≡ d
    → Put true old (set new (p + length s) r) p (s ++ (d ∷ [])) (p + length s + 1)
put_copied old new p s d i r k e f = record {
  stored = rw (e, take_all i s k, f) (copy_last old p s d);
  place = rw (length-append s (d ∷ [])) (omega arith);
}

pub put_not : (write : Bool) (old : List ℕ) (p : ℕ) (s : List ℕ) (d : ℕ) → write ≡ false → Put write old old p (s ++ (d ∷ [])) (p + length s + 1)
put_not write old p s d e = record { stored = rw e; place = rw (length-append s (d ∷ [])) (omega arith) }

module _ (write : Bool) where
  pub put_none : (old : List ℕ) (p : ℕ) → Put write old old p [] p
  put_none old p = record { stored = go write; place = sym (add-zero p) }
    where
      go : (b : Bool) → old ≡ cond b old old
      go true = refl
      go false = refl

  pub put_more : (old new newer : List ℕ) (p q r : ℕ) (vs us : List ℕ) → Put write old new p vs q → Put write new newer q us r → Put write old newer p (vs ++ us) r
  put_more old new newer p q r vs us A B = record {
    stored = go write A.stored B.stored;
    place = B.place ∙ rw (A.place, length-append vs us) (omega arith);
  }
    where
      go : (b : Bool) → new ≡ cond b (sets old p vs) old → newer ≡ cond b (sets new q us) new → newer ≡ cond b (sets old p (vs ++ us)) old
      go true e f = f ∙ rw (e, A.place) (sym (sets_append old p vs us))
      go false e f = f ∙ e

  pub put_length : (old new : List ℕ) (p r : ℕ) (ws : List ℕ) → Put write old new p ws r → length new ≡ length old
  put_length old new p r ws A = go write A.stored
    where
      go : (b : Bool) → new ≡ cond b (sets old p ws) old → length new ≡ length old
      go true e = rw e (length-sets old p ws)
      go false e = ap length e

-- what stands afterwards, where the list is long enough
pub put_first : (old new : List ℕ) (ws : List ℕ) (r : ℕ) → Put true old new 0 ws r → length ws ≤ length old → new ≡ ws ++ drop (length ws) old
put_first old new ws r A k = A.stored ∙ sets-eq ws old 0 (rw (zero-add (length ws)) k) ∙ rw (zero-add (length ws))
