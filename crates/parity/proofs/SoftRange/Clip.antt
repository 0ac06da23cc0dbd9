-- The min-sum of two numbers that are counted from B: sign times sign, the lesser distance from B. Assumes nothing.
use mathlib.Core.Path.{◌≡◌, sym, ap, ◌∙◌}
use mathlib.Core.Bool.{Bool, true, false, cond}
use Prim.Native.Nat.{ℕ, ◌+◌, ◌-◌, ◌<◌, ◌≤◌, min, max}
use native.Mathlib.Decide.{dec_le}
use native.Mathlib.Omega.{arith}
use lib.Dec.{leb}
use borrow.Author.Tests.{le-leb, lt-leb}

-- with v fixed, u is cut to the distance of v, and turned where v is below B
abbrev pub clip : ℕ → ℕ → ℕ → ℕ
clip B u v = cond (leb B v) (max (B + B - v) (min u v)) (B + B - max v (min u (B + B - v)))

up : (B u v : ℕ) → B ≤ v → clip B u v ≡ max (B + B - v) (min u v)
up B u v k = rw (le-leb B v k)

down : (B u v : ℕ) → v < B → clip B u v ≡ B + B - max v (min u (B + B - v))
down B u v k = rw (lt-leb B v k)

-- the other side of B
mirror : (B v : ℕ) → v ≤ B + B → B + B - v + v ≡ B + B
mirror B v k = omega arith

-- ---- by sign and distance; w is the mirror of v
up_below : (B u v w a b : ℕ) → u + a ≡ B → v ≡ B + b → w + v ≡ B + B → max w (min u v) + min a b ≡ B
up_below B u v w a b p q r = omega arith

up_above : (B u v w a b : ℕ) → u ≡ B + a → v ≡ B + b → w + v ≡ B + B → max w (min u v) ≡ B + min a b
up_above B u v w a b p q r = omega arith

down_below : (B u v w a b : ℕ) → u + a ≡ B → v + b ≡ B → w + v ≡ B + B → max v (min u w) + min a b ≡ B
down_below B u v w a b p q r = omega arith

down_above : (B u v w a b : ℕ) → u ≡ B + a → v + b ≡ B → w + v ≡ B + B → max v (min u w) ≡ B + min a b
down_above B u v w a b p q r = omega arith

less : (B x a : ℕ) → x + a ≡ B → x ≡ B - a
less B x a e = omega arith

turn_less : (B x a : ℕ) → x + a ≡ B → B + B - x ≡ B + a
turn_less B x a e = omega arith

turn_more : (B x a : ℕ) → x ≡ B + a → B + B - x ≡ B - a
turn_more B x a e = omega arith

pub clip_sign : (B u v a b : ℕ) (s t : Bool) → a ≤ B → b ≤ B → u ≡ cond s (B - a) (B + a) → v ≡ cond t (B - b) (B + b)
    → clip B u v ≡ cond s (cond t (B + min a b) (B - min a b)) (cond t (B - min a b) (B + min a b))
clip_sign B u v a b true true k l p q = both (omega arith) (omega arith) (dec_le B v)
  where
    both : u + a ≡ B → v + b ≡ B → Dec (B ≤ v) → clip B u v ≡ B + min a b
    both f g (yes z) = up B u v z ∙ at_zero B u v (B + B - v) a b f g (mirror B v (omega arith)) z
      where
        at_zero : (B u v w a b : ℕ) → u + a ≡ B → v + b ≡ B → w + v ≡ B + B → B ≤ v → max w (min u v) ≡ B + min a b
        at_zero B u v w a b f g h z = omega arith
    both f g (no z) = down B u v (omega arith) ∙ turn_less B _ (min a b) (down_below B u v (B + B - v) a b f g (mirror B v (omega arith)))
clip_sign B u v a b true false k l p q =
    let f : u + a ≡ B = omega arith in
    up B u v (omega arith) ∙ less B _ (min a b) (up_below B u v (B + B - v) a b f q (mirror B v (omega arith)))
clip_sign B u v a b false true k l p q = both (omega arith) (dec_le B v)
  where
    both : v + b ≡ B → Dec (B ≤ v) → clip B u v ≡ B - min a b
    both g (yes z) = up B u v z ∙ at_zero B u v (B + B - v) a b p g (mirror B v (omega arith)) z
      where
        at_zero : (B u v w a b : ℕ) → u ≡ B + a → v + b ≡ B → w + v ≡ B + B → B ≤ v → max w (min u v) ≡ B - min a b
        at_zero B u v w a b f g h z = omega arith
    both g (no z) = down B u v (omega arith) ∙ turn_more B _ (min a b) (down_above B u v (B + B - v) a b p g (mirror B v (omega arith)))
clip_sign B u v a b false false k l p q = up B u v (omega arith) ∙ up_above B u v (B + B - v) a b p q (mirror B v (omega arith))

-- ---- the two may change places; w and x are the mirrors of v and u
same_up : (B u v w x : ℕ) → w + v ≡ B + B → x + u ≡ B + B → B ≤ v → B ≤ u → max w (min u v) ≡ max x (min v u)
same_up B u v w x p q k l = omega arith

same_cross : (B u v w x : ℕ) → w + v ≡ B + B → x + u ≡ B + B → B ≤ v → u < B → max w (min u v) + max u (min v x) ≡ B + B
same_cross B u v w x p q k l = omega arith

same_down : (B u v w x : ℕ) → w + v ≡ B + B → x + u ≡ B + B → v < B → u < B → max v (min u w) ≡ max u (min v x)
same_down B u v w x p q k l = omega arith

pub clip_comm : (B u v : ℕ) → u ≤ B + B → v ≤ B + B → clip B u v ≡ clip B v u
clip_comm B u v k l =
    let p = mirror B v l in
    let q = mirror B u k in
    elim (dec_le B v) [
      | yes z ↦ elim (dec_le B u) [
        | yes y ↦ up B u v z ∙ same_up B u v (B + B - v) (B + B - u) p q z y ∙ sym (up B v u y)
        | no y ↦ up B u v z ∙ less (B + B) _ _ (same_cross B u v (B + B - v) (B + B - u) p q z (omega arith)) ∙ sym (down B v u (omega arith))
      ]
      | no z ↦ elim (dec_le B u) [
        | yes y ↦ down B u v (omega arith) ∙ sym (less (B + B) _ _ (same_cross B v u (B + B - u) (B + B - v) q p y (omega arith))) ∙ sym (up B v u y)
        | no y ↦ down B u v (omega arith) ∙ ap (λ n. B + B - n) (same_down B u v (B + B - v) (B + B - u) p q (omega arith) (omega arith)) ∙ sym (down B v u (omega arith))
      ]
    ]

-- ---- between two values the answer lies between theirs
mono : (w v u u' : ℕ) → u ≤ u' → max w (min u v) ≤ max w (min u' v)
mono w v u u' k = omega arith

anti : (D x y : ℕ) → x ≤ y → D - y ≤ D - x
anti D x y k = omega arith

rising : (x y z : ℕ) → x ≤ z → z ≤ y → (min x y ≤ z) × (z ≤ max x y)
rising x y z k l = omega arith

falling : (x y z : ℕ) → y ≤ z → z ≤ x → (min x y ≤ z) × (z ≤ max x y)
falling x y z k l = omega arith

between_left : (B a u b v : ℕ) → a ≤ u → u ≤ b → (min (clip B a v) (clip B b v) ≤ clip B u v) × (clip B u v ≤ max (clip B a v) (clip B b v))
between_left B a u b v k l = elim (dec_le B v) [
  | yes z ↦ rw (up B a v z, up B b v z, up B u v z) (rising _ _ _ (mono (B + B - v) v a u k) (mono (B + B - v) v u b l))
  | no z ↦
      let y : v < B = omega arith in
      rw (down B a v y, down B b v y, down B u v y) (falling _ _ _ (anti (B + B) _ _ (mono v (B + B - v) u b l)) (anti (B + B) _ _ (mono v (B + B - v) a u k)))
]

between_right : (B u a v b : ℕ) → a ≤ v → v ≤ b → u ≤ B + B → b ≤ B + B → (min (clip B u a) (clip B u b) ≤ clip B u v) × (clip B u v ≤ max (clip B u a) (clip B u b))
between_right B u a v b k l m n = rw (clip_comm B u a m (omega arith), clip_comm B u b m n, clip_comm B u v m (omega arith)) (between_left B a v b u k l)

four : (p q r s x y z : ℕ) → (min x y ≤ z) × (z ≤ max x y) → (min p q ≤ x) × (x ≤ max p q) → (min r s ≤ y) × (y ≤ max r s)
    → (min (min p q) (min r s) ≤ z) × (z ≤ max (max p q) (max r s))
four p q r s x y z e f g = (low (min p q) (min r s) x y z e.0 f.0 g.0, high (max p q) (max r s) x y z e.1 f.1 g.1)
  where
    low : (p r x y z : ℕ) → min x y ≤ z → p ≤ x → r ≤ y → min p r ≤ z
    low p r x y z a b c = omega arith

    high : (p r x y z : ℕ) → z ≤ max x y → x ≤ p → y ≤ r → z ≤ max p r
    high p r x y z a b c = omega arith

-- four corners
pub corners : (B a u b c v d : ℕ) → a ≤ u → u ≤ b → b ≤ B + B → c ≤ v → v ≤ d → d ≤ B + B
    → (min (min (clip B a c) (clip B a d)) (min (clip B b c) (clip B b d)) ≤ clip B u v)
    × (clip B u v ≤ max (max (clip B a c) (clip B a d)) (max (clip B b c) (clip B b d)))
corners B a u b c v d k l m p q r =
    four (clip B a c) (clip B a d) (clip B b c) (clip B b d) (clip B a v) (clip B b v) (clip B u v)
    (between_left B a u b v k l) (between_right B a c v d p q (omega arith) r) (between_right B b c v d p q m r)
