-- Lists of stopping sets, one after the other. Assumes nothing.
use mathlib.Core.Path.{◌≡◌, refl, sym, ap, ◌∙◌}
use mathlib.Core.Bool.{Bool, true, false}
use mathlib.Core.List.{List, [], ◌∷◌, ◌++◌}
use Prim.Native.Nat.{ℕ, zero, suc, ◌+◌, ◌-◌, ◌≤◌, ◌<◌, max}
use native.Mathlib.Numerals.{add-one}
use native.Mathlib.Omega.{arith}
use native.Mathlib.Decide.{ℕ_discrete}
use lib.ListN.{length, length-append}
use Rattle.parity.specs.Matrix.{Matrix}
use Rattle.parity.specs.Words.{stopping}
use Rattle.parity.specs.StoppingSets.{is_in}
use Rattle.enumeration.specs.Search.{across, completing, Seen, OnceWith, SomeWith, Under, joined, if_stopping, last_of, listed, Put, room_for}
use Rattle.enumeration.proofs.Inside.{seen_more, under_more, under_later, completes_law}
use Rattle.enumeration.proofs.Storing.{put_none, put_more, put_length}

stopping_no : (h : Matrix) (M : ℕ) (p : List ℕ) → stopping h 128 M (is_in p) ≡ false → if_stopping h M p ≡ []
unfolding if_stopping
stopping_no h M p e = rw e

stopping_yes : (h : Matrix) (M : ℕ) (p : List ℕ) → stopping h 128 M (is_in p) ≡ true → if_stopping h M p ≡ p
unfolding if_stopping
stopping_yes h M p e = rw e

pub room_less : (w : Bool) (a b len : ℕ) → a ≤ b → room_for w b ≤ len → room_for w a ≤ len
room_less true a b len k l = omega arith
room_less false a b len k l = omega arith

joined_more : (r a : ℕ) (f : ℕ → List ℕ) → joined (suc r) a f ≡ joined r a f ++ f (a + r)
unfolding joined
joined_more r a f = refl

joined_mono : (r s a : ℕ) (f : ℕ → List ℕ) → r ≤ s → length (joined r a f) ≤ length (joined s a f)
joined_mono r zero a f k = let e : r ≡ 0 = omega arith in rw e (omega arith)
joined_mono r (suc s) a f k =
    elim (ℕ_discrete r (suc s)) [
      | yes e ↦ rw e (omega arith)
      | no d ↦ omega (arith, joined_mono r s a f (omega arith), ap length (joined_more s a f) ∙ length-append (joined s a f) (f (a + s)))
    ]

-- the lists up to that of d, and those up to the next
module _ (a d : ℕ) (f : ℕ → List ℕ) (k : a ≤ d) where
  pub joined_next : joined (d + 1 - a) a f ≡ joined (d - a) a f ++ f d
  joined_next =
      let e : d + 1 - a ≡ suc (d - a) = omega arith in
      let g : a + (d - a) ≡ d = omega arith in
      rw e (rw g at (joined_more (d - a) a f))

  pub joined_room : (n : ℕ) → d < n → length (joined (d - a) a f) + length (f d) ≤ length (joined (n - a) a f)
  joined_room n l = omega (arith, ap length joined_next ∙ length-append (joined (d - a) a f) (f d), joined_mono (d + 1 - a) (n - a) a f (omega arith))

pub joined_none : (a : ℕ) (f : ℕ → List ℕ) → joined (a - a) a f ≡ []
unfolding joined
joined_none a f = let e : a - a ≡ 0 = omega arith in rw e

-- What a loop over the next member, from a on, has listed before it comes to d.
pub record Searched (w : Bool) (old new : List ℕ) (at a d n : ℕ) (f : ℕ → List ℕ) (r : ℕ) : Type 0 where
  pub from : a ≤ d
  pub top : d ≤ max a n
  pub put : Put w old new at (joined (d - a) a f) r

pub searched_none : (w : Bool) (old : List ℕ) (at a n : ℕ) (f : ℕ → List ℕ) → Searched w old old at a a n f at
searched_none w old at a n f = record { from = omega arith; top = omega arith; put = rw (joined_none a f) (put_none w old at) }

module _ (w : Bool) (old new : List ℕ) (at a d n : ℕ) (f : ℕ → List ℕ) (r : ℕ) (L : Searched w old new at a d n f r) where
  pub searched_next : (newer : List ℕ) (s : ℕ) → d < n → Put w new newer r (f d) s → Searched w old newer at a (d + 1) n f s
  searched_next newer s k P = record {
    from = omega (arith, L.from);
    top = omega arith;
    put = rw (joined_next a d f L.from) (put_more w old new newer at r s (joined (d - a) a f) (f d) L.put P);
  }

  pub searched_fits : (top : ℕ) → d < n → at + length (joined (n - a) a f) < top → r + length (f d) < top
  searched_fits top k l = omega (arith, L.put.place, joined_room a d f L.from n k)

  pub searched_room : d < n → room_for w (at + length (joined (n - a) a f)) ≤ length old → room_for w (r + length (f d)) ≤ length new
  searched_room k l =
      rw (put_length w old new at r _ L.put)
      (room_less w (r + length (f d)) (at + length (joined (n - a) a f)) (length old) (omega (arith, L.put.place, joined_room a d f L.from n k)) l)

  pub searched_all : n ≤ d → Put w old new at (joined (n - a) a f) r
  searched_all k = let e : d - a ≡ n - a = omega (arith, L.top) in rw e at L.put

-- what is listed with the next member b, where t more come after it
abbrev pub next_of : Matrix → ℕ → ℕ → ℕ → List ℕ → ℕ → List ℕ
next_of h M n t p b = listed h M n t (p ++ (b ∷ [])) (suc b)

pub listed_one : (h : Matrix) (M n : ℕ) (p : List ℕ) (a : ℕ) → listed h M n 1 p a ≡ joined (n - a) a (last_of h M p)
unfolding listed
listed_one h M n p a = refl

pub listed_more : (h : Matrix) (M n t : ℕ) (p : List ℕ) (a : ℕ) → listed h M n (suc t) p a ≡ joined (n - a) a (next_of h M n t p)
unfolding listed
listed_more h M n t p a = refl

-- A loop over the next member d, from a on: t more come after it, and T = t + 1 from a on.
module _ (cols p : List ℕ) (M n t T : ℕ) (f : T ≡ suc t) {w : Bool} {old new : List ℕ} {at a d r : ℕ} (L : Searched w old new at a d n (next_of (across cols) M n t p) r) where
  -- all are listed when it ends
  pub next_all : n ≤ d → Put w old new at (listed (across cols) M n T p a) r
  next_all k = rw (f, listed_more (across cols) M n t p a) (searched_all w old new at a d n (next_of (across cols) M n t p) r L k)

  -- The call of d, whose members are q.
  module _ (s : ℕ) (e : s ≡ t) {q : List ℕ} (g : q ≡ p ++ (d ∷ [])) (k : d < n) where
    next_same : listed (across cols) M n s q (d + 1) ≡ next_of (across cols) M n t p d
    next_same = rw (e, add-one d, g)

    -- what it lists comes behind what is listed
    pub next_listed : {newer : List ℕ} {z : ℕ} → Put w new newer r (listed (across cols) M n s q (d + 1)) z
        → Searched w old newer at a (d + 1) n (next_of (across cols) M n t p) z
    next_listed {newer} {z} P =
        searched_next w old new at a d n (next_of (across cols) M n t p) r L newer z k (rw next_same at P)

    -- what it asks for
    pub next_call : {x u : List ℕ} → Seen (across cols) p x u → Under p a → n ≤ 128 → {x' u' : List ℕ} → OnceWith cols x u d x' → SomeWith cols u d u'
        → (top : ℕ) → (at + length (listed (across cols) M n T p a) < top) × (room_for w (at + length (listed (across cols) M n T p a)) ≤ length old)
        → (Seen (across cols) q x' u' × Under q (d + 1)) × ((r + length (listed (across cols) M n s q (d + 1)) < top) × (room_for w (r + length (listed (across cols) M n s q (d + 1))) ≤ length new))
    next_call {x} {u} S U few {x'} {u'} X Y top F =
        let G = rw (f, listed_more (across cols) M n t p a) at F in
        let W = under_later p a d U L.from in (
          (rw g (seen_more cols p x u S d (omega arith) W x' u' X Y), rw g (under_more p d W)),
          rw next_same (searched_fits w old new at a d n (next_of (across cols) M n t p) r L top k G.0, searched_room w old new at a d n (next_of (across cols) M n t p) r L k G.1),
        )

-- What is listed with the last member: the set where it completes the members, and else nothing.
module _ (cols p x u : List ℕ) (S : Seen (across cols) p x u) (d : ℕ) (k : d < 128) (U : Under p d) (M : ℕ) (l : M ≤ 512) where
  pub last_found : {r : Bool} → r ≡ completing cols x u M d → r ≡ true → last_of (across cols) M p d ≡ p ++ (d ∷ [])
  last_found f e = stopping_yes (across cols) M (p ++ (d ∷ [])) (sym (completes_law cols p x u S d k U M l) ∙ sym f ∙ e)

  pub last_none : {r : Bool} → r ≡ completing cols x u M d → r ≡ false → last_of (across cols) M p d ≡ []
  last_none f e = stopping_no (across cols) M (p ++ (d ∷ [])) (sym (completes_law cols p x u S d k U M l) ∙ sym f ∙ e)
