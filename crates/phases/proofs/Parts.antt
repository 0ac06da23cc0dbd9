-- A part of the lists is handed on and comes back. Assumes nothing.
use mathlib.Core.Path.{◌≡◌, refl, sym, ap, ◌∙◌}
use mathlib.Core.List.{List, ◌++◌}
use Prim.Native.Nat.{ℕ, ◌+◌, ◌-◌, ◌<◌, ◌≤◌}
use native.Mathlib.Omega.{arith}
use lib.ListN.{get_or, length, take, drop, length-append, length-take, length-drop, get_or-append}
use lib.Seq.{length-take-le, get_or-append-add, get_or-take, get_or-drop}
use lib.Ieee.{Float, nan}
use Rattle.parity.specs.Soft.{message_at, settled, bit_sends, but}
use Rattle.soft.specs.Store.{Holding, Sounds}
use Rattle.check_node.specs.Pass.{check_answer}
use Rattle.bit_node.specs.Sums.{every, bit_answer}
use Rattle.phases.specs.Phases.{Part, from}
use Rattle.parity.specs.declared.Channel.{Channel}
use Rattle.soft.proofs.Places.{holding_at}
use Rattle.parity.proofs.Soft.Cong.{check_cong, gathered_cong}

-- w elements from a on, and the list with others in their place
module _ {X : Type 0} (a w : ℕ) (xs : List X) (fits : a + w ≤ length xs) (d : X) where
  abbrev middle : List X
  middle = take (a + w - a) (drop a xs)

  abbrev replaced : List X → List X
  replaced ys = take a xs ++ (ys ++ drop (a + w - a) (drop a xs))

  head_length : length (take a xs) ≡ a
  head_length = length-take-le a xs (omega arith)

  pub middle_length : length middle ≡ w
  middle_length = length-take (a + w - a) (drop a xs) ∙ (rw length-drop (omega arith))

  pub middle_at : (t : ℕ) → t < w → get_or middle t d ≡ get_or xs (a + t) d
  middle_at t k = get_or-take (a + w - a) (drop a xs) t d (omega arith) ∙ get_or-drop a xs t d

  module _ (ys : List X) (l : length ys ≡ w) where
    pub replaced_length : length (replaced ys) ≡ length xs
    replaced_length =
        length-append (take a xs) (ys ++ drop (a + w - a) (drop a xs))
        ∙ (rw (head_length, length-append ys (drop (a + w - a) (drop a xs)), l, length-drop (a + w - a) (drop a xs), length-drop a xs) (omega arith))

    pub replaced_before : (i : ℕ) → i < a → get_or (replaced ys) i d ≡ get_or xs i d
    replaced_before i k = get_or-append (take a xs) _ d i (omega (arith, head_length)) ∙ get_or-take a xs i d k

    pub replaced_at : (t : ℕ) → t < w → get_or (replaced ys) (a + t) d ≡ get_or ys t d
    replaced_at t k =
        ap (λ n. get_or (replaced ys) (n + t) d) (sym head_length)
        ∙ get_or-append-add (take a xs) (ys ++ drop (a + w - a) (drop a xs)) t d ∙ get_or-append ys _ d t (omega arith)

    pub replaced_after : (i : ℕ) → a + w ≤ i → get_or (replaced ys) i d ≡ get_or xs i d
    replaced_after i k =
        let j : ℕ = i - (a + w) in
        let e : i ≡ length (take a xs) + (length ys + j) = omega (arith, head_length, l) in
        let f : a + (a + w - a + j) ≡ i = omega arith in
        ap (λ n. get_or (replaced ys) n d) e
        ∙ get_or-append-add (take a xs) (ys ++ drop (a + w - a) (drop a xs)) (length ys + j) d
        ∙ get_or-append-add ys (drop (a + w - a) (drop a xs)) j d
        ∙ get_or-drop (a + w - a) (drop a xs) j d ∙ get_or-drop a xs (a + w - a + j) d ∙ ap (λ n. get_or xs n d) f

module _ (a w : ℕ) (ts : List ℕ) (xs : List Float) (same : length ts ≡ length xs) (fits : a + w ≤ length ts) where
  abbrev mt : List ℕ
  mt = take (a + w - a) (drop a ts)

  abbrev mx : List Float
  mx = take (a + w - a) (drop a xs)

  pub fits' : a + w ≤ length xs
  fits' = omega arith

  pub part_length : length mt ≡ w
  part_length = middle_length a w ts fits 0

  pub part_length' : length mx ≡ w
  part_length' = middle_length a w xs fits' nan

  part_at : (t : ℕ) → t < w → message_at mt mx t ≡ from a ts xs t
  unfolding message_at
  part_at t k = rw (middle_at a w ts fits 0 t k, middle_at a w xs fits' nan t k)

  pub part_sounds : Sounds w (from a ts xs) → Sounds (length mt) (message_at mt mx)
  part_sounds S = record { at = λ t k. let l : t < w = omega (arith, part_length) in rw (part_at t l) (S.at t l) }

  -- other values in their place, as the part holds them
  module _ (f g : ℕ → Channel) (agree : (t : ℕ) → t < w → f t ≡ g t) (us : List ℕ) (ys : List Float) (H : Holding (length mt) f us ys) where
    lu : length us ≡ w
    lu = H.tags ∙ part_length

    ly : length ys ≡ w
    ly = H.values ∙ part_length

    -- values elsewhere
    elsewhere : (i : ℕ) → get_or (replaced a w ts fits 0 us) i 0 ≡ get_or ts i 0 → get_or (replaced a w xs fits' nan ys) i nan ≡ get_or xs i nan
        → message_at (replaced a w ts fits 0 us) (replaced a w xs fits' nan ys) i ≡ message_at ts xs i
    unfolding message_at
    elsewhere i p q = rw (p, q)

    inside : (t : ℕ) → t < w → message_at (replaced a w ts fits 0 us) (replaced a w xs fits' nan ys) (a + t) ≡ message_at us ys t
    unfolding message_at
    inside t k = rw (replaced_at a w ts fits 0 us lu t k, replaced_at a w xs fits' nan ys ly t k)

    part_held : Part a w g ts xs (replaced a w ts fits 0 us) (replaced a w xs fits' nan ys)
    part_held = record {
      tags = replaced_length a w ts fits 0 us lu;
      values = replaced_length a w xs fits' nan ys ly;
      new = λ t k. inside t k ∙ holding_at (length mt) f us ys H t (omega (arith, part_length)) ∙ agree t k;
      before = λ i k. elsewhere i (replaced_before a w ts fits 0 us lu i k) (replaced_before a w xs fits' nan ys ly i k);
      after = λ i k. elsewhere i (replaced_after a w ts fits 0 us lu i k) (replaced_after a w xs fits' nan ys ly i k);
    }

  -- a check's answers
  answers_same : (t : ℕ) → check_answer (length mt) (message_at mt mx) t ≡ check_answer w (from a ts xs) t
  unfolding check_answer
  answers_same t = rw part_length (check_cong w (but t) (but t) (message_at mt mx) (from a ts xs) (λ i k. refl) part_at)

  pub part_answers : (us : List ℕ) (ys : List Float) → Holding (length mt) (check_answer (length mt) (message_at mt mx)) us ys
      → Part a w (check_answer w (from a ts xs)) ts xs (replaced a w ts fits 0 us) (replaced a w xs fits' nan ys)
  part_answers = part_held _ _ (λ t k. answers_same t)

  -- a bit's answers, and its result
  sends_same : (v : Channel) (t : ℕ) → bit_answer v (length mt) (message_at mt mx) t ≡ bit_answer v w (from a ts xs) t
  unfolding bit_answer bit_sends
  sends_same v t = rw part_length (ap settled (gathered_cong v w (but t) (but t) (message_at mt mx) (from a ts xs) (λ i k. refl) part_at))

  pub part_sends : (v : Channel) (us : List ℕ) (ys : List Float) → Holding (length mt) (bit_answer v (length mt) (message_at mt mx)) us ys
      → Part a w (bit_answer v w (from a ts xs)) ts xs (replaced a w ts fits 0 us) (replaced a w xs fits' nan ys)
  part_sends v = part_held _ _ (λ t k. sends_same v t)

  pub part_result : (v : Channel) → bit_sends v (length mt) every (message_at mt mx) ≡ bit_sends v w every (from a ts xs)
  unfolding bit_sends
  part_result v = rw part_length (ap settled (gathered_cong v w every every (message_at mt mx) (from a ts xs) (λ i k. refl) part_at))
