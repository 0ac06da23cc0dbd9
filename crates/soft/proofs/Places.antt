-- Values in lists of bytes and floats, written one after the other. Assumes nothing.
use mathlib.Core.Path.{◌≡◌, refl, ◌∙◌}
use mathlib.Core.Bool.{true, false}
use mathlib.Core.List.{List}
use Prim.Native.Nat.{ℕ, ◌+◌, ◌<◌, ◌≤◌}
use native.Mathlib.Decide.{ℕ_discrete}
use native.Mathlib.Omega.{arith}
use lib.ListN.{length, set, length-set}
use lib.Seq.{get_or-set_same, get_or-set_other}
use lib.Ieee.{Float, nan}
use Rattle.parity.specs.Soft.{channel_of, byte_for, float_for, message_at}
use Rattle.soft.specs.Store.{Holding, Partly}
use Rattle.parity.specs.declared.Channel.{Channel}
use Rattle.parity.specs.declared.Channel.TheVariants.{Sure, Soft, Erased}

-- what is written is read back
pub read_back : (v : Channel) → channel_of (byte_for v) (float_for v) ≡ v
read_back (Sure true) = refl
read_back (Sure false) = refl
read_back (Soft x) = refl
read_back Erased = refl

-- another place's value
pub message_other : (ts : List ℕ) (xs : List Float) (i t a : ℕ) (x : Float) → (t ≡ i → ⊥) → message_at (set ts i a) (set xs i x) t ≡ message_at ts xs t
unfolding message_at
message_other ts xs i t a x n = rw (get_or-set_other ts i t a 0 n, get_or-set_other xs i t x nan n)

pub partly_start : (g : ℕ → Channel) (ts : List ℕ) (xs : List Float) → length xs ≡ length ts → Partly (length ts) 0 g (message_at ts xs) ts xs
partly_start g ts xs e = record {
  tags = refl;
  values = e;
  tag = λ t k. absurd (omega arith);
  value = λ t k. absurd (omega arith);
  rest = λ t k l. refl;
}

module _ (d i : ℕ) (g f : ℕ → Channel) (ts : List ℕ) (xs : List Float) (P : Partly d i g f ts xs) where
  pub partly_more : i < d → Partly d (i + 1) g f (set ts i (byte_for (g i))) (set xs i (float_for (g i)))
  partly_more k =
      let kt : i < length ts = omega (arith, P.tags) in
      let kx : i < length xs = omega (arith, P.values) in
      record {
        tags = length-set ts i (byte_for (g i)) ∙ P.tags;
        values = length-set xs i (float_for (g i)) ∙ P.values;
        tag = λ t l. elim (ℕ_discrete t i) [
          | yes q ↦ rw q (get_or-set_same ts i (byte_for (g i)) 0 kt)
          | no n ↦ get_or-set_other ts i t (byte_for (g i)) 0 n ∙ P.tag t (omega arith)
        ];
        value = λ t l. elim (ℕ_discrete t i) [
          | yes q ↦ rw q (get_or-set_same xs i (float_for (g i)) nan kx)
          | no n ↦ get_or-set_other xs i t (float_for (g i)) nan n ∙ P.value t (omega arith)
        ];
        rest = λ t a b. message_other ts xs i t (byte_for (g i)) (float_for (g i)) (λ q. omega arith) ∙ P.rest t (omega arith) b;
      }

  pub partly_all : d ≤ i → Holding d g ts xs
  partly_all k = record { tags = P.tags; values = P.values; tag = λ t l. P.tag t (omega arith); value = λ t l. P.value t (omega arith) }

  pub partly_new : (t : ℕ) → t < i → message_at ts xs t ≡ g t
  unfolding message_at
  partly_new t k = rw (P.tag t k, P.value t k) (read_back (g t))

pub holding_at : (d : ℕ) (g : ℕ → Channel) (ts : List ℕ) (xs : List Float) → Holding d g ts xs → (t : ℕ) → t < d → message_at ts xs t ≡ g t
unfolding message_at
holding_at d g ts xs H t k = rw (H.tag t k, H.value t k) (read_back (g t))
