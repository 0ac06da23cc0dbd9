-- The form of a value. Assumes nothing.
use mathlib.Core.Path.{◌≡◌, refl}
use mathlib.Core.Bool.{Bool}
use lib.Ieee.{Float}
use Rattle.parity.specs.declared.Channel.{Channel}
use Rattle.parity.specs.declared.Channel.TheVariants.{Sure, Soft, Erased}

-- a value, with what it is
pub data Form (v : Channel) : Type 0 where
  is_sure_lem : (b : Bool) → v ≡ Sure b → Form v
  is_soft_lem : (x : Float) → v ≡ Soft x → Form v
  is_erased_lem : v ≡ Erased → Form v

pub form : (v : Channel) → Form v
form (Sure b) = is_sure_lem b refl
form (Soft x) = is_soft_lem x refl
form Erased = is_erased_lem refl

pub soft_same : {x y : Float} → Soft y ≡ Soft x → x ≡ y
soft_same {x} {y} e = cc
