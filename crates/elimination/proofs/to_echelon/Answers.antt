-- `to_echelon` meets its contract. Assumes nothing.
use Rattle.elimination.proofs.Echelons.{echelon_start}
use native.Mathlib.Omega.{arith}
use mathlib.Core.Path.{refl}
use Rattle.elimination.proofs.to_echelon.Goals as goal

pub loop-b-init : goal.loop-b-init
loop-b-init c = (omega arith, refl, refl, echelon_start _ _ _ _)
