-- The names: their numbers are below 5, and their codes are small. Assumes nothing.
use mathlib.Core.Path.{◌≡◌, refl}
use Prim.Native.Nat.{◌≤◌, ◌<◌}
use native.Mathlib.Omega.{arith}
use Rattle.parity.proofs.House.Copied.{house_sizes}
use Rattle.house.specs.declared.Name.{Name}
use Rattle.house.specs.declared.Name.TheVariants.{Circulant, Hamming3, Hamming7, Hamming15, Hamming31}
use Rattle.house.specs.Names.{number_of, code}

pub few : (name : Name) → number_of name < 5
few Circulant = omega arith
few Hamming3 = omega arith
few Hamming7 = omega arith
few Hamming15 = omega arith
few Hamming31 = omega arith

pub sizes : (name : Name) → ((code name).n < 32) × ((code name).m < 24) × (1 ≤ (code name).n)
sizes name = house_sizes (number_of name) (few name)

-- no other name has the number of the circulant
pub other : (name : Name) → (name ≡ Circulant → ⊥) → number_of name ≡ 0 → ⊥
other Circulant d e = d refl
other Hamming3 d e = omega arith
other Hamming7 d e = omega arith
other Hamming15 d e = omega arith
other Hamming31 d e = omega arith
