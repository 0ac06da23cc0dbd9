-- The names of the house codes, and their numbers. Assumes nothing.
use Rattle.std.specs.Prelude.{◌≡◌, ◌≤◌, ℕ, Result, Ok, Err}
use Rattle.parity.specs.House.{Code, house_code}
use Rattle.parity.specs.declared.Refusal.{Refusal}
use Rattle.parity.specs.declared.Refusal.TheVariants.{UnknownName}
use Rattle.house.specs.declared.Name.{Name}
use Rattle.house.specs.declared.Name.TheVariants.{Circulant, Hamming3, Hamming7, Hamming15, Hamming31}

-- the number of a name
abbrev pub number_of : Name → ℕ
number_of Circulant = 0
number_of Hamming3 = 1
number_of Hamming7 = 2
number_of Hamming15 = 3
number_of Hamming31 = 4

-- the code of a name
abbrev pub code : Name → Code
code name = house_code (number_of name)

-- the name that has a number, or the refusal of a number that no name has
abbrev pub Named : ℕ → Result Name Refusal → Type 0
Named number (Ok name) = number_of name ≡ number
Named number (Err r) = (r ≡ UnknownName) × (5 ≤ number)
