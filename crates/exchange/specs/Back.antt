-- What taking back on the words is made of: the given checks with the two bits in the newest one's place. Assumes nothing.
use Rattle.std.specs.Prelude.{◌≡◌, true, false, cond, ◌&&◌, ◌||◌, ℕ, ◌≤◌, ◌<◌, eqb, ltb}
use Rattle.parity.specs.Finite.{count}
use Rattle.parity.specs.Matrix.{Matrix}

-- g is h with u and v in the place of z in the checks below m that contain z, of which there are s
pub record Restored (h g : Matrix) (m u v z s : ℕ) : Type 0 where
  pub at : (c b : ℕ) → g c b ≡ cond (ltb c m && h c z) (cond (eqb b u || eqb b v) true (cond (eqb b z) false (h c b))) (h c b)
  pub holders : s ≡ count m (λ c. h c z)

-- check M contains u, v and z alone, and no other check from m on contains z
pub record Newer (h : Matrix) (m z M u v : ℕ) : Type 0 where
  pub behind : m ≤ M
  pub below : (u < z) × (v < z)
  pub own : (b : ℕ) → h M b ≡ (eqb b u || eqb b v || eqb b z)
  pub alone : (c : ℕ) → m ≤ c → (c ≡ M → ⊥) → h c z ≡ false
