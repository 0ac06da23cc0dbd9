-- Packets mended, on the set of those that are lost, with N bits and M checks. Assumes nothing.
use Rattle.std.specs.Prelude.{◌≡◌, Bool, true, false, not, cond, List, ℕ, ◌*◌, ◌≤◌, ◌<◌, eqb, length}
use Rattle.parity.specs.Finite.{one}
use Rattle.parity.specs.Matrix.{Matrix}
use Rattle.parity.specs.Determining.{some_agrees, determined}
use Rattle.result.specs.Result.{held}
use Rattle.lanes.specs.Tiles.{arrived}
use Rattle.lanes.specs.declared.Plan.{Plan}

-- The packets x, of which e are lost, become x', of which `left` are; the lanes y' are flagged. No lane is at `to` or above.
pub record SetMended (h : Matrix) (N M to : ℕ) (e left : ℕ → Bool) (x x' : Matrix) (y' : ℕ → Bool) : Type 0 where
  pub fewer : (b : ℕ) → left b ≡ true → e b ≡ true
  pub leaves : (b : ℕ) → b < N → left b ≡ eqb (determined h N M (held e (λ a. false)) b) 2
  pub told : (i : ℕ) → i < to → not (y' i) ≡ some_agrees h N M (held e (arrived x e i))
  pub bits : (b i : ℕ) → b < N → i < to → y' i ≡ false → cond (left b) 2 (one (x' b i)) ≡ determined h N M (held e (arrived x e i)) b
  pub kept : (b i : ℕ) → b < N → i < to → y' i ≡ true → x' b i ≡ x b i
  pub stays : (b i : ℕ) → b < N → i < to → left b ≡ true → x' b i ≡ x b i

-- the lists that are lent have the lengths that a plan of peeling takes, and its tile has room
pub record Rooms (p : Plan) (ws es rs ss xs ys : List ℕ) : Type 0 where
  pub words : length ws ≡ 4096
  pub used : p.used ≤ 8
  pub bits : p.bits ≤ p.used * 64
  pub checks : p.checks ≤ 512
  pub lost : length es ≡ 8
  pub left : length rs ≡ 8
  pub skip : length ss ≡ 8
  pub packets : length xs ≡ p.bits * length ys
  pub some : 0 < p.lanes
  pub most : p.lanes ≤ 16
  pub tile : p.used * 64 * p.lanes ≤ 2048
