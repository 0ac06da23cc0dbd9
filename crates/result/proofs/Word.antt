-- The word that the sets of its erased bits and of its ones hold, and the word that results. Assumes nothing.
use mathlib.Core.Path.{◌≡◌, refl, sym, ap, ◌∙◌, fun_ext}
use mathlib.Core.Bool.{Bool, true, false, cond, and-false}
use mathlib.Core.List.{List}
use Prim.Native.Nat.{ℕ, ◌+◌, ◌*◌, ◌-◌, ◌≤◌, ◌<◌}
use native.Mathlib.Omega.{arith}
use lib.Dec.{eqb}
use lib.ListN.{length}
use borrow.Author.Tests.{lt-ltb, eqb-true}
use Rattle.parity.specs.Finite.{one, list_from}
use Rattle.parity.specs.Matrix.{lent}
use Rattle.parity.specs.Words.{erased, is_one, within, losses}
use Rattle.parity.specs.Calls.{byte_of}
use Rattle.parity.proofs.Finite.Sums.{is_true, is_false, is}
use Rattle.parity.proofs.Finite.Lists.{list_from_cong}
use Rattle.parity.proofs.Words.Residue.{withins}
use Rattle.parity.proofs.Words.Bytes.{erasable_erased}
use Rattle.sets.specs.Sets.{SetOf}
use Rattle.sets.specs.Losses.{set_losses}
use Rattle.sets.proofs.Sizes.{losses_sets}
use Rattle.sets.proofs.Short.{set_short}
use Rattle.result.specs.Result.{held, filled}

-- the erased bits of the word, and its ones
pub erased_held : (e o : ℕ → Bool) → erased (held e o) ≡ e
erased_held e o = fun_ext (λ a. erasable_erased (e a) (o a))

pub ones_held : (e o : ℕ → Bool) → ((a : ℕ) → e a ≡ true → o a ≡ false) → is_one (held e o) ≡ o
ones_held e o f = fun_ext (λ a. go (e a) (o a) (f a))
  where
    go : (x y : Bool) → (x ≡ true → y ≡ false) → eqb (cond x 2 (one y)) 1 ≡ y
    go true y f = sym (f refl)
    go false true f = refl
    go false false f = refl

-- the set of the lost bits
pub lost_is : (W : ℕ) (w es : List ℕ) → SetOf W w 2 es → (b : ℕ) → b < length w → erased (byte_of w) b ≡ lent W es 0 b
lost_is W w es E b l = sym (E.at b ∙ rw (lt-ltb b (length w) l))

-- A word that results, of n sent and k added bits, where the sets e and o hold it and it keeps what was not lost.
module _ (W n k : ℕ) (w es : List ℕ) (size : length w ≡ n + k) (few : length w ≤ W * 64) (E : SetOf W w 2 es) (e o : ℕ → Bool) (part : within (W * 64) e (lent W es 0) ≡ true)
    (result : ℕ → ℕ) (is_held_lem : (b : ℕ) → b < n + k → result b ≡ held e o b) (keeps : (b : ℕ) → b < n + k → erased (byte_of w) b ≡ false → result b ≡ byte_of w b) where
  pub result_losses : losses n k (byte_of w) result ≡ set_losses n (W * 64 - n) (lent W es 0) e
  result_losses =
      losses_sets (W * 64) n k (byte_of w) result (lent W es 0) e (omega arith) part (λ b l. (set_short W w 2 es E).none b (omega arith))
      (λ b l. lost_is W w es E b (omega arith)) (λ b l. ap (λ a. eqb a 2) (is_held_lem b l) ∙ ap (λ (f : ℕ → Bool). f b) (erased_held e o))

  pub result_bytes : list_from 0 (n + k) result ≡ list_from 0 (length w) (filled (lent W es 0) e o (byte_of w))
  result_bytes = rw size (list_from_cong 0 (n + k) result (filled (lent W es 0) e o (byte_of w)) (λ j l. at (0 + j) (omega arith)))
    where
      at : (b : ℕ) → b < n + k → result b ≡ filled (lent W es 0) e o (byte_of w) b
      at b l =
          elim (is (e b)) [
            | is_true p ↦ is_held_lem b l ∙ rw (p, and-false) (sym (eqb-true (byte_of w b) 2 (lost_is W w es E b (omega arith) ∙ (withins (W * 64) e (lent W es 0)).0 part b (omega arith) p)))
            | is_false p ↦ elim (is (lent W es 0 b)) [
              | is_true q ↦ is_held_lem b l ∙ rw (p, q)
              | is_false q ↦ rw q (keeps b l (lost_is W w es E b (omega arith) ∙ q))
            ]
          ]
