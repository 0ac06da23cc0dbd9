-- A plan that works, carried out in every lane, mends the packets. Assumes nothing.
use mathlib.Core.Path.{◌≡◌, refl, sym, ap, ◌∙◌, fun_ext}
use mathlib.Core.Bool.{Bool, true, false, cond, and-false}
use mathlib.Core.List.{List}
use Prim.Native.Nat.{ℕ, ◌≤◌, ◌<◌}
use native.Mathlib.Omega.{arith}
use native.Mathlib.Decide.{dec_lt}
use lib.Dec.{eqb}
use lib.ListN.{replicate}
use borrow.Author.Tests.{not-true}
use Rattle.parity.specs.Finite.{one, count}
use Rattle.parity.specs.Matrix.{Matrix, lent}
use Rattle.parity.specs.Words.{is_one}
use Rattle.parity.specs.Determining.{some_agrees, determined}
use Rattle.parity.proofs.Finite.Sums.{is_true, is_false, is, count_pos}
use Rattle.parity.proofs.Matrix.Lent.{lent_empty, lent_out}
use Rattle.parity.proofs.Words.Agreeing.{known_value}
use Rattle.parity.proofs.Words.Lanes.{zeros_agree}
use Rattle.sets.specs.Sets.{Short}
use Rattle.result.specs.Result.{held}
use Rattle.result.proofs.Word.{erased_held, ones_held}
use Rattle.residue.specs.Sets.{Apart}
use Rattle.lanes.specs.Lanes.{Lists, mending, contradicted}
use Rattle.lanes.specs.Tiles.{arrived, Mended}
use Rattle.plan.specs.Plan.{Plans}
use Rattle.packets.specs.Sets.{SetMended}

-- a set of no bits is the empty one
pub none_left : (ls : List ℕ) → count 512 (lent 8 ls 0) ≡ 0 → lent 8 ls 0 ≡ lent 8 (replicate 8 0) 0
none_left ls z = fun_ext (λ b. none b ∙ sym (lent_empty 8 8 (replicate 8 0) refl 0 b))
  where
    none : (b : ℕ) → lent 8 ls 0 b ≡ false
    none b = elim (is (lent 8 ls 0 b)) [
      | is_false q ↦ q
      | is_true q ↦ elim (dec_lt b 512) [ yes l ↦ absurd (omega (arith, z, count_pos 512 (lent 8 ls 0) b l q)) | no l ↦ lent_out 8 ls 0 b (omega arith) ]
    ]

module _ (h k : Matrix) (B N M to : ℕ) (p : Lists) (e left : ℕ → Bool) (x x' : Matrix) (y' : ℕ → Bool) (short : Short N e) (out : (b i : ℕ) → N ≤ b → x b i ≡ false)
    (P : Plans h N M e left (mending h k B p) (contradicted h k B M p)) (Q : Mended h k B M p e left N to x x' y') where
  apart : (i : ℕ) → Apart N e (arrived x e i)
  unfolding arrived
  apart i = record { short_e = short.none; short_o = λ b l. rw (out b i l, and-false); apart = λ b q. rw q }

  abbrev none : ℕ → Bool
  none a = false

  none_apart : Apart N e none
  none_apart = record { short_e = short.none; short_o = λ b l. refl; apart = λ b q. refl }

  none_one : (b : ℕ) → is_one (held e none) b ≡ false
  none_one b = ap (λ (s : ℕ → Bool). s b) (ones_held e none (λ a q. refl))

  flag₀ : contradicted h k B M p none ≡ false
  flag₀ = not-true (contradicted h k B M p none) (P.told none none_apart ∙ zeros_agree h N M (held e none) (held e none) (λ b l. refl) (λ b l q. none_one b))

  leaves : (b : ℕ) → b < N → left b ≡ eqb (determined h N M (held e none) b) 2
  leaves b l = sym (ap (λ (s : ℕ → Bool). s b) (erased_held left (mending h k B p none))) ∙ ap (λ (d : ℕ). eqb d 2) (P.word none none_apart flag₀ b l)

  module _ (b i : ℕ) (l : b < N) (u : i < to) where
    kept : y' i ≡ true → x' b i ≡ x b i
    kept f = Q.bits b i l u ∙ rw (sym (Q.flags i u) ∙ f, and-false, and-false)

    stays : left b ≡ true → x' b i ≡ x b i
    stays f = Q.bits b i l u ∙ rw (f, and-false)

    came : e b ≡ false → is_one (held e (arrived x e i)) b ≡ x b i
    came r = ap (λ (s : ℕ → Bool). s b) (ones_held e (arrived x e i) (apart i).apart) ∙ arrives r
      where
        arrives : e b ≡ false → arrived x e i b ≡ x b i
        arrives r = unfold arrived in (rw r)

    value : y' i ≡ false → cond (left b) 2 (one (x' b i)) ≡ determined h N M (held e (arrived x e i)) b
    value f =
        let g : contradicted h k B M p (arrived x e i) ≡ false = sym (Q.flags i u) ∙ f in
        let t : some_agrees h N M (held e (arrived x e i)) ≡ true = sym (P.told (arrived x e i) (apart i)) ∙ rw g in
        let w = P.word (arrived x e i) (apart i) g b l in
        elim (is (left b)) [
          | is_true q ↦ rw q (rw q at w)
          | is_false q ↦ elim (is (e b)) [
            | is_true r ↦ rw (q, Q.bits b i l u, r, q, g) (rw q at w)
            | is_false r ↦ rw (q, Q.bits b i l u, r) (sym (known_value h N M (held e (arrived x e i)) t b l (ap (λ (s : ℕ → Bool). s b) (erased_held e (arrived x e i)) ∙ r) ∙ ap one (came r)))
          ]
        ]

  pub set_mended : SetMended h N M to e left x x' y'
  set_mended = record {
    fewer = P.fewer;
    leaves = leaves;
    told = λ i u. rw (Q.flags i u) (P.told (arrived x e i) (apart i));
    bits = value;
    kept = kept;
    stays = stays;
  }
