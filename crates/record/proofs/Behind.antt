-- What loading comes to behind the checks, and what writing starts from. Assumes nothing.
use mathlib.Core.Path.{◌≡◌, refl, ◌∙◌}
use mathlib.Core.Bool.{false}
use mathlib.Core.List.{List}
use Prim.Native.Nat.{ℕ, zero, suc, ◌+◌}
use lib.ListN.{get_or, drop}
use Rattle.parity.specs.Matrix.{Matrix, lent}
use Rattle.parity.specs.Record.{carries, faulty, loaded, loading, form_for}
use Rattle.parity.specs.declared.Form.{Form}
use Rattle.parity.specs.declared.Form.TheVariants.{Second, Third}
use Rattle.parity.specs.Sound.{Sound}
use Rattle.parity.proofs.Record.Reading.{split_none}
use Rattle.parity.proofs.Record.ChecksBack.{checks_sound}
use Rattle.reading.specs.Judge.{ChecksRight, Ends, Breaks}
use Rattle.carried.specs.Perform.{Performs}
use Rattle.record.specs.Fill.{Filled}

module _ (f : Form) (n m : ℕ) (source : List ℕ) (p : ℕ) (R : ChecksRight f n m source p) where
  pub right_sound : Sound R.matrix n m 0
  right_sound = checks_sound f n m (drop 1 source) (drop p source) p R.matrix R.some R.few R.checks R.reads

  pub right_filled : (ws : List ℕ) → Filled m source ws → lent 8 ws ≡ R.matrix
  right_filled ws F = F.holds (drop p source) p R.matrix (rw (R.form, R.bits) R.reads)

  -- without splits
  pub plain_loads : carries f ≡ false → Ends source p → loading source ≡ loaded n m 0 R.matrix
  plain_loads c E = R.loads ∙ E.ends f n m 0 R.matrix (λ l. split_none f R.matrix n m 0 (get_or source p 0) c)

  pub plain_breaks : (q : ℕ) → carries f ≡ false → Breaks source p q → loading source ≡ faulty q
  plain_breaks q c E = R.loads ∙ E.breaks f n m 0 R.matrix (λ l. split_none f R.matrix n m 0 (get_or source p 0) c)

-- with splits, from words g that hold the checks
module _ (n m : ℕ) (source : List ℕ) (p : ℕ) (R : ChecksRight Third n m source p) (g h : Matrix) (k : ℕ) (e : g ≡ R.matrix) (P : Performs source n m p g h k) where
  pub splits_loads : Ends source (p + k) → loading source ≡ loaded n m k h
  splits_loads E = R.loads ∙ (rw e at P.goes) ∙ E.ends Third n m k h P.next

  pub splits_breaks : (q : ℕ) → Breaks source (p + k) q → loading source ≡ faulty q
  splits_breaks q E = R.loads ∙ (rw e at P.goes) ∙ E.breaks Third n m k h P.next

-- the form that is written: k = 0, or above
pub zero_form : (k : ℕ) → k ≡ 0 → Second ≡ form_for k
zero_form k e = rw e

pub some_form : (k : ℕ) → (k ≡ 0 → ⊥) → Third ≡ form_for k
some_form zero d = absurd (d refl)
some_form (suc k) d = refl
