-- `completes_further` meets its contract. Assumes nothing.
use mathlib.Core.Path.{◌≡◌, sym, ◌∙◌}
use Prim.Native.Nat.{◌*◌}
use native.Mathlib.Omega.{arith}
use Rattle.enumeration.proofs.Lone.{none_more, none_not, completing_is}
use Rattle.enumeration.proofs.checks.completes_further.Goals as goal

pub loop-i-init : goal.loop-i-init
loop-i-init c = (omega arith, omega arith, sym (completing_is _ _ _ 64 c.args.d) ∙ c.requires.d_value)

pub lone_at-requires : goal.lone_at-requires
lone_at-requires c = let z = c.requires.sized.0 in
    (z.columns, z.once, z.some, c.requires.sized.1, omega (arith, z.most))

pub returns-then-lone_at-ne0 : goal.returns-then-lone_at-ne0
returns-then-lone_at-ne0 c = let l = c.loop-i in
    sym (completing_is _ _ _ (c.args.used * 64) c.args.d ∙ none_not 8 c.args.cols.now c.args.once.now c.args.some.now c.args.d (λ i. omega (arith, c.type_inv.some i)) (λ i. omega (arith, c.type_inv.cols i)) (λ i. omega (arith, c.type_inv.once i)) l.i c.args.used (omega arith) (omega arith) (λ e. c.if-lone_at-ne0.true (c.lone_at.ensures ∙ e)))

pub loop-i-preserved : goal.loop-i-preserved
loop-i-preserved c = let l = c.loop-i in
    (omega arith, omega arith, none_more 8 c.args.cols.now c.args.once.now c.args.some.now c.args.d (λ i. omega (arith, c.type_inv.some i)) (λ i. omega (arith, c.type_inv.cols i)) l.i (omega arith) (sym c.lone_at.ensures ∙ c.if-lone_at-ne0.false) l.invariant.2)

pub returns : goal.returns
returns c = let l = c.loop-i in
    let e : l.i ≡ c.args.used = omega arith in
    sym (completing_is c.args.cols.now c.args.once.now c.args.some.now (c.args.used * 64) c.args.d ∙ rw e at l.invariant.2)
